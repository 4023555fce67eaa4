-- What is left of pieces of bytes.
use Rattle.std.proofs.Common.{◌≡◌, ◌≢◌, ℕ, ◌+◌, ◌<◌, ◌≤◌, min, List, [], ◌∷◌, ◌++◌, length, map, get_or, take, drop}
use Rattle.std.proofs.Common.{refl, ap, arith, sym, ◌∙◌, length-drop}
use Rattle.std.proofs.lemmas.List.{drop_min, map-append, take_more}
use Rattle.nio_link.specs.Links.{IsGot}
use Rattle.nio_link.specs.Pieces.{pieces_left, pieces_after, got_of, count_of, total}

-- what is left where a piece was begun
pub left_next : (begun : List ℕ) (piece : List ℕ) (later : List (List ℕ)) (room count : ℕ) → begun ≡ []
    → 0 < length piece → count ≡ min room (length piece)
    → pieces_left (drop count piece) later ≡ pieces_after (pieces_left begun (piece ∷ later)) room
left_next [] [] later room count over some is = absurd (omega arith)
left_next [] (byte ∷ rest) later room count over some is =
    ap (λ (left : List ℕ). pieces_left left later) (ap (λ n. drop n (byte ∷ rest)) is ∙ drop_min room (byte ∷ rest))
left_next (b ∷ begun) piece later room count over some is = absurd (cc)

total_left : (left : List ℕ) (later : List (List ℕ)) → total (pieces_left left later) ≡ length left + total later
total_left [] later = omega arith
total_left (byte ∷ rest) later = refl

-- a read takes its bytes from the pieces
pub total_after : (pieces : List (List ℕ)) (room : ℕ)
    → total (pieces_after pieces room) + count_of (got_of pieces room) ≤ total pieces
total_after [] room = omega arith
total_after ([] ∷ later) room = omega arith
total_after ((byte ∷ rest) ∷ later) room =
    omega (arith, total_left (drop room (byte ∷ rest)) later, length-drop room (byte ∷ rest))

-- what a read puts into the buffer
pub is_got : (pieces : List (List ℕ)) (buffer : List ℕ) → buffer ≢ []
    → IsGot buffer (got_of pieces (length buffer))
is_got [] buffer some = tt
is_got ([] ∷ later) buffer some = tt
is_got ((byte ∷ rest) ∷ later) [] some = absurd (some refl)
is_got ((byte ∷ rest) ∷ later) (x ∷ buffer) some = (omega arith, omega arith)

total-added : (pieces : List (List ℕ)) (piece : List ℕ) → total (pieces ++ piece ∷ []) ≡ total pieces + length piece
total-added [] piece = omega arith
total-added (first ∷ pieces) piece = omega (arith, total-added pieces piece)

-- how many bytes one piece more has
pub total_more : {X : Type 0} (f : X → List ℕ) (xs : List X) (i : ℕ) (x : X) → i < length xs → x ≡ get_or xs i x
    → total (map f (take (i + 1) xs)) ≡ total (map f (take i xs)) + length (f x)
total_more f xs i x within is =
    ap (λ ys. total (map f ys)) (take_more xs i x within)
    ∙ ap total (map-append f (take i xs) (get_or xs i x ∷ []))
    ∙ total-added (map f (take i xs)) (f (get_or xs i x))
    ∙ ap (λ y. total (map f (take i xs)) + length (f y)) (sym is)
