-- How much reads and writes of a link in memory move.
use Rattle.std.proofs.Common.{◌≡◌, ℕ, ◌-◌, ◌≤◌, nat_lt, min, Bool, true, false, if◌then◌else◌, Some, Ok, Err}
use Rattle.std.proofs.Common.{IsErr, List, [], ◌∷◌, length, take, drop, refl, ap, sym, ◌∙◌, arith, length-append}
use Rattle.std.proofs.Math.Seq.{take-length}
use Rattle.std.proofs.lemmas.Grind.{common_steps}
use Rattle.std.proofs.lemmas.List.{length-take, length-take-le, take-append-le, take_min}
use Rattle.nio_link.specs.MemoryLinks.{LinkState, link_after_write, put_after, put_of, written}
use Rattle.nio_link.specs.NetPlans.{target_end}
use Rattle.nio_link.specs.Pieces.{first_piece, given, filled_by}
use Rattle.nio_link.specs.declared.memory.plan.PeerPlan.{PeerPlan}
use Rattle.nio_link.specs.declared.net.Put.TheVariants as put

-- ---- reading

-- the front of a piece is what it puts at the front of a buffer
front_filled : (piece buffer : List ℕ) → take (min (length buffer) (length piece)) (filled_by piece buffer)
    ≡ take (min (length buffer) (length piece)) piece
front_filled piece buffer =
    let many : length (take (length buffer) piece) ≡ min (length buffer) (length piece) =
    length-take (length buffer) piece in
    take-append-le (min (length buffer) (length piece)) (take (length buffer) piece) (drop (length piece) buffer)
    (omega (arith, many))
    ∙ ap (λ (n : ℕ). take n (take (length buffer) piece)) (sym many) ∙ take-length (take (length buffer) piece)
    ∙ sym (take_min (length buffer) piece)

front_length : (n : ℕ) (piece : List ℕ) → n ≤ length piece → length (take n piece) ≡ n
front_length n piece within = length-take-le n piece within

pub front_given : (pieces : List (List ℕ)) (buffer : List ℕ)
    → given pieces buffer ≡ take (length (given pieces buffer)) (first_piece pieces)
front_given [] buffer = refl
front_given ([] ∷ later) buffer = refl
front_given ((byte ∷ rest) ∷ later) buffer =
    let front : take (min (length buffer) (length (byte ∷ rest))) (filled_by (byte ∷ rest) buffer)
    ≡ take (min (length buffer) (length (byte ∷ rest))) (byte ∷ rest) = front_filled (byte ∷ rest) buffer in
    let many : length (take (min (length buffer) (length (byte ∷ rest))) (filled_by (byte ∷ rest) buffer))
    ≡ min (length buffer) (length (byte ∷ rest)) =
    ap length front ∙ front_length (min (length buffer) (length (byte ∷ rest))) (byte ∷ rest) (omega arith) in
    front ∙ ap (λ (m : ℕ). take m (byte ∷ rest)) (sym many)

-- ---- writing

shorter : (n : ℕ) (bytes : List ℕ) → length (take n bytes) ≤ n
shorter n bytes = omega (arith, length-take n bytes)

-- a write takes no more than the limit
within_limit : (l : LinkState) (bytes : List ℕ) → length l.put ≤ l.limit
    → length (link_after_write l bytes).put ≤ l.limit
within_limit l bytes so_far = by_test (nat_lt (length l.put) l.limit)
  where
    by_test : (b : Bool) → length (put_after
        (if b then Ok (put.Bytes (min (length bytes) (min l.most (l.limit - length l.put)))) else Err (record {}))
        bytes l.put) ≤ l.limit
    by_test true =
        omega (
          arith,
          length-append l.put (take (min (length bytes) (min l.most (l.limit - length l.put))) bytes),
          shorter (min (length bytes) (min l.most (l.limit - length l.put))) bytes,
          so_far,
        )
    by_test false = so_far

all_within : (l : LinkState) (writes : List (List ℕ)) → length l.put ≤ l.limit
    → length (written l writes).put ≤ l.limit
all_within l [] so_far = so_far
all_within l (bytes ∷ later) so_far = all_within (link_after_write l bytes) later (within_limit l bytes so_far)

same_limit : (l : LinkState) (writes : List (List ℕ)) → (written l writes).limit ≡ l.limit
same_limit l [] = refl
same_limit l (bytes ∷ later) = same_limit (link_after_write l bytes) later

limited : (place n : ℕ) (peer : PeerPlan) → peer.fail_write_after ≡ Some n → (target_end place peer).limit ≤ n
limited place n peer is = rw is (omega arith)

pub at_most : (place n : ℕ) (peer : PeerPlan) (writes : List (List ℕ)) → peer.fail_write_after ≡ Some n
    → length (written (target_end place peer) writes).put ≤ n
at_most place n peer writes is =
    omega (arith, all_within (target_end place peer) writes (omega arith), limited place n peer is)

full_fails : (l : LinkState) (count : ℕ) → l.limit ≤ length l.put → IsErr (put_of l count)
full_fails l count full =
    let over : nat_lt (length l.put) l.limit ≡ false = grind (arith, common_steps) in rw over refl

pub next_fails : (place n : ℕ) (peer : PeerPlan) (writes : List (List ℕ)) (bytes : List ℕ)
    → peer.fail_write_after ≡ Some n → n ≤ length (written (target_end place peer) writes).put
    → IsErr (put_of (written (target_end place peer) writes) (length bytes))
next_fails place n peer writes bytes is full =
    full_fails (written (target_end place peer) writes) (length bytes)
    (omega (arith, same_limit (target_end place peer) writes, limited place n peer is, full))
