-- Where a text is cut at its first byte of a value.
use Rattle.std.proofs.Common.{◌≡◌, ◌≢◌, ℕ, suc, ◌<◌, ◌+◌, ◌-◌, ◌==◌, List, ◌∷◌, ◌++◌, length, get_or, take, drop, Some}
use Rattle.std.proofs.Common.{arith, sym, ap, ◌∙◌, refl, position, All, add-one, length-append}
use Rattle.std.specs.List.{position_or_len}
use Rattle.std.proofs.Math.Seq.{take-append_seam, drop-append-add, get_or-append_seam, drop-cons}
use Rattle.std.proofs.lemmas.List.{get_or_append_left, take-append-drop}
use Rattle.std.proofs.lemmas.List.Sums.{position_or_len_is}
use Rattle.std.proofs.lemmas.Option.{same_Some}
use Rattle.std.proofs.lemmas.List.Quantifiers.{position-Some}
use Rattle.std.proofs.lemmas.Bool.{ne_eqb, eq-eqb, eqb-true}
use Rattle.std.proofs.lemmas.Bool.Decides.{nat_tests}
use Rattle.std.proofs.lemmas.Grind.{common_steps}

position_or_len-cut : (byte : ℕ) (before after : List ℕ) → All (λ b. b ≢ byte) before
    → position_or_len (λ b. b == byte) (before ++ byte ∷ after) ≡ length before
position_or_len-cut byte before after others =
    position_or_len_is (λ b. b == byte) (before ++ byte ∷ after) (length before) 0
    (omega (arith, length-append {A = ℕ}))
    (λ k lt. rw (get_or_append_left before (byte ∷ after) 0 k lt) (ne_eqb (get_or before k 0) byte (others k 0 lt)))
    (λ _. rw (get_or-append_seam before byte after 0) (eq-eqb byte byte refl))

-- the first such byte stands behind what has none
pub position-cut : (byte : ℕ) (text before after : List ℕ) → All (λ b. b ≢ byte) before
    → text ≡ before ++ byte ∷ after → position (λ b. b == byte) text ≡ Some (length before)
position-cut byte text before after others e =
    let at : position_or_len (λ b. b == byte) text ≡ length before = rw e
    (position_or_len-cut byte before after others) in
    let size : length before < length text = omega (arith, ap length e, length-append {A = ℕ}) in
    grind (arith, nat_tests, at, size)

take-length_drop : (text : List ℕ) (n : ℕ) → take (length text - n) (drop n text) ≡ drop n text
take-length_drop text n = grind (arith, common_steps)

-- what stands before the first such byte, the byte, and what stands behind it
pub cut-position : (byte place : ℕ) (text : List ℕ) → position (λ b. b == byte) text ≡ Some place
    → text ≡ take place text ++ byte ∷ take (length text - (place + 1)) (drop (place + 1) text)
cut-position byte place text e =
    let p = position-Some (λ b. b == byte) text place 0 e in
    let is : get_or text place 0 ≡ byte = eqb-true (get_or text place 0) byte p.1 in
    let rest : drop place text ≡ byte ∷ drop (suc place) text = rw (← is) (drop-cons text place 0 p.0) in
    rw (take-length_drop text (place + 1), add-one) (sym (rw rest at (take-append-drop place text)))

pub parts-cut : (byte : ℕ) (text before after : List ℕ) (place : ℕ) → Some place ≡ Some (length before)
    → text ≡ before ++ byte ∷ after
    → (take place text ≡ before) × (take (length text - (place + 1)) (drop (place + 1) text) ≡ after)
parts-cut byte text before after place at e =
    let p : place ≡ length before = same_Some place (length before) at in (
      rw (p, e) (take-append_seam before (byte ∷ after)),
      rw (take-length_drop text (place + 1), p, e) (drop-append-add before (byte ∷ after) 1),
    )

-- parts before and behind the first byte of a value
pub cut_one : (byte : ℕ) (before after front back : List ℕ) → All (λ b. b ≢ byte) before → All (λ b. b ≢ byte) front
    → before ++ byte ∷ after ≡ front ++ byte ∷ back → (before ≡ front) × (after ≡ back)
cut_one byte before after front back h k e =
    let text : List ℕ = before ++ byte ∷ after in
    let first = position-cut byte text before after h refl in
    let second = position-cut byte text front back k e in
    let own = parts-cut byte text before after (length before) refl refl in
    let other = parts-cut byte text front back (length before) (sym first ∙ second) e in
    (sym own.0 ∙ other.0, sym own.1 ∙ other.1)
