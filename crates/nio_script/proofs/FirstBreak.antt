-- A list is good as a whole, or has one first place where it stops being so, and not both.
use Rattle.std.proofs.Common.{◌≡◌, ℕ, suc, ◌+◌, ◌-◌, ◌<◌, List, ◌∷◌, ◌++◌, length, take, sym, ap, ◌∙◌, subst, arith}
use Rattle.std.proofs.Common.{length-append}
use Rattle.std.specs.Prelude.{All}
use Rattle.std.proofs.Math.Seq.{get_or-append_seam, take-append_seam, take-append-add}

-- The items before number n are good, and with it they aren't, whatever follows.
pub record IsBreak {A : Type 0} (IsGood : List A → Type 0) (xs : List A) (n : ℕ) : Type 0 where
  pub item : A
  pub before : List A
  pub after : List A
  pub parts : xs ≡ before ++ item ∷ after
  pub number : length before + 1 ≡ n
  pub good : IsGood before
  pub bad : (rest : List A) → IsGood (before ++ item ∷ rest) → ⊥

-- the first item that isn't so
pub break_of_all : {A : Type 0} (IsSo : A → Type 0) (before after : List A) {xs : List A} {x : A} {n : ℕ}
    → xs ≡ before ++ x ∷ after → length before + 1 ≡ n → All IsSo before → (IsSo x → ⊥) → IsBreak (All IsSo) xs n
break_of_all IsSo before after {x = x} parts number good bad = record {
  item = x;
  before = before;
  after = after;
  parts = parts;
  number = number;
  good = good;
  bad = λ rest all.
      bad (subst IsSo (get_or-append_seam before x rest x)
      (all (length before) x (omega (arith, length-append before (x ∷ rest)))));
}

module _ {A : Type 0} (IsGood : List A → Type 0) (xs : List A) where
  pub unbroken : (n : ℕ) → IsGood xs → IsBreak IsGood xs n → ⊥
  unbroken n good b = b.bad b.after (subst IsGood b.parts good)

  -- no break stands before the first
  not_before : (m n : ℕ) (x : IsBreak IsGood xs m) (y : IsBreak IsGood xs n) → length x.before < length y.before → ⊥
  not_before m n x y h =
      let k = length y.before - length x.before - 1 in
      let many : length y.before ≡ length x.before + suc k = omega arith in
      let front : y.before ≡ x.before ++ x.item ∷ take k x.after =
      sym (take-append_seam y.before (y.item ∷ y.after))
      ∙ ap (take (length y.before)) (sym y.parts ∙ x.parts)
      ∙ ap (λ n. take n (x.before ++ x.item ∷ x.after)) many
      ∙ take-append-add x.before (x.item ∷ x.after) (suc k)
      in
      x.bad (take k x.after) (subst IsGood front y.good)

  pub one_break : (m n : ℕ) → IsBreak IsGood xs m → IsBreak IsGood xs n → m ≡ n
  one_break m n x y =
      let below : length x.before < length y.before → ⊥ = not_before m n x y in
      let above : length y.before < length x.before → ⊥ = not_before n m y x in
      omega (arith, x.number, y.number)
