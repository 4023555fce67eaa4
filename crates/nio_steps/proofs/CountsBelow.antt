-- How many numbers below a bound pass a test.
use Rattle.std.proofs.Common.{◌≡◌, ℕ, zero, suc, ◌+◌, ◌≤◌, Bool, true, false, if◌then◌else◌, refl, ap, sym, ◌∙◌, subst}
use Rattle.std.proofs.Common.{List, ◌++◌, arith}
use Rattle.std.proofs.lemmas.Bool.{or_left, or_right}
use Rattle.std.proofs.lemmas.List.Folds.{list_any-append}
use Rattle.nio_history.specs.Answers.{count_below}
use Rattle.nio_history.specs.OwnEvents.{has}
use Rattle.nio_history.specs.declared.act.Act.{Act}

below-suc : (p : ℕ → Bool) (n : ℕ) → count_below (suc n) p ≡ count_below n p + (if p n then 1 else 0)
unfolding count_below
below-suc p n = refl

below-next : (p : ℕ → Bool) (n : ℕ) → count_below (n + 1) p ≡ count_below n p + (if p n then 1 else 0)
below-next p n =
    let same : suc n ≡ n + 1 = omega arith in
    subst (λ (m : ℕ). count_below m p ≡ count_below n p + (if p n then 1 else 0)) same (below-suc p n)

pub below-more : (p : ℕ → Bool) (n : ℕ) → count_below n p ≤ count_below (n + 1) p
below-more p n = let next = below-next p n in omega (arith, next)

pub below-one : (p : ℕ → Bool) (n : ℕ) → p n ≡ true → count_below (n + 1) p ≡ count_below n p + 1
below-one p n is = below-next p n ∙ ap (λ (b : Bool). count_below n p + (if b then 1 else 0)) is

below-weaker : (p q : ℕ → Bool) (n : ℕ) → ((i : ℕ) → p i ≡ true → q i ≡ true) → count_below n p ≤ count_below n q
unfolding count_below
below-weaker p q zero weaker = omega arith
below-weaker p q (suc n) weaker = by_test (p n) refl (q n) refl (below-weaker p q n weaker)
  where
    by_test : (b : Bool) → p n ≡ b → (c : Bool) → q n ≡ c → count_below n p ≤ count_below n q
        → count_below n p + (if b then 1 else 0) ≤ count_below n q + (if c then 1 else 0)
    by_test true is true is' rest = omega (arith, rest)
    by_test true is false is' rest = absurd (cc (sym (weaker n is) ∙ is'))
    by_test false is c is' rest = omega (arith, rest)

-- ---- how many numbers some act passes the test of

pub counts-more : (shows : ℕ → Act → Bool) (k : ℕ) (acts more : List Act)
    → count_below k (λ i. has (shows i) acts) ≤ count_below k (λ i. has (shows i) (acts ++ more))
counts-more shows k acts more =
    below-weaker (λ i. has (shows i) acts) (λ i. has (shows i) (acts ++ more)) k
    (λ i is. list_any-append (shows i) acts more ∙ or_left _ _ is)

pub counts-later : (shows : ℕ → Act → Bool) (k : ℕ) (earlier acts : List Act)
    → count_below k (λ i. has (shows i) acts) ≤ count_below k (λ i. has (shows i) (earlier ++ acts))
counts-later shows k earlier acts =
    below-weaker (λ i. has (shows i) acts) (λ i. has (shows i) (earlier ++ acts)) k
    (λ i is. list_any-append (shows i) earlier acts ∙ or_right _ _ is)
