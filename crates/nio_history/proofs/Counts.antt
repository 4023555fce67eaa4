-- How many pins are on an index: none exactly where nobody has one.
use Rattle.std.proofs.Common.{◌≡◌, ℕ, zero, suc, ◌==◌, ◌<◌, ◌≤◌, Bool, true, false, not, if◌then◌else◌, inl, inr, refl}
use Rattle.std.proofs.Common.{ap, subst, eqb-true, eq-eqb, arith}
use Rattle.std.proofs.lemmas.Bool.{cases_lt, not-false}
use Rattle.nio_history.specs.Answers.{count_below, pins, is_pinned}
use Rattle.nio_history.specs.State.{State}

-- a number that passes is counted
count_some : (n : ℕ) (test : ℕ → Bool) (i : ℕ) → i < n → test i ≡ true → 1 ≤ count_below n test
unfolding count_below
count_some zero test i below passes = absurd (omega arith)
count_some (suc n) test i below passes =
    elim (cases_lt i n) [
      | inl lower ↦
          let some : 1 ≤ count_below n test = count_some n test i lower passes in
          omega arith
      | inr upper ↦
          let same : i ≡ n = omega arith in
          let one : ◌≡◌ {A = ℕ} (if test n then 1 else 0) 1 = ap (λ b. if b then 1 else 0)
          (subst (λ (k : ℕ). test k ≡ true) same passes) in
          omega (arith, one)
    ]

-- where none passes, none is counted
pub count_none : (n : ℕ) (test : ℕ → Bool) → ((i : ℕ) → i < n → test i ≡ false) → count_below n test ≡ 0
unfolding count_below
count_none zero test fails = refl
count_none (suc n) test fails =
    let rest : count_below n test ≡ 0 = count_none n test (λ i below. fails i (omega arith)) in
    let last : ◌≡◌ {A = ℕ} (if test n then 1 else 0) 0 = ap (λ b. if b then 1 else 0) (fails n (omega arith)) in
    omega (arith, rest, last)

-- an index that somebody has a pin on is pinned
pub pinned_by : (st : State) (s i n : ℕ) → n < 64 → st.pinned s i n ≡ true → is_pinned st s i ≡ false → ⊥
pinned_by st s i n below pin unpinned =
    let some : 1 ≤ pins st s i = count_some 64 (st.pinned s i) n below pin in
    let none : pins st s i ≡ 0 = eqb-true (pins st s i) 0 (not-false (pins st s i == 0) unpinned) in
    absurd (omega arith)

pub pinned_by_nobody : (st : State) (s i : ℕ) → ((n : ℕ) → n < 64 → st.pinned s i n ≡ false) → is_pinned st s i ≡ false
pinned_by_nobody st s i nobody = ap not (eq-eqb (pins st s i) 0 (count_none 64 (st.pinned s i) nobody))
