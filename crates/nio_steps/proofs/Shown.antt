-- The indexes that a word shows.
use Rattle.std.proofs.Common.{◌≡◌, ℕ, zero, suc, ◌+◌, ◌*◌, ◌/◌, ◌%◌, ◌≤◌, ◌==◌, Bool, true, false}
use Rattle.std.proofs.Common.{if◌then◌else◌, List, [], ◌∷◌, ◌++◌, refl, ap, sym, ◌∙◌, subst, eqb-true, arith}
use Rattle.std.specs.List.{All, Contains}
use Rattle.std.proofs.lemmas.Bool.{or_from}
use Rattle.std.proofs.lemmas.List.Elements.{All-nil, All-push, All-contains}
use Rattle.std.proofs.lemmas.List.Folds.{list_any-append}
use Rattle.nio_history.specs.declared.act.Act.{Act}
use Rattle.nio_steps.proofs.ListedBy.{has_index, shown_there}
use Rattle.nio_steps.proofs.Lists.{contains-middle}
use Rattle.nio_steps.proofs.Walks.{Always, always_any, always_over, always_weaker}
use Rattle.nio_steps.specs.KeyCalls.{has_bit}
use Rattle.nio_steps.specs.Looking.{shown}
use Rattle.nio_steps.specs.Plan.{Plan}
use Rattle.nio_steps.specs.Sweeps.{sweep_over}

-- one of the 64 indexes from 64 times j on whose bit the word has
pub record IsShown (word j k : ℕ) : Type 0 where
  pub word_is : k / 64 ≡ j
  pub bit : has_bit word (k % 64) ≡ true

-- the word shows no others
pub shown-only : (word j n : ℕ) → n ≤ 64 → All (IsShown word j) (shown word j n)
unfolding shown
shown-only word j zero few = All-nil (IsShown word j)
shown-only word j (suc n) few = by_test (has_bit word n) refl (shown-only word j n (omega arith))
  where
    bit_is : n ≡ (64 * j + n) % 64
    bit_is = omega arith

    by_test : (b : Bool) → has_bit word n ≡ b → All (IsShown word j) (shown word j n)
        → All (IsShown word j) (if b then shown word j n ++ (64 * j + n) ∷ [] else shown word j n)
    by_test true is rest =
        All-push (IsShown word j) (shown word j n) (64 * j + n) rest
        (record { word_is = omega arith; bit = ap (has_bit word) (sym bit_is) ∙ is })
    by_test false is rest = rest

-- and each of them
pub shown-all : (word i : ℕ) → has_bit word (i % 64) ≡ true → has_index i (shown word (i / 64) 64) ≡ true
shown-all word i bit =
    let is : 64 * (i / 64) + i % 64 ≡ i = omega arith in
    subst (λ (k : ℕ). has_index k (shown word (i / 64) 64) ≡ true) is
    (shown_there word (i / 64) (i % 64) 64 (omega arith) bit)

-- ---- going over a list of indexes

module _ {A : Type 0} (P : List Act → A → Type 0) (i : ℕ) (f : ℕ → A → Plan A) where
  -- the steps at another index leave what holds
  abbrev pub Elsewhere : Type 0
  Elsewhere = (k : ℕ) (acts : List Act) (y : A) → (k == i) ≡ false → P acts y
      → Always (λ zs z. P (acts ++ zs) z) (f k y)

  abbrev Left : List ℕ → List Act → A → Type 0
  Left past acts y = has_index i past ≡ true → P acts y

  -- one that has the index, at which it comes to hold
  pub over_one : (indexes : List ℕ) (x : A) → ((acts : List Act) (y : A) → Always (λ zs z. P (acts ++ zs) z) (f i y))
      → Elsewhere → has_index i indexes ≡ true → Always P (sweep_over indexes f x)
  over_one indexes x here elsewhere there =
      always_weaker (Left indexes) P (sweep_over indexes f x)
      (λ acts y left. left there)
      (always_over Left indexes f x (λ none. absurd (cc none)) (λ past e later acts y _ left. turn past e acts y left))
    where
      turn : (past : List ℕ) (e : ℕ) (acts : List Act) (y : A) → Left past acts y
          → Always (λ zs z. Left (past ++ e ∷ []) (acts ++ zs) z) (f e y)
      turn past e acts y left = by_test (e == i) refl (has_index i past) refl
        where
          by_test : (b : Bool) → (e == i) ≡ b → (c : Bool) → has_index i past ≡ c
              → Always (λ zs z. Left (past ++ e ∷ []) (acts ++ zs) z) (f e y)
          by_test true is c any =
              let same : i ≡ e = sym (eqb-true e i is) in
              always_weaker (λ zs z. P (acts ++ zs) z) (λ zs z. Left (past ++ e ∷ []) (acts ++ zs) z) (f e y)
              (λ zs z holds _. holds)
              (subst (λ (k : ℕ). Always (λ zs z. P (acts ++ zs) z) (f k y)) same (here acts y))
          by_test false is true any =
              always_weaker (λ zs z. P (acts ++ zs) z) (λ zs z. Left (past ++ e ∷ []) (acts ++ zs) z) (f e y)
              (λ zs z holds _. holds) (elsewhere e acts y is (left any))
          by_test false is false any =
              always_weaker (λ _ _. Unit {0}) (λ zs z. Left (past ++ e ∷ []) (acts ++ zs) z) (f e y)
              (λ zs z _ has_it. absurd (cc
              (sym has_it ∙ (list_any-append (λ (k : ℕ). k == i) past (e ∷ []) ∙ or_from _ _ any (or_from _ _ is refl)))))
              (always_any (f e y))

  -- one that hasn't
  pub over_others : (indexes : List ℕ) (x : A) → Elsewhere → All (λ k. (k == i) ≡ false) indexes → P [] x
      → Always P (sweep_over indexes f x)
  over_others indexes x elsewhere others here =
      always_over (λ _ acts y. P acts y) indexes f x here
      (λ past e later acts y parts holds. elsewhere e acts y
      (All-contains (λ (k : ℕ). (k == i) ≡ false) indexes e others
      (subst (λ xs. Contains xs e) (sym parts) (contains-middle past e later))) holds)
