-- A selector's list, as it is taken on at one index more.
use Rattle.std.proofs.Common.{◌≡◌, ℕ, ◌+◌, ◌<◌, ◌≤◌, ◌==◌, ◌||◌, Bool, true, false, Option, [], ◌∷◌, ◌++◌}
use Rattle.std.proofs.Common.{length, refl, ap, sym, ◌∙◌, subst, arith}
use Rattle.std.specs.List.{All, AllPairs}
use Rattle.std.specs.Option.{ForSome}
use Rattle.std.proofs.lemmas.List.{length-append}
use Rattle.std.proofs.lemmas.List.Elements.{All-nil, All-push, All-weaker}
use Rattle.std.proofs.lemmas.List.Folds.{list_any-append}
use Rattle.nio_steps.proofs.Lists.{pairs-none, pairs-push}
use Rattle.nio_steps.proofs.Relisted.{relisted, relisted_elsewhere, relisted_all}
use Rattle.nio_steps.specs.declared.looked.LookedKey.{LookedKey}
use Rattle.nio_select.specs.Asked.{Looked, AreBelow, Changes, has_changed}
use Rattle.nio_select.specs.Touched.{IsTakenOn, TakesOn}

-- before the first index
pub taken_first : (limit : ℕ) (asked : Looked) → asked.changed ≡ [] → AreBelow limit asked.keys → IsTakenOn 0 limit asked
taken_first limit asked none below = record {
  rise = subst (AllPairs (λ x y. x < y)) (sym none) (pairs-none (λ x y. x < y));
  low = subst (All (λ i. i < 0)) (sym none) (All-nil (λ i. i < 0));
  few = omega (arith, ap length none);
  below = below;
}

-- up to a later index
pub taken_later : (upto later limit : ℕ) (asked : Looked) → upto ≤ later → IsTakenOn upto limit asked
    → IsTakenOn later limit asked
taken_later upto later limit asked on taken = record {
  rise = taken.rise;
  low = All-weaker (λ i. i < upto) (λ i. i < later) (λ i low. omega (arith, low, on)) asked.changed taken.low;
  few = omega (arith, on, taken.few);
  below = taken.below;
}

pub takes_none : (upto limit : ℕ) (asked : Looked) → IsTakenOn upto limit asked → TakesOn upto limit asked asked
takes_none upto limit asked taken = record { on = taken; before = λ i free. free; others = λ i free. refl }

pub takes_later : (upto later limit : ℕ) (old new : Looked) → upto ≤ later → TakesOn upto limit old new
    → TakesOn later limit old new
takes_later upto later limit old new on takes = record {
  on = taken_later upto later limit new on takes.on;
  before = takes.before;
  others = takes.others;
}

pub takes_then : (m n limit : ℕ) (old middle new : Looked) → TakesOn m limit old middle → TakesOn n limit middle new
    → TakesOn n limit old new
takes_then m n limit old middle new first second = record {
  on = second.on;
  before = λ i free. first.before i (second.before i free);
  others = λ i free. second.others i free ∙ first.others i (second.before i free);
}

-- at one index more
module _ (i limit : ℕ) (asked : Looked) (now : Option LookedKey) where
  parts : (k : ℕ) → has_changed (asked.changed ++ i ∷ []) k ≡ false → (has_changed asked.changed k ≡ false) × ((i == k) ≡ false)
  parts k free =
      let both = neither (has_changed asked.changed k) ((i == k) || false)
      (sym (list_any-append (λ n. n == k) asked.changed (i ∷ [])) ∙ free) in
      (both.0, (neither (i == k) false both.1).0)
    where
      neither : (a b : Bool) → (a || b) ≡ false → (a ≡ false) × (b ≡ false)
      neither false b is = (refl, is)
      neither true b is = absurd (cc is)

  pub takes_one : IsTakenOn i limit asked → i < limit → ForSome now (λ e. e.index ≡ i)
      → TakesOn (i + 1) limit asked
      (record asked { keys = relisted i now asked.keys; changed = asked.changed ++ i ∷ [] })
  takes_one before inside at = record {
    on = record {
      rise = pairs-push (λ x y. x < y) asked.changed i before.rise before.low;
      low = All-push (λ k. k < i + 1) asked.changed i
          (All-weaker (λ k. k < i) (λ k. k < i + 1) (λ k low. omega (arith, low)) asked.changed before.low) (omega arith);
      few = omega (arith, before.few, length-append asked.changed (i ∷ []));
      below = relisted_all (λ e. e.index < limit) i now asked.keys
          (λ e is. subst (λ (n : ℕ). n < limit) (sym (at e is)) inside) before.below;
    };
    before = λ k free. (parts k free).0;
    others = λ k free. relisted_elsewhere i k now asked.keys at (parts k free).1;
  }

-- in all
pub changes : (upto limit : ℕ) (old new : Looked) → TakesOn upto limit old new
    → Changes old.keys new.keys new.changed
changes upto limit old new takes = record { rise = takes.on.rise; others = takes.others }
