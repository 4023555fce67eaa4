-- The looked list of a selection rises.
use Rattle.std.proofs.Common.{◌≡◌, ℕ, ◌+◌, ◌<◌, List, [], ◌∷◌, ◌++◌, refl, arith}
use Rattle.std.proofs.Common.{None}
use Rattle.std.specs.List.{All, AllPairs}
use Rattle.std.proofs.lemmas.List.Elements.{All-nil, All-push, All-weaker}
use Rattle.nio_base.specs.declared.numbers.SelNo.{SelNo}
use Rattle.nio_history.specs.declared.act.Act.{Act}
use Rattle.nio_steps.proofs.BeginLaws.{begin-parts}
use Rattle.nio_steps.proofs.Listing.{Turns, always_listed, always_look}
use Rattle.nio_steps.proofs.Lists.{pairs-none, pairs-push}
use Rattle.nio_steps.proofs.Walks.{always_run}
use Rattle.nio_steps.specs.ChannelCalls.{words_below}
use Rattle.nio_steps.specs.Laws.{LooksInOrder}
use Rattle.nio_steps.specs.Looking.{over_not_free, look_over}
use Rattle.nio_steps.specs.declared.looked.LookedKey.{LookedKey}

-- what a selection looked at before index k
record Rises (bound k : ℕ) (looked : List LookedKey) : Type 0 where
  rise : AllPairs (λ x y. x.index < y.index) looked
  low : All (λ x. x.index < k) looked
  below : All (λ x. x.index < bound) looked

module _ (s : SelNo) (bound : ℕ) where
  abbrev Left : ℕ → ℕ → List Act → List LookedKey → Type 0
  Left w k acts looked = Rises bound k looked

  further : (k : ℕ) (looked : List LookedKey) → Rises bound k looked → Rises bound (k + 1) looked
  further k looked rises = record {
    rise = rises.rise;
    low = All-weaker (λ x. x.index < k) (λ x. x.index < k + 1) (λ x here. omega (arith, here)) looked rises.low;
    below = rises.below;
  }

  one_more : (i : ℕ) (looked : List LookedKey) (entry : LookedKey) → entry.index ≡ i → i < bound
      → Rises bound i looked → Rises bound (i + 1) (looked ++ entry ∷ [])
  one_more i looked entry at within rises = record {
    rise = pairs-push (λ x y. x.index < y.index) looked entry rises.rise
        (All-weaker (λ x. x.index < i) (λ x. x.index < entry.index) (λ x here. omega (arith, here, at)) looked
        rises.low);
    low = All-push (λ x. x.index < i + 1) looked entry (further i looked rises).low (omega (arith, at));
    below = All-push (λ x. x.index < bound) looked entry rises.below (omega (arith, at, within));
  }

  turns : Turns s bound (look_over s) Left
  turns = record {
    looks = λ j acts looked act asks rises. rises;
    at = λ w i acts looked within found rises. always_look s i (λ _ y. Rises bound (i + 1) y) looked
        (λ xs removes. further i looked rises)
        (λ xs finds. one_more i looked _ refl within rises)
        (λ xs passes _. further i looked rises);
    passes = λ w j b word acts looked low there bit rises. further _ looked rises;
  }

pub looks_in_order : LooksInOrder
looks_in_order s mode acts selection run =
    let begun = begin-parts s mode None acts selection run in
    let bound = selection.bound in
    let rises = always_run (Left s bound (words_below bound) bound) (over_not_free s bound (look_over s) []) begun.over
    selection.looked
    (always_listed s bound (look_over s) (Left s bound) (turns s bound) []
    (record {
      rise = pairs-none (λ x y. x.index < y.index);
      low = All-nil (λ x. x.index < 0);
      below = All-nil (λ x. x.index < bound);
    })) begun.runs_over in
    record { rise = rises.rise; below = rises.below }
