-- The looked list of a beginning with the selector's list, while it looks at the touched indexes from the lowest to the
-- highest.
use Rattle.std.specs.Prelude.{◌≡◌, ℕ, ◌<◌, ◌≤◌, ◌||◌, IsFalse, List, length}
use Rattle.std.specs.List.{All, AllPairs}
use Rattle.nio_base.specs.declared.numbers.SelNo.{SelNo}
use Rattle.nio_history.specs.Lists.{takes_bit}
use Rattle.nio_history.specs.OwnEvents.{has}
use Rattle.nio_history.specs.declared.act.Act.{Act}
use Rattle.nio_steps.specs.Lists.{listed_at}
use Rattle.nio_select.specs.Asked.{Looked, AreBelow, has_changed}

-- The changed indexes rise, are below `upto` and are at most so many; the indexes of the keys are below the limit.
pub record IsTakenOn (upto limit : ℕ) (asked : Looked) : Type 0 where
  pub rise : AllPairs (λ x y. x < y) asked.changed
  pub low : All (λ i. i < upto) asked.changed
  pub few : length asked.changed ≤ upto
  pub below : AreBelow limit asked.keys

-- From `old` to `new` the beginning looked at further indexes. An index that isn't in `changed` now wasn't there
-- before, and its key is the same.
pub record TakesOn (upto limit : ℕ) (old new : Looked) : Type 0 where
  pub on : IsTakenOn upto limit new
  pub before : (i : ℕ) → IsFalse (has_changed new.changed i) → IsFalse (has_changed old.changed i)
  pub others : (i : ℕ) → IsFalse (has_changed new.changed i) → listed_at new.keys i ≡ listed_at old.keys i

-- the indexes whose bits these acts took were added
abbrev pub AddsTaken : SelNo → List Act → (before now : List ℕ) → Type 0
AddsTaken s acts before now = (i : ℕ) → has_changed now i ≡ (has_changed before i || has (takes_bit s.0 i) acts)
