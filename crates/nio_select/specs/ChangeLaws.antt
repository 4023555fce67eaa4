-- What a selection that is told does to keys, taken as a whole.
use Rattle.std.specs.Prelude.{◌≡◌, ℕ, ◌<◌, true, false, List, [], ◌++◌, length}
use Rattle.std.specs.List.{All, AllPairs}
use Rattle.nio_history.specs.declared.act.Act.{Act}
use Rattle.nio_steps.specs.SelectCalls.{Selection, Poll, Tells, ToldReply, done, again}
use Rattle.nio_select.specs.KeyChanges.{changes_by}
use Rattle.nio_select.specs.declared.changes.KeyChange.{KeyChange}

-- how many keys the selection says that it updated
abbrev pub updated_by : ToldReply → ℕ
updated_by (done selected) = selected.count
updated_by (again selection) = 0

-- The marked keys come first, as many as the selection says that it updated; then the removed keys. The indexes of both
-- rise, so no key is marked twice or removed twice. A selection that goes on did nothing to keys.
pub record AreInOrder (changes : List KeyChange) (answer : ToldReply) : Type 0 where
  pub marked : List KeyChange
  pub removed : List KeyChange
  pub parts : changes ≡ marked ++ removed
  pub marks : All (λ c. c.removed ≡ false) marked
  pub removals : All (λ c. c.removed ≡ true) removed
  pub counted : length marked ≡ updated_by answer
  pub marks_rise : AllPairs (λ x y. x.index < y.index) marked
  pub removals_rise : AllPairs (λ x y. x.index < y.index) removed
  pub goes_on : (next : Selection) → answer ≡ again next → changes ≡ []

-- What a `told` does to keys is in this order, where the indexes of the looked list rise.
abbrev pub ChangesAreInOrder : Type 0
ChangesAreInOrder =
    (selection : Selection) (poll : Poll) (acts : List Act) (answer : ToldReply)
    → AllPairs (λ x y. x.index < y.index) selection.looked → Tells selection poll acts answer
    → AreInOrder (changes_by selection.looked acts) answer
