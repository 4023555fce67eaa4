-- Laws of legal histories: what is permanent stays, what a caller has stays its own, and so a condition
-- that is true where a caller's pass has seen a history stays true while others go on.
use Rattle.std.specs.Prelude.{◌≡◌, ℕ, IsTrue, IsFalse, List, ◌++◌}
use mathlib.Core.List.{IsPrefix}
use Rattle.nio_base.specs.declared.limits.Limits.{Limits}
use Rattle.nio_base.specs.declared.numbers.CallerNo.{CallerNo}
use Rattle.nio_history.specs.Conditions.{Condition}
use Rattle.nio_history.specs.Histories.{state_after, mine, IsLegal}
use Rattle.nio_history.specs.Permanent.{PermanentFact, stands, OwnFact, is_had_by, gives_back}
use Rattle.nio_history.specs.OwnEvents.{has}
use Rattle.nio_history.specs.Sets.{was_published, is_valid_key}
use Rattle.nio_history.specs.Sound.{IsSound, IsWithin}
use Rattle.nio_history.specs.declared.act.Act.{Act}
use Rattle.nio_history.specs.declared.event.Event.{Event}

-- each beginning of a legal history is legal
abbrev pub BeginningsAreLegal : Type 0
BeginningsAreLegal = (l : Limits) (before after : List Event) → IsPrefix before after → IsLegal l after
    → IsLegal l before

-- what is permanent stands after every legal longer history
abbrev pub FactsArePermanent : Type 0
FactsArePermanent = (l : Limits) (before after : List Event) → IsPrefix before after → IsLegal l after
    → (f : PermanentFact) → IsTrue (stands f (state_after before)) → IsTrue (stands f (state_after after))

-- a published key that isn't valid stays so, also where its index is given to a new key
abbrev pub InvalidKeysStayInvalid : Type 0
InvalidKeysStayInvalid = (l : Limits) (before after : List Event) → IsPrefix before after → IsLegal l after
    → (s i serial : ℕ) → IsTrue (was_published ((state_after before).key s i) serial)
    → IsFalse (is_valid_key ((state_after before).key s i) serial)
    → IsFalse (is_valid_key ((state_after after).key s i) serial)

-- what a caller has it has after every legal longer history in which it doesn't give it back itself,
-- whatever others do
abbrev pub OnlyItselfGivesBack : Type 0
OnlyItselfGivesBack = (l : Limits) (n : CallerNo) (before later : List Event) → IsLegal l (before ++ later)
    → (f : OwnFact) → IsFalse (has (gives_back f) (mine n later))
    → IsTrue (is_had_by n f (state_after before)) → IsTrue (is_had_by n f (state_after (before ++ later)))

-- a condition that is true of a step of a caller is true of it after every legal longer history in
-- which the caller has no further event
abbrev pub ConditionsStay : Type 0
ConditionsStay = (l : Limits) (n : CallerNo) (before after : List Event) → IsPrefix before after → IsLegal l after
    → mine n after ≡ mine n before
    → (act : Act) → Condition l (mine n before) (state_after before) n act
    → Condition l (mine n after) (state_after after) n act

-- the state after a legal history is sound; among other things, every index below a selector's keys'
-- high-water mark is claimed
abbrev pub StatesAreSound : Type 0
StatesAreSound = (l : Limits) (events : List Event) → IsLegal l events → IsSound (state_after events)

-- every number that the state after a legal history speaks of is within the limits
abbrev pub StatesAreWithin : Type 0
StatesAreWithin = (l : Limits) (events : List Event) → IsLegal l events → IsWithin l (state_after events)
