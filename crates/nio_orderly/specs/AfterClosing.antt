-- What is left once a closing has done all its steps, whatever other callers do then.
use Rattle.std.specs.Prelude.{◌≡◌, ℕ, ◌<◌, IsTrue, IsFalse, List, ◌∷◌, ◌++◌}
use mathlib.Core.List.{IsPrefix}
use Rattle.nio_base.specs.Limits.{IsFit}
use Rattle.nio_base.specs.declared.limits.Limits.{Limits}
use Rattle.nio_base.specs.declared.numbers.CallerNo.{CallerNo}
use Rattle.nio_base.specs.declared.numbers.ChanId.{ChanId}
use Rattle.nio_base.specs.declared.numbers.KeyId.{KeyId}
use Rattle.nio_base.specs.declared.numbers.SelNo.{SelNo}
use Rattle.nio_history.specs.Conditions.{is_closer}
use Rattle.nio_history.specs.Histories.{state_after, mine, IsLegal}
use Rattle.nio_history.specs.OwnEvents.{has, enters, since_entered}
use Rattle.nio_history.specs.Sets.{is_valid}
use Rattle.nio_history.specs.declared.act.Act.{Act}
use Rattle.nio_history.specs.declared.event.Event.{Event}
use Rattle.nio_orderly.specs.Careful.{IsCareful}
use Rattle.nio_history.specs.OwnEvents.{closes}
use Rattle.nio_orderly.specs.Owed.{owes, closing_duty, clearing_duty, publishes_key, publisher_duty, key_of}
use Rattle.nio_orderly.specs.Owed.{channel_of_key, OwesSince}

-- the caller closed the channel, and owes the cancelling of no key of it
pub record HasClosedChannel (l : Limits) (n : CallerNo) (c : ChanId) (events : List Event) : Type 0 where
  pub before : List Act
  pub act : Act
  pub since : List Act
  pub did : mine n events ≡ before ++ act ∷ since
  pub closed : IsTrue (closes c act)
  pub settled : (s : ℕ) → s < l.selectors → (k : KeyId) → IsFalse (owes (closing_duty c s k) since)

-- of each valid key of the channel, ever after, the publisher owes the cancelling
abbrev pub OnlyPublishersOwe : Type 0
OnlyPublishersOwe = (l : Limits) (n : CallerNo) (c : ChanId) (before after : List Event) → IsFit l
    → IsPrefix before after → IsLegal l after → IsCareful after
    → HasClosedChannel l n c before
    → (s i : ℕ) → IsTrue (is_valid ((state_after after).key s i)) → channel_of_key (state_after after) s i ≡ c
    → OwesSince after (publishes_key c.number.0 s (key_of (state_after after) s i))
    (publisher_duty c.number.0 s (key_of (state_after after) s i))

-- the caller is the closer of the selector, has entered it, and owes the clearing out of no index
pub record HasClosedSelector (n : CallerNo) (s : SelNo) (events : List Event) : Type 0 where
  pub closer : IsTrue (is_closer (state_after events) n s)
  pub entered : IsTrue (has (enters s.0) (mine n events))
  pub settled : (i : ℕ) → IsFalse (owes (clearing_duty s.0 i) (since_entered s.0 (mine n events)))

-- no key of the selector is valid, ever after
abbrev pub ClosedSelectorsHaveNoKey : Type 0
ClosedSelectorsHaveNoKey = (l : Limits) (n : CallerNo) (s : SelNo) (before after : List Event) → IsFit l
    → IsPrefix before after → IsLegal l after → IsCareful after
    → HasClosedSelector n s before
    → (i : ℕ) → IsFalse (is_valid ((state_after after).key s.0 i))
