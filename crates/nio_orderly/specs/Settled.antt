-- A caller that owes nothing: whatever it published, closed or entered, it has looked, and has settled what it found.
use Rattle.std.specs.Prelude.{◌≡◌, ℕ, ◌<◌, Some, IsTrue, IsFalse, List, ◌∷◌, ◌++◌}
use Rattle.nio_base.specs.Limits.{IsFit}
use Rattle.nio_base.specs.declared.limits.Limits.{Limits}
use Rattle.nio_base.specs.declared.numbers.CallerNo.{CallerNo}
use Rattle.nio_base.specs.declared.numbers.ChanNo.{ChanNo}
use Rattle.nio_base.specs.declared.numbers.KeyId.{KeyId}
use Rattle.nio_base.specs.declared.numbers.SelNo.{SelNo}
use Rattle.nio_history.specs.Acts.{takes_close}
use Rattle.nio_history.specs.Histories.{state_after, mine, IsLegal}
use Rattle.nio_history.specs.OwnEvents.{OwnClaim, has, enters, since_entered, own_claim}
use Rattle.nio_history.specs.Sets.{is_valid}
use Rattle.nio_history.specs.declared.act.Act.{Act}
use Rattle.nio_history.specs.declared.act.Act.TheVariants.{Publish, CloseBit}
use Rattle.nio_history.specs.declared.event.Event.{Event}
use Rattle.nio_history.specs.declared.found.Chan.{Chan}
use Rattle.nio_history.specs.declared.found.Stage.{Stage}
use Rattle.nio_orderly.specs.Careful.{IsCareful}
use Rattle.nio_orderly.specs.Owed.{owes, publisher_duty, closing_duty, clearing_duty}
use Rattle.nio_steps.specs.Names.{channel_of}

-- the key of index i that was claimed
abbrev pub claimed_key : ℕ → OwnClaim → KeyId
claimed_key i claim = record { index = i; serial = claim.serial }

-- by what it did, a caller owes nothing
pub record IsSettled (l : Limits) (own : List Act) : Type 0 where
  -- of no key that it published, unless the key was removed before
  pub published : (before : List Act) (s : SelNo) (i : ℕ) (found : Stage) (later : List Act)
      → own ≡ before ++ Publish s i found ∷ later → IsFalse found.removed
      → (claim : OwnClaim) → own_claim s.0 i before ≡ Some claim
      → IsFalse (owes (publisher_duty claim.channel.0 s.0 (claimed_key i claim)) later)
  -- of no channel that it closed, in no selector
  pub closed : (before : List Act) (c : ChanNo) (from found : Chan) (later : List Act)
      → own ≡ before ++ CloseBit c from found ∷ later → IsTrue (takes_close from found)
      → (s : ℕ) → s < l.selectors → (k : KeyId)
      → IsFalse (owes (closing_duty (channel_of c from.serial) s k) later)
  -- of no selector that it entered
  pub entered : (s i : ℕ) → IsTrue (has (enters s) own) → IsFalse (owes (clearing_duty s i) (since_entered s own))

-- where nobody owes anything, no closed channel and no selector whose closer has entered has a valid key
pub record HasNoLostKey (events : List Event) : Type 0 where
  pub channels : (s i : ℕ) → IsTrue (is_valid ((state_after events).key s i))
      → IsFalse ((state_after events).chan ((state_after events).key s i).chan.0).closed
  pub selectors : (s i : ℕ) → IsTrue (is_valid ((state_after events).key s i))
      → IsFalse ((state_after events).entered s)

abbrev pub SettledLosesNoKey : Type 0
SettledLosesNoKey = (l : Limits) (events : List Event) → IsFit l → IsLegal l events → IsCareful events
    → ((n : CallerNo) → IsSettled l (mine n events)) → HasNoLostKey events
