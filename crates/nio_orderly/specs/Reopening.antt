-- Numbers of channels that come back. A number is given to a new channel only where no key of it is in a key set: so a
-- key is a key of one channel as long as it is in the key set.
use Rattle.std.specs.Prelude.{◌≡◌, ℕ, true, Bool, Some, IsTrue, IsFalse, List, [], ◌∷◌, ◌++◌}
use Rattle.std.specs.List.{list_any}
use Rattle.nio_base.specs.Limits.{IsFit}
use Rattle.nio_base.specs.declared.limits.Limits.{Limits}
use Rattle.nio_base.specs.declared.numbers.CallerNo.{CallerNo}
use Rattle.nio_base.specs.declared.numbers.ChanId.{ChanId}
use Rattle.nio_base.specs.declared.numbers.ChanNo.{ChanNo}
use Rattle.nio_base.specs.declared.numbers.KeyId.{KeyId}
use Rattle.nio_base.specs.declared.numbers.SelNo.{SelNo}
use Rattle.nio_history.specs.Histories.{state_after, mine, event_of, IsLegal}
use Rattle.nio_history.specs.Holders.{Keeps}
use Rattle.nio_history.specs.OwnEvents.{has, reopens}
use Rattle.nio_history.specs.Permanent.{a_selection}
use Rattle.nio_history.specs.Pins.{removes}
use Rattle.nio_history.specs.Sets.{in_key_set, is_in_key_set, is_valid}
use Rattle.nio_history.specs.declared.act.Act.{Act}
use Rattle.nio_history.specs.declared.act.Act.TheVariants.{CancelKey, Publish}
use Rattle.nio_history.specs.declared.event.Event.{Event}
use Rattle.nio_history.specs.declared.found.Stage.{Stage}
use Rattle.nio_orderly.specs.Careful.{IsCareful}
use Rattle.nio_orderly.specs.Made.{Made, table_call, IsRun}
use Rattle.nio_orderly.specs.Orderly.{IsOrderly}
use Rattle.nio_orderly.specs.Owed.{channel_of_key}
use Rattle.nio_steps.specs.TableCalls.{close_channel}

-- somebody gave number c to a new channel
abbrev pub is_reopened : ℕ → List Event → Bool
is_reopened c events = list_any (λ e. reopens c e.act) events

-- A key that was published and is in the key set still is a key of the channel that its number had then: nobody gave
-- the number to a new channel since.
abbrev pub KeysKeepTheirChannel : Type 0
KeysKeepTheirChannel =
    (l : Limits) (n : CallerNo) (s : SelNo) (i : ℕ) (found : Stage) (past later : List Event) → IsFit l
    → IsLegal l (past ++ event_of n (Publish s i found) ∷ later)
    → IsCareful (past ++ event_of n (Publish s i found) ∷ later)
    → IsTrue (is_in_key_set ((state_after (past ++ event_of n (Publish s i found) ∷ later)).key s.0 i) found.serial)
    → IsFalse (is_reopened found.chan.0 later)

-- A key was published for the channel of number c: the number had that channel then, and nobody gave it to a new one
-- since.
pub record PublishedFor (c : ChanNo) (s : SelNo) (i serial : ℕ) (events : List Event) : Type 0 where
  pub by : CallerNo
  pub found : Stage
  pub past : List Event
  pub later : List Event
  pub parts : events ≡ past ++ event_of by (Publish s i found) ∷ later
  pub of_serial : found.serial ≡ serial
  pub of_channel : found.chan ≡ c
  pub kept : IsFalse (is_reopened c.0 later)

-- So the key that is enrolled for a number, where it is in the key set, is a key of the channel that the number has, and
-- of none that the number had before.
abbrev pub EnrolledKeysAreOfTheChannel : Type 0
EnrolledKeysAreOfTheChannel =
    (l : Limits) (c : ChanNo) (s : SelNo) (k : KeyId) (events : List Event) → IsFit l → IsLegal l events
    → IsCareful events → (state_after events).enrolled c.0 s.0 ≡ Some k
    → IsTrue (is_in_key_set ((state_after events).key s.0 k.index) k.serial)
    → PublishedFor c s k.index k.serial events

-- So the number of a key that a selection finds in the key set has one channel for that whole selection, unless the
-- selection removes the key.
abbrev pub SelectionsKeepChannels : Type 0
SelectionsKeepChannels = (l : Limits) (n : CallerNo) (s : SelNo) (i : ℕ) (before later : List Event) → IsFit l
    → Keeps l n (a_selection s) before later → IsCareful (before ++ later)
    → IsFalse (has (removes s.0 i) (mine n later))
    → IsTrue (in_key_set ((state_after before).key s.0 i))
    → channel_of_key (state_after (before ++ later)) s.0 i ≡ channel_of_key (state_after before) s.0 i

-- A caller that did `own` is in the middle of this call, and does `next` in it.
pub record IsAmid (l : Limits) (call : Made) (own : List Act) (next : Act) : Type 0 where
  -- what it did before the call, what it did of it so far, and what is left of it
  pub before : List Act
  pub begun : List Act
  pub left : List Act
  pub parts : own ≡ before ++ begun
  pub runs : IsRun l call (begun ++ next ∷ left)

-- Whoever closes a channel cancels no valid key of another one, whether the closing is a call of its own or a part of
-- one. A key that was removed meanwhile may be of a number that has another channel by then: to cancel it changes
-- nothing. That a history is careful isn't enough: a caller that makes bare steps may enrol a key, let the number be
-- given to a new channel, and enrol and publish the key then.
abbrev pub ClosersCancelTheirOwn : Type 0
ClosersCancelTheirOwn =
    (l : Limits) (n : CallerNo) (c : ChanId) (s : SelNo) (i : ℕ) (found : Stage) (past : List Event) → IsFit l
    → IsLegal l (past ++ event_of n (CancelKey s i found) ∷ []) → IsOrderly l past
    → IsAmid l (table_call (close_channel c) true) (mine n past) (CancelKey s i found)
    → IsTrue (is_valid found)
    → channel_of_key (state_after past) s.0 i ≡ c
