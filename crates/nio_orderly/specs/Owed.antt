-- What is owed in a history. Whoever publishes a key then looks at its channel, and cancels the key where it finds
-- the channel closed. Whoever closes a channel then looks for its key in each selector, and cancels it, unless it
-- finds that its number has another channel by then. Whoever closes a selector looks at the keys' high-water mark once
-- it has entered, and removes each key below. So where a key is valid though its channel is closed or its selector is
-- shut, one of them has still to do that.
use Rattle.std.specs.Prelude.{◌≡◌, ℕ, ◌==◌, Bool, true, false, not, ◌&&◌, ◌||◌, if◌then◌else◌, Option, Some, None}
use Rattle.std.specs.Prelude.{is_some, IsTrue, IsFalse, List, [], ◌∷◌, ◌++◌, ◌⊎◌}
use Rattle.nio_base.specs.Limits.{IsFit}
use Rattle.nio_base.specs.declared.limits.Limits.{Limits}
use Rattle.nio_base.specs.declared.numbers.CallerNo.{CallerNo}
use Rattle.nio_base.specs.declared.numbers.ChanId.{ChanId}
use Rattle.nio_base.specs.declared.numbers.KeyId.{KeyId}
use Rattle.nio_history.specs.Histories.{state_after, mine, IsLegal}
use Rattle.nio_history.specs.OwnEvents.{closes, has, since_entered, finds_outside, finds_below}
use Rattle.nio_history.specs.Pins.{removes}
use Rattle.nio_history.specs.Sets.{is_valid, fits_channel, IsRegistered}
use Rattle.nio_history.specs.State.{State}
use Rattle.nio_history.specs.declared.act.Act.{Act}
use Rattle.nio_history.specs.declared.act.Act.TheVariants.{CancelKey, LookChannel, LookKeys, Publish, LookReg}
use Rattle.nio_history.specs.declared.event.Event.{Event}
use Rattle.nio_orderly.specs.Careful.{IsCareful}

-- ---- tests of one act

-- it published the key of index k of selector s, a key of the channel of number c, which so came into the key set
abbrev pub publishes_key : ℕ → ℕ → KeyId → Act → Bool
publishes_key c s k (Publish s' i found) =
    (s'.0 == s) && (i == k.index) && (found.chan.0 == c) && (found.serial == k.serial) && not found.published
    && not found.removed
publishes_key c s k _ = false

-- it looked at the channel of number c; found it closed; found another one than this channel
abbrev pub looks_at_channel : ℕ → Act → Bool
looks_at_channel c (LookChannel c' found) = c'.0 == c
looks_at_channel c _ = false

abbrev pub finds_closed : ℕ → Act → Bool
finds_closed c (LookChannel c' found) = (c'.0 == c) && found.closed
finds_closed c _ = false

abbrev pub finds_another : ChanId → Act → Bool
finds_another c (LookChannel c' found) = (c'.0 == c.number.0) && not (fits_channel found c.serial)
finds_another c _ = false

-- it looked at which key is enrolled for channel c in selector s; and found this key
abbrev pub looks_for_key : ℕ → ℕ → Act → Bool
looks_for_key c s (LookReg c' s' found) = (c'.0 == c) && (s'.0 == s)
looks_for_key c s _ = false

abbrev pub is_key : KeyId → Option KeyId → Bool
is_key k None = false
is_key k (Some found) = (found.index == k.index) && (found.serial == k.serial)

abbrev pub finds_key : ℕ → ℕ → KeyId → Act → Bool
finds_key c s k (LookReg c' s' found) = (c'.0 == c) && (s'.0 == s) && is_key k found
finds_key c s k _ = false

-- it cancelled the key of index i of selector s
abbrev pub cancels : ℕ → ℕ → Act → Bool
cancels s i (CancelKey s' i' found) = (s'.0 == s) && (i' == i)
cancels s i _ = false

-- it looked at the keys' high-water mark of selector s
abbrev pub looks_at_high : ℕ → Act → Bool
looks_at_high s (LookKeys s' found) = s'.0 == s
looks_at_high s _ = false

-- ---- debts

-- what a caller has to do: to look, and where its first look finds something, to settle it
pub record Duty : Type 0 where
  pub looks : Act → Bool
  pub finds : Act → Bool
  pub settles : Act → Bool

-- by what it did since, it still owes this: it hasn't looked, or its first look found something and it hasn't
-- settled that since
abbrev pub owes : Duty → List Act → Bool
owes duty [] = true
owes duty (act ∷ later) = if duty.looks act then duty.finds act && not (has duty.settles later) else owes duty later

-- a key is settled where it is cancelled, or found outside the key set
abbrev pub settles_key : ℕ → KeyId → Act → Bool
settles_key s k act = cancels s k.index act || finds_outside s k act

-- who published a key has to look whether its channel was closed meanwhile, and then to cancel the key
abbrev pub publisher_duty : ℕ → ℕ → KeyId → Duty
publisher_duty c s k = record { looks = looks_at_channel c; finds = finds_closed c; settles = settles_key s k }

-- who closed a channel has to look for its key in a selector, and to cancel it; where its number has another channel
-- by then, the channel has no key any more
abbrev pub closing_duty : ChanId → ℕ → KeyId → Duty
closing_duty c s k = record {
  looks = looks_for_key c.number.0 s;
  finds = finds_key c.number.0 s k;
  settles = λ act. settles_key s k act || finds_another c act;
}

-- who closed a selector has to look, once it has entered, at the keys' high-water mark, and to remove each index below
abbrev pub clearing_duty : ℕ → ℕ → Duty
clearing_duty s i = record { looks = looks_at_high s; finds = finds_below s i; settles = removes s i }

-- a caller made such an act, and owes since
pub record OwesSince (events : List Event) (makes : Act → Bool) (duty : Duty) : Type 0 where
  pub caller : CallerNo
  pub before : List Act
  pub act : Act
  pub since : List Act
  pub did : mine caller events ≡ before ++ act ∷ since
  pub made : IsTrue (makes act)
  pub owing : IsTrue (owes duty since)

-- a key of a channel is owed its cancelling, by who published it or by who closed the channel
abbrev pub OwesCancelling : List Event → ChanId → ℕ → KeyId → Type 0
OwesCancelling events c s k =
    OwesSince events (publishes_key c.number.0 s k) (publisher_duty c.number.0 s k)
    ⊎ OwesSince events (closes c) (closing_duty c s k)

-- an index of a selector is owed its clearing out by the closer, who hasn't entered or owes since then
pub record OwesClearing (events : List Event) (s i : ℕ) : Type 0 where
  pub closer : CallerNo
  pub is_closer : (state_after events).closer s ≡ Some closer
  pub owing : IsTrue
      (not ((state_after events).entered s) || owes (clearing_duty s i) (since_entered s (mine closer events)))

-- the key that index i of selector s has
abbrev pub key_of : State → ℕ → ℕ → KeyId
key_of st s i = record { index = i; serial = (st.key s i).serial }

-- the channel that the key of index i of selector s is of: the present one of the number that it was claimed for
abbrev pub channel_of_key : State → ℕ → ℕ → ChanId
channel_of_key st s i = record { number = (st.key s i).chan; serial = (st.chan (st.key s i).chan.0).serial }

pub record Owed (events : List Event) : Type 0 where
  -- of a valid key of a closed channel somebody owes the cancelling
  pub channels : (s i : ℕ) → IsTrue (is_valid ((state_after events).key s i))
      → IsTrue ((state_after events).chan ((state_after events).key s i).chan.0).closed
      → OwesCancelling events (channel_of_key (state_after events) s i) s (key_of (state_after events) s i)
  -- of a valid key of a shut selector the closer owes the clearing out
  pub selectors : (s i : ℕ) → IsTrue (is_valid ((state_after events).key s i))
      → IsTrue ((state_after events).gate s).shut → OwesClearing events s i
  -- where a selection has begun, somebody has the turn, and no closer has entered
  pub turns : (s : ℕ) → IsTrue ((state_after events).begun s) → IsTrue (is_some ((state_after events).turn s))
  pub not_entered : (s : ℕ) → IsTrue ((state_after events).begun s) → IsFalse ((state_after events).entered s)
  -- a registered channel is non-blocking
  pub modes : (c : ChanId) → IsRegistered (state_after events) c
      → IsFalse ((state_after events).chan c.number.0).blocking

-- what is owed in a legal and careful history is owed by somebody who has still to do it
abbrev pub NothingIsLost : Type 0
NothingIsLost = (l : Limits) (events : List Event) → IsFit l → IsLegal l events → IsCareful events → Owed events
