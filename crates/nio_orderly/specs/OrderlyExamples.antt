-- Histories of whole calls, and one of steps that no calls make. In one of them a channel is closed while it is
-- registered; in another a channel's number comes back while the channel's closing is still on its way.
use Rattle.std.specs.Prelude.{◌≡◌, true, false, Some, None, Ok, IsTrue, List, [], ◌∷◌}
use Rattle.nio_base.specs.Numbers.{first_channel}
use Rattle.nio_base.specs.declared.kind.Kind.TheVariants.{Source}
use Rattle.nio_base.specs.declared.limits.Limits.{Limits}
use Rattle.nio_base.specs.declared.numbers.ChanId.{ChanId}
use Rattle.nio_base.specs.declared.numbers.KeyNo.{KeyNo}
use Rattle.nio_history.specs.Histories.{state_after, mine, event_of, IsLegal}
use Rattle.nio_history.specs.Sets.{is_open_channel}
use Rattle.nio_history.specs.Worked.{u, v, s, c, chan, next_chan, gate, stage, enrolled, small_limits}
use Rattle.nio_history.specs.declared.act.Act.TheVariants.{DrawBit, MakeSelector, LookGate, CancelKey, SwapInterest}
use Rattle.nio_history.specs.declared.act.Act.TheVariants.{SwapNote, MakeChannel, LookChannel, Claim, RaiseKeys}
use Rattle.nio_history.specs.declared.act.Act.TheVariants.{LookKeys}
use Rattle.nio_history.specs.declared.act.Act.TheVariants.{Publish, LookReg, Enrol, LookChannels, RaiseChannels}
use Rattle.nio_history.specs.declared.act.Act.TheVariants.{TryHoldBit, Release, SetMode, CloseBit, Pin, Unpin}
use Rattle.nio_history.specs.declared.act.Act.TheVariants.{Reopen, Touch}
use Rattle.nio_history.specs.declared.event.Event.{Event}
use Rattle.nio_history.specs.declared.found.Chan.{Chan}
use Rattle.nio_orderly.specs.Examples.{unenrolled_key}
use Rattle.nio_orderly.specs.Made.{Made, draw, table_call}
use Rattle.nio_orderly.specs.Orderly.{AreCallsOf, IsWhole, IsOrderly}
use Rattle.nio_steps.specs.Names.{channel_of}
use Rattle.nio_steps.specs.TableCalls.{open_selector, open_channel, reopen_channel, try_set_blocking, try_register}
use Rattle.nio_steps.specs.TableCalls.{close_channel}

-- caller u opens a selector and a channel and registers the channel; caller v closes the channel when u has published
-- the key, and u finds it closed
abbrev pub closed_in_registration : List Event
closed_in_registration =
    event_of u (DrawBit u false) ∷
    event_of v (DrawBit v false) ∷
    -- u opens a selector and a channel
    event_of u (MakeSelector s false) ∷
    event_of u (LookChannels 0) ∷
    event_of u (MakeChannel c Source false) ∷
    event_of u (RaiseChannels 1 0) ∷
    -- it sets non-blocking mode
    event_of u (LookChannel c (chan false true)) ∷
    event_of u (TryHoldBit c None) ∷
    event_of u (LookChannel c (chan false true)) ∷
    event_of u (SetMode c false (chan false true)) ∷
    event_of u (Release c) ∷
    -- it registers the channel, till the key is published
    event_of u (LookChannel c (chan false false)) ∷
    event_of u (TryHoldBit c None) ∷
    event_of u (LookChannel c (chan false false)) ∷
    event_of u (LookReg c s None) ∷
    event_of u (LookGate s (gate false false)) ∷
    event_of u (LookKeys s 0) ∷
    event_of u (Claim s 0 c false) ∷
    event_of u (RaiseKeys s 1 0) ∷
    event_of u (LookGate s (gate false false)) ∷
    event_of u (Touch s 0 false) ∷
    event_of u (SwapInterest s 0 1 0) ∷
    event_of u (SwapNote s 0 7 0) ∷
    event_of u (Enrol c s 0 0 None) ∷
    event_of u (Publish s 0 (stage 0 false false false)) ∷
    -- v closes the channel, and cancels its key
    event_of v (LookChannel c (chan false false)) ∷
    event_of v (CloseBit c (chan false false) (chan false false)) ∷
    event_of v (LookReg c s (Some (enrolled 0 0))) ∷
    event_of v (LookChannel c (chan true false)) ∷
    event_of v (Pin s 0 (stage 0 true false false)) ∷
    event_of v (Touch s 0 true) ∷
    event_of v (CancelKey s 0 (stage 0 true false false)) ∷
    event_of v (Unpin s 0) ∷
    -- u goes on with its registration
    event_of u (LookChannel c (chan true false)) ∷
    event_of u (CancelKey s 0 (stage 0 true true false)) ∷
    event_of u (Unpin s 0) ∷
    event_of u (Release c) ∷ []

abbrev pub its_key : KeyNo
its_key = record { sel = s; index = 0; serial = 0 }

abbrev pub calls_of_u : List Made
calls_of_u =
    draw u ∷
    table_call open_selector (Ok s) ∷
    table_call (open_channel Source) (Ok (first_channel c)) ∷
    table_call (try_set_blocking (first_channel c) false) (Ok tt) ∷
    table_call (try_register s (first_channel c) 1 7) (Ok its_key) ∷ []

abbrev pub calls_of_v : List Made
calls_of_v = draw v ∷ table_call (close_channel (first_channel c)) true ∷ []

-- the history is legal and whole
pub record ClosedInRegistration : Type 0 where
  pub legal : IsLegal small_limits closed_in_registration
  pub whole : IsWhole small_limits closed_in_registration
  pub of_u : AreCallsOf small_limits (mine u closed_in_registration) calls_of_u
  pub of_v : AreCallsOf small_limits (mine v closed_in_registration) calls_of_v
  pub cancelled : (state_after closed_in_registration).key 0 0 ≡ stage 0 true true false

-- the channel that has the number after the first one, and what is found of it in non-blocking mode
abbrev pub next_channel : ChanId
next_channel = channel_of c 1

abbrev pub unblocked_chan : Chan
unblocked_chan = record next_chan { blocking = false }

-- Caller u opens a selector and a channel, and v closes the channel. Before v looks for keys, u gives the number to a
-- new channel, and registers that. So v finds a key, and then, by its look, another channel.
abbrev pub reopened_meanwhile : List Event
reopened_meanwhile =
    event_of u (DrawBit u false) ∷
    event_of v (DrawBit v false) ∷
    -- u opens a selector and a channel
    event_of u (MakeSelector s false) ∷
    event_of u (LookChannels 0) ∷
    event_of u (MakeChannel c Source false) ∷
    event_of u (RaiseChannels 1 0) ∷
    -- v closes the channel
    event_of v (LookChannel c (chan false true)) ∷
    event_of v (CloseBit c (chan false true) (chan false true)) ∷
    -- u gives its number to a new one
    event_of u (LookChannel c (chan true true)) ∷
    event_of u (TryHoldBit c None) ∷
    event_of u (LookReg c s None) ∷
    event_of u (Reopen c (chan true true) false) ∷
    event_of u (Release c) ∷
    -- it sets non-blocking mode
    event_of u (LookChannel c next_chan) ∷
    event_of u (TryHoldBit c None) ∷
    event_of u (LookChannel c next_chan) ∷
    event_of u (SetMode c false next_chan) ∷
    event_of u (Release c) ∷
    -- it registers the new channel
    event_of u (LookChannel c unblocked_chan) ∷
    event_of u (TryHoldBit c None) ∷
    event_of u (LookChannel c unblocked_chan) ∷
    event_of u (LookReg c s None) ∷
    event_of u (LookGate s (gate false false)) ∷
    event_of u (LookKeys s 0) ∷
    event_of u (Claim s 0 c false) ∷
    event_of u (RaiseKeys s 1 0) ∷
    event_of u (LookGate s (gate false false)) ∷
    event_of u (Touch s 0 false) ∷
    event_of u (SwapInterest s 0 1 0) ∷
    event_of u (SwapNote s 0 7 0) ∷
    event_of u (Enrol c s 0 0 None) ∷
    event_of u (Publish s 0 (stage 0 false false false)) ∷
    event_of u (LookChannel c unblocked_chan) ∷
    event_of u (Unpin s 0) ∷
    event_of u (Release c) ∷
    -- v finds a key, and no key of the channel that it closed
    event_of v (LookReg c s (Some (enrolled 0 0))) ∷
    event_of v (LookChannel c unblocked_chan) ∷ []

abbrev pub reopening_calls_of_u : List Made
reopening_calls_of_u =
    draw u ∷
    table_call open_selector (Ok s) ∷
    table_call (open_channel Source) (Ok (first_channel c)) ∷
    table_call (reopen_channel (first_channel c)) (Ok next_channel) ∷
    table_call (try_set_blocking next_channel false) (Ok tt) ∷
    table_call (try_register s next_channel 1 7) (Ok its_key) ∷ []

-- the history is legal and whole; v closed the first channel, and the key of the new one is valid
pub record ReopenedMeanwhile : Type 0 where
  pub legal : IsLegal small_limits reopened_meanwhile
  pub whole : IsWhole small_limits reopened_meanwhile
  pub of_u : AreCallsOf small_limits (mine u reopened_meanwhile) reopening_calls_of_u
  pub of_v : AreCallsOf small_limits (mine v reopened_meanwhile) calls_of_v
  pub valid : (state_after reopened_meanwhile).key 0 0 ≡ stage 0 true false false
  pub is_open : IsTrue (is_open_channel ((state_after reopened_meanwhile).chan 0) 1)

-- A registration enrols its key before it publishes it: who publishes one without enrolling it makes no whole calls.
-- The history is legal, so its steps alone don't tell.
pub record StepsOfNoCalls : Type 0 where
  pub legal : IsLegal small_limits unenrolled_key
  pub disorderly : (l : Limits) → ¬ IsOrderly l unenrolled_key
