-- A worked history, in which each kind of step stands: two callers register a channel, select, by the selector's
-- list too, cancel the channel's key in the middle of the selection, claim its index again, close the channel and the
-- selector, and give the channel's number to a new one.
use Rattle.std.specs.Prelude.{ℕ, Bool, true, false, Some, None, Ok, Err, List, [], ◌∷◌, take, ⊤}
use Rattle.nio_base.specs.declared.kind.Kind.TheVariants.{Stream, Source}
use Rattle.nio_base.specs.declared.limits.Limits.{Limits}
use Rattle.nio_base.specs.declared.numbers.CallerNo.{CallerNo}
use Rattle.nio_base.specs.declared.numbers.ChanNo.{ChanNo}
use Rattle.nio_base.specs.declared.numbers.KeyId.{KeyId}
use Rattle.nio_base.specs.declared.numbers.SelNo.{SelNo}
use Rattle.nio_history.specs.Histories.{event_of, IsStep, IsLegal}
use Rattle.nio_history.specs.declared.act.Act.TheVariants.{DrawBit, MakeSelector, LookSelectors, Wake, LookGate}
use Rattle.nio_history.specs.declared.act.Act.TheVariants.{SetInterrupt, TakeInterrupt, LookInterrupt, LookKey}
use Rattle.nio_history.specs.declared.act.Act.TheVariants.{CancelKey}
use Rattle.nio_history.specs.declared.act.Act.TheVariants.{LookInterest, SwapInterest, OrInterest, AndInterest}
use Rattle.nio_history.specs.declared.act.Act.TheVariants.{SwapNote}
use Rattle.nio_history.specs.declared.act.Act.TheVariants.{LookNote, MakeChannel, LookChannel, Claim, RaiseKeys}
use Rattle.nio_history.specs.declared.act.Act.TheVariants.{LookKeys}
use Rattle.nio_history.specs.declared.act.Act.TheVariants.{Publish, LookReg, Enrol, TakeTurn, BeginLook, GiveTurn}
use Rattle.nio_history.specs.declared.act.Act.TheVariants.{Remove}
use Rattle.nio_history.specs.declared.act.Act.TheVariants.{LookMark, Mark, UnselectBit, EndWake, LookChannels}
use Rattle.nio_history.specs.declared.act.Act.TheVariants.{RaiseChannels, TryHoldBit, Release, SetMode, CloseBit}
use Rattle.nio_history.specs.declared.act.Act.TheVariants.{ShutBit}
use Rattle.nio_history.specs.declared.act.Act.TheVariants.{Enter, Pin, Unpin, ClearMark, ClaimAgain, LookFree, PutFree}
use Rattle.nio_history.specs.declared.act.Act.TheVariants.{TakeFree}
use Rattle.nio_history.specs.declared.event.Event.{Event}
use Rattle.nio_history.specs.declared.found.Chan.{Chan}
use Rattle.nio_history.specs.declared.found.GateWord.{GateWord}
use Rattle.nio_history.specs.declared.found.Mark.{Mark as KeyMark}
use Rattle.nio_history.specs.declared.found.Stage.{Stage}
use Rattle.nio_history.specs.declared.act.Act.TheVariants.{Reopen, Touch, LookTouched, TakeTouched, LookIndex, TakeList}
use Rattle.nio_history.specs.declared.found.IndexWord.{IndexWord}

-- two callers, one selector with one key, one channel
abbrev pub small_limits : Limits
small_limits = record { callers = 2; selectors = 1; channels = 1; keys = 1 }

abbrev pub u : CallerNo
u = record { 0 = 0 }

abbrev pub v : CallerNo
v = record { 0 = 1 }

abbrev pub s : SelNo
s = record { 0 = 0 }

abbrev pub c : ChanNo
c = record { 0 = 0 }

-- the number's first channel, and the one after it
abbrev pub chan : Bool → Bool → Chan
chan closed blocking = record { made = true; kind = Source; closed = closed; blocking = blocking; serial = 0 }

abbrev pub next_chan : Chan
next_chan = record { made = true; kind = Source; closed = false; blocking = true; serial = 1 }

abbrev pub gate : Bool → Bool → GateWord
gate woken shut = record { woken = woken; shut = shut }

abbrev pub stage : ℕ → Bool → Bool → Bool → Stage
stage serial published cancelled removed = record {
  claimed = true;
  published = published;
  cancelled = cancelled;
  removed = removed;
  chan = c;
  serial = serial;
}

abbrev pub enrolled : ℕ → ℕ → KeyId
enrolled index serial = record { index = index; serial = serial }

abbrev pub index : Stage → Bool → IndexWord
index found pinned = record { stage = found; pinned = pinned }

abbrev pub mark : Bool → ℕ → KeyMark
mark selected ready = record { selected = selected; ready = ready }

abbrev pub worked_history : List Event
worked_history =
    -- callers 0 and 1 are drawn
    event_of u (DrawBit u false) ∷
    event_of v (DrawBit v false) ∷
    -- caller 0 opens a selector and a channel
    event_of u (MakeSelector s false) ∷
    event_of u (LookSelectors 1) ∷
    event_of u (LookChannels 0) ∷
    event_of u (MakeChannel c Source false) ∷
    event_of u (RaiseChannels 1 0) ∷
    event_of u (LookChannels 1) ∷
    -- it sets non-blocking mode; caller 1 finds the hold taken
    event_of u (LookChannel c (chan false true)) ∷
    event_of u (TryHoldBit c None) ∷
    event_of v (TryHoldBit c (Some u)) ∷
    event_of u (LookChannel c (chan false true)) ∷
    event_of u (SetMode c false (chan false true)) ∷
    event_of u (Release c) ∷
    -- it registers the channel: no index was claimed yet, so it claims index 0, which pins it
    event_of u (TryHoldBit c None) ∷
    event_of u (LookChannel c (chan false false)) ∷
    event_of u (LookReg c s None) ∷
    event_of u (LookGate s (gate false false)) ∷
    event_of u (LookKeys s 0) ∷
    event_of u (Claim s 0 c false) ∷
    event_of u (RaiseKeys s 1 0) ∷
    event_of u (LookGate s (gate false false)) ∷
    event_of u (Touch s 0 false) ∷
    event_of u (SwapInterest s 0 1 0) ∷
    event_of u (SwapNote s 0 7 0) ∷
    event_of u (Enrol c s 0 0 None) ∷
    event_of u (Publish s 0 (stage 0 false false false)) ∷
    event_of u (LookChannel c (chan false false)) ∷
    event_of u (Unpin s 0) ∷
    event_of u (Release c) ∷
    -- under a pin it changes the interest set to and fro
    event_of u (Pin s 0 (stage 0 true false false)) ∷
    event_of u (Touch s 0 true) ∷
    event_of u (OrInterest s 0 4 1) ∷
    event_of u (AndInterest s 0 1 5) ∷
    event_of u (LookNote s 0 7) ∷
    event_of u (Unpin s 0) ∷
    -- it begins a selection; caller 1 finds the turn taken
    event_of u (TakeTurn s None) ∷
    event_of v (TakeTurn s (Some u)) ∷
    event_of u (BeginLook s (gate false false)) ∷
    event_of u (LookKeys s 1) ∷
    event_of u (LookFree s 0 0) ∷
    -- it takes the selector's list, which caller 1 finds taken, and the bit of index 0, and looks there
    event_of u (TakeList s None) ∷
    event_of v (TakeList s (Some u)) ∷
    event_of u (LookTouched s 0 1) ∷
    event_of u (TakeTouched s 0 1) ∷
    event_of u (LookIndex s 0 (index (stage 0 true false false) false)) ∷
    event_of u (LookKey s 0 (stage 0 true false false)) ∷
    event_of u (LookInterest s 0 1) ∷
    -- caller 1 wakes it, and cancels the key under a pin, which it keeps
    event_of v (Wake s false) ∷
    event_of v (Pin s 0 (stage 0 true false false)) ∷
    event_of v (Touch s 0 false) ∷
    event_of v (CancelKey s 0 (stage 0 true false false)) ∷
    -- it is told of the key twice, and ends the selection: the key is removed, and its index becomes free
    event_of u (LookMark s 0 (mark false 0)) ∷
    event_of u (Mark s 0 (mark false 0) 1 (Ok tt)) ∷
    event_of u (Mark s 0 (mark false 0) 1 (Err (mark true 1))) ∷
    event_of u (Mark s 0 (mark true 1) 4 (Ok tt)) ∷
    event_of u (LookMark s 0 (mark true 5)) ∷
    event_of u (LookGate s (gate true false)) ∷
    event_of u (LookInterrupt false) ∷
    event_of u (LookTouched s 0 1) ∷
    event_of u (LookKey s 0 (stage 0 true true false)) ∷
    event_of u (Remove s 0 (stage 0 true true false)) ∷
    event_of u (PutFree s 0) ∷
    event_of u (EndWake s (gate true false)) ∷
    event_of u (GiveTurn s) ∷
    -- it registers the channel again: it takes index 0, which is free, but caller 1 still has its pin on it
    event_of u (LookChannel c (chan false false)) ∷
    event_of u (TryHoldBit c None) ∷
    event_of u (LookChannel c (chan false false)) ∷
    event_of u (LookReg c s (Some (enrolled 0 0))) ∷
    event_of u (Pin s 0 (stage 0 true true true)) ∷
    event_of u (Unpin s 0) ∷
    event_of u (LookGate s (gate false false)) ∷
    event_of u (LookKeys s 1) ∷
    event_of u (LookFree s 0 1) ∷
    event_of u (TakeFree s 0 true) ∷
    event_of v (TakeFree s 0 false) ∷
    event_of u (LookKey s 0 (stage 0 true true true)) ∷
    event_of u (ClaimAgain s 0 c (stage 0 true true true) true) ∷
    event_of u (PutFree s 0) ∷
    -- caller 1 takes the key out of the selected set and its pin off: now the index is given to a key with serial 1
    event_of v (UnselectBit s 0 true) ∷
    event_of v (Unpin s 0) ∷
    event_of u (LookFree s 0 1) ∷
    event_of u (TakeFree s 0 true) ∷
    event_of u (LookKey s 0 (stage 0 true true true)) ∷
    event_of u (ClaimAgain s 0 c (stage 0 true true true) false) ∷
    event_of u (ClearMark s 0 (mark false 5)) ∷
    event_of u (LookGate s (gate false false)) ∷
    event_of u (Touch s 0 true) ∷
    event_of u (SwapInterest s 0 1 1) ∷
    event_of u (SwapNote s 0 0 7) ∷
    event_of u (Enrol c s 0 1 (Some (enrolled 0 0))) ∷
    event_of u (Publish s 0 (stage 1 false false false)) ∷
    event_of u (LookChannel c (chan false false)) ∷
    event_of u (Unpin s 0) ∷
    event_of u (Release c) ∷
    -- it cancels this key too, and a selection removes it
    event_of u (Pin s 0 (stage 1 true false false)) ∷
    event_of u (LookMark s 0 (mark false 0)) ∷
    event_of u (Touch s 0 true) ∷
    event_of u (CancelKey s 0 (stage 1 true false false)) ∷
    event_of u (Unpin s 0) ∷
    event_of v (Pin s 0 (stage 1 true true false)) ∷
    event_of u (TakeTurn s None) ∷
    event_of u (BeginLook s (gate false false)) ∷
    event_of u (LookKeys s 1) ∷
    event_of u (LookFree s 0 0) ∷
    -- it finds the index pinned by caller 1, so it touches it again
    event_of u (TakeTouched s 0 1) ∷
    event_of u (LookIndex s 0 (index (stage 1 true true false) true)) ∷
    event_of u (Touch s 0 false) ∷
    event_of u (LookKey s 0 (stage 1 true true false)) ∷
    event_of u (Remove s 0 (stage 1 true true false)) ∷
    event_of u (PutFree s 0) ∷
    event_of u (EndWake s (gate false false)) ∷
    event_of u (GiveTurn s) ∷
    event_of v (Unpin s 0) ∷
    -- caller 1 sets blocking mode again: the enrolled key is removed
    event_of v (TryHoldBit c None) ∷
    event_of v (LookReg c s (Some (enrolled 0 1))) ∷
    event_of v (LookKey s 0 (stage 1 true true true)) ∷
    event_of v (SetMode c true (chan false false)) ∷
    event_of v (Release c) ∷
    -- it closes the channel and the selector, and interrupts caller 0
    event_of v (CloseBit c (chan false true) (chan false true)) ∷
    event_of v (LookChannel c (chan true true)) ∷
    event_of v (ShutBit s false) ∷
    event_of v (LookGate s (gate false true)) ∷
    event_of u (ShutBit s true) ∷
    event_of v (Enter s None) ∷
    event_of v (LookKeys s 1) ∷
    event_of v (Remove s 0 (stage 1 true true true)) ∷
    event_of v (SetInterrupt u false) ∷
    event_of u (TakeInterrupt true) ∷
    event_of u (LookInterrupt false) ∷
    -- caller 1 gives the channel's number to a new channel, once; a closing of the old one that comes late leaves it
    event_of v (TryHoldBit c None) ∷
    event_of v (LookReg c s (Some (enrolled 0 1))) ∷
    event_of v (LookKey s 0 (stage 1 true true true)) ∷
    event_of v (Reopen c (chan true true) false) ∷
    event_of v (Reopen c (chan true true) true) ∷
    event_of v (Release c) ∷
    event_of u (CloseBit c (chan false true) next_chan) ∷
    event_of u (LookChannel c next_chan) ∷ []

abbrev pub WorkedHistoryIsLegal : Type 0
WorkedHistoryIsLegal = IsLegal small_limits worked_history

-- Events that are no steps after so many events of the worked history
abbrev pub refused_events : List (ℕ × Event)
refused_events =
    -- a number is drawn once, and by its own caller
    (1, event_of u (DrawBit u true)) ∷
    (1, event_of u (DrawBit u false)) ∷
    (1, event_of v (DrawBit u false)) ∷
    -- a selector is woken once it is made
    (2, event_of v (Wake s false)) ∷
    -- only the holder of a channel sets its mode or claims for it
    (11, event_of v (SetMode c false (chan false true))) ∷
    (14, event_of u (Claim s 0 c false)) ∷
    -- what a step finds is what stands there
    (19, event_of u (Claim s 0 c true)) ∷
    -- only who claimed an index publishes its key, and only with the pin of that claim
    (26, event_of v (Publish s 0 (stage 0 false false false))) ∷
    (29, event_of u (Publish s 0 (stage 0 true false false))) ∷
    -- a caller has one pin on an index at most, and takes off only its own
    (31, event_of u (Pin s 0 (stage 0 true false false))) ∷
    (31, event_of v (Unpin s 0)) ∷
    -- a step on a key is made under a pin
    (36, event_of u (OrInterest s 0 4 1)) ∷
    (36, event_of u (CancelKey s 0 (stage 0 true false false))) ∷
    -- only the holder of the turn begins a selection
    (38, event_of v (BeginLook s (gate false false))) ∷
    -- a selection removes no key that is not cancelled, and none twice
    (48, event_of u (Remove s 0 (stage 0 true false false))) ∷
    (62, event_of u (Remove s 0 (stage 0 true true true))) ∷
    -- only the selecting caller marks, and only what it is told of and finds
    (53, event_of v (Mark s 0 (mark false 0) 1 (Ok tt))) ∷
    (53, event_of u (Mark s 0 (mark false 0) 0 (Ok tt))) ∷
    (53, event_of u (Mark s 0 (mark true 1) 4 (Ok tt))) ∷
    -- an index is put by the caller whose selection removed its key, or that has taken it, and once
    (62, event_of v (PutFree s 0)) ∷
    (63, event_of u (PutFree s 0)) ∷
    (75, event_of v (PutFree s 0)) ∷
    (85, event_of u (PutFree s 0)) ∷
    -- an index is claimed again from what the caller found since it took it, and not while it is pinned
    (75, event_of u (ClaimAgain s 0 c (stage 0 true true true) true)) ∷
    (77, event_of u (ClaimAgain s 0 c (stage 0 true true true) false)) ∷
    (84, event_of v (ClaimAgain s 0 c (stage 0 true true true) false)) ∷
    -- a mark is cleared by who claimed the index, before the key is published
    (85, event_of v (ClearMark s 0 (mark false 5))) ∷
    (92, event_of u (ClearMark s 0 (mark false 0))) ∷
    -- a key is enrolled with the serial of the claim
    (90, event_of u (Enrol c s 0 0 (Some (enrolled 0 0)))) ∷
    -- a channel goes back to blocking mode only after a look at its enrolled keys, since it enrolled one itself
    (115, event_of v (SetMode c true (chan false false))) ∷
    (116, event_of v (SetMode c true (chan false false))) ∷
    (92, event_of u (SetMode c true (chan false false))) ∷
    -- a closer removes after it has entered, and what it has found below the high-water mark since
    (124, event_of v (Remove s 0 (stage 1 true true true))) ∷
    (125, event_of v (Remove s 0 (stage 1 true true true))) ∷
    -- only the closer enters
    (124, event_of u (Enter s None)) ∷
    -- a channel is closed from one that was found open, of the kind and of a serial that its number has or had
    (130, event_of u (CloseBit c (chan true true) (chan true true))) ∷
    (130, event_of u (CloseBit c (record (chan false true) { kind = Stream }) (chan true true))) ∷
    (130, event_of u (CloseBit c next_chan (chan true true))) ∷
    -- a number is given to a new channel by its holder, after a look at its enrolled keys under this hold
    (130, event_of v (Reopen c (chan true true) false)) ∷
    (131, event_of v (Reopen c (chan true true) false)) ∷
    (132, event_of v (Reopen c (chan true true) false)) ∷
    (133, event_of u (Reopen c (chan true true) false)) ∷
    -- the channel that stands there gives it, where it is closed, and no other one
    (133, event_of v (Reopen c (chan true true) true)) ∷
    (134, event_of v (Reopen c (chan true true) false)) ∷
    (134, event_of v (Reopen c next_chan false)) ∷
    -- an index is touched by who has a pin on it, or has begun
    (31, event_of v (Touch s 0 true)) ∷
    -- a change is made by who touched the index since it pinned it
    (31, event_of u (OrInterest s 0 4 1)) ∷
    (50, event_of v (CancelKey s 0 (stage 0 true false false))) ∷
    -- a list is taken once, and only who has it takes the bits, while it selects
    (41, event_of u (TakeTouched s 0 1)) ∷
    (42, event_of v (TakeList s None)) ∷
    (43, event_of v (TakeTouched s 0 1)) ∷
    (37, event_of u (TakeTouched s 0 1)) ∷
    -- what is touched is what stands there
    (44, event_of u (TakeTouched s 0 0)) ∷ []

abbrev pub AreNoSteps : List (ℕ × Event) → Type 0
AreNoSteps [] = ⊤
AreNoSteps (r ∷ rest) = (¬ IsStep small_limits (take r.0 worked_history) r.1) × AreNoSteps rest

abbrev pub RefusedEventsAreNoSteps : Type 0
RefusedEventsAreNoSteps = AreNoSteps refused_events
