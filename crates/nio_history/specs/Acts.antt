-- What each kind of step does to the state. A step changes the part that it names. Claiming an index also
-- pins it; taking and giving a turn, beginning, shutting and entering also keep who has begun, closes and
-- has entered; taking an index, putting it, claiming it again, removing its key and giving the turn also keep
-- who took it, and whether the selection in progress has still to put it; touching an index and taking a pin off
-- also keep whether the caller is amid a change there. Nothing else is changed. The lines stand in the order in
-- which `Act` lists the kinds.
use Rattle.std.specs.Prelude.{ℕ, suc, max, nat_lt, Bool, true, false, not, ◌&&◌, ◌||◌, if◌then◌else◌, Option, Some}
use Rattle.std.specs.Prelude.{None, is_some, is_none, Result, Ok, Err, bit_and, bit_or}
use Rattle.nio_base.specs.declared.kind.Kind.{Kind}
use Rattle.nio_base.specs.declared.numbers.CallerNo.{CallerNo}
use Rattle.nio_base.specs.declared.numbers.ChanNo.{ChanNo}
use Rattle.nio_history.specs.State.{State, with_drawn, with_interrupted, with_selector, with_channels_high, with_chan}
use Rattle.nio_history.specs.State.{with_hold, with_enrolled, with_gate, with_turn, with_keys_high, with_key}
use Rattle.nio_history.specs.State.{with_interest}
use Rattle.nio_history.specs.State.{with_mark, with_note, with_pin, with_free, with_begun, with_closer, with_entered}
use Rattle.nio_base.specs.Numbers.{last_serial}
use Rattle.nio_history.specs.State.{with_taker, with_put_due, with_no_put_due, unmarked}
use Rattle.nio_history.specs.State.{with_touched, with_none_touched, with_lister, with_amid}
use Rattle.nio_history.specs.declared.act.Act.{Act}
use Rattle.nio_history.specs.declared.act.Act.TheVariants.{DrawBit, MakeSelector, LookSelectors, Wake, LookGate}
use Rattle.nio_history.specs.declared.act.Act.TheVariants.{SetInterrupt, TakeInterrupt, LookInterrupt, LookKey}
use Rattle.nio_history.specs.declared.act.Act.TheVariants.{CancelKey}
use Rattle.nio_history.specs.declared.act.Act.TheVariants.{LookInterest, SwapInterest, OrInterest, AndInterest}
use Rattle.nio_history.specs.declared.act.Act.TheVariants.{SwapNote}
use Rattle.nio_history.specs.declared.act.Act.TheVariants.{LookNote, MakeChannel, LookChannel, Claim, RaiseKeys}
use Rattle.nio_history.specs.declared.act.Act.TheVariants.{LookKeys}
use Rattle.nio_history.specs.declared.act.Act.TheVariants.{Publish, LookReg, Enrol, TakeTurn, BeginLook, GiveTurn}
use Rattle.nio_history.specs.declared.act.Act.TheVariants.{Remove}
use Rattle.nio_history.specs.declared.act.Act.TheVariants.{LookMark, Mark, UnselectBit, EndWake, LookChannels}
use Rattle.nio_history.specs.declared.act.Act.TheVariants.{RaiseChannels, TryHoldBit, Release, SetMode, CloseBit}
use Rattle.nio_history.specs.declared.act.Act.TheVariants.{ShutBit}
use Rattle.nio_history.specs.declared.act.Act.TheVariants.{Enter, Pin, Unpin, ClearMark, ClaimAgain, LookFree, PutFree}
use Rattle.nio_history.specs.declared.act.Act.TheVariants.{TakeFree}
use Rattle.nio_history.specs.declared.found.Chan.{Chan}
use Rattle.nio_history.specs.declared.found.Mark.{Mark as KeyMark}
use Rattle.nio_history.specs.declared.found.Stage.{Stage}
use Rattle.nio_history.specs.declared.act.Act.TheVariants.{Reopen, Touch, LookTouched, TakeTouched, LookIndex, TakeList}
use Rattle.std.specs.Prelude.{◌==◌}

-- a new channel is open and in blocking mode
abbrev pub new_channel : Kind → ℕ → Chan
new_channel kind serial = record { made = true; kind = kind; closed = false; blocking = true; serial = serial }

-- A closing of the channel that was found as `from` has an effect where its number has this channel still, and no
-- mode was set meanwhile that `from` doesn't have: a channel that is non-blocking now is closed from a look that
-- found it so
abbrev pub closes_from : Chan → Chan → Bool
closes_from from found = (found.serial == from.serial) && (found.blocking || not from.blocking)

-- it closed the channel: that was open till then
abbrev pub takes_close : Chan → Chan → Bool
takes_close from found = closes_from from found && not found.closed

-- the channel after it: closed, in the mode in which it was found
abbrev pub closed_from : Chan → Chan → Chan
closed_from from found =
    if closes_from from found then record found { closed = true; blocking = from.blocking } else found

-- an index that is claimed for a key of a channel with this serial, and no more
abbrev pub new_key : ChanNo → ℕ → Stage
new_key c q = record { claimed = true; published = false; cancelled = false; removed = false; chan = c; serial = q }

-- a removal that found the key not removed, and with a serial below the last: its index may become free
abbrev pub frees_index : Stage → Bool
frees_index found = not found.removed && nat_lt found.serial last_serial

-- who has a turn or a hold after `me` tried to take it: `me` where nobody had it
abbrev pub taken_by : CallerNo → Option CallerNo → Option CallerNo
taken_by me None = Some me
taken_by me (Some n) = Some n

-- the key's mark after a selection that found it ready for the operations `told`: a key that was not yet in the
-- selected set joins it with `told` as its ready set; the ready set of one that was selected already gains `told`
abbrev pub selected_with : KeyMark → ℕ → KeyMark
selected_with from told = record { selected = true; ready = (if from.selected then bit_or from.ready told else told) }

-- an exchange that failed changes nothing
abbrev pub exchanged : KeyMark → KeyMark → Result (Unit {0}) KeyMark → KeyMark
exchanged was made (Ok _) = made
exchanged was made (Err _) = was

abbrev pub effect : State → CallerNo → Act → State
-- draws the number
effect st me (DrawBit n found) = with_drawn st n.0 true
-- makes the selector
effect st me (MakeSelector s found) = with_selector st s.0 true
-- looks
effect st me (LookSelectors found) = st
-- sets the wakeup
effect st me (Wake s found) = with_gate st s.0 (record (st.gate s.0) { woken = true })
-- looks
effect st me (LookGate s found) = st
-- sets the interrupt status of the caller that is named
effect st me (SetInterrupt n found) = with_interrupted st n.0 true
-- clears the interrupt status of the caller itself
effect st me (TakeInterrupt found) = with_interrupted st me.0 false
-- looks
effect st me (LookInterrupt found) = st
-- looks
effect st me (LookKey s i found) = st
-- the key is cancelled
effect st me (CancelKey s i found) = with_key st s.0 i (record (st.key s.0 i) { cancelled = true })
-- looks
effect st me (LookInterest s i found) = st
-- the interest set becomes these operations
effect st me (SwapInterest s i ops found) = with_interest st s.0 i ops
-- the interest set gains these operations
effect st me (OrInterest s i ops found) = with_interest st s.0 i (bit_or (st.interest s.0 i) ops)
-- the interest set keeps these operations alone
effect st me (AndInterest s i ops found) = with_interest st s.0 i (bit_and (st.interest s.0 i) ops)
-- the attachment becomes this one
effect st me (SwapNote s i att found) = with_note st s.0 i att
-- looks
effect st me (LookNote s i found) = st
-- where the number had no channel, it has one of this kind, with serial 0, in blocking mode
effect st me (MakeChannel c kind found) = with_chan st c.0 (if found then st.chan c.0 else new_channel kind 0)
-- looks
effect st me (LookChannel c found) = st
-- where the index wasn't claimed, it is claimed for the channel with serial 0, and the caller has a pin on it
effect st me (Claim s i c found) =
    with_pin
    (with_key st s.0 i (if found then st.key s.0 i else new_key c 0))
    s.0 i me.0 (st.pinned s.0 i me.0 || not found)
-- the keys' high-water mark is at least n
effect st me (RaiseKeys s n found) = with_keys_high st s.0 (max (st.keys_high s.0) n)
-- looks
effect st me (LookKeys s found) = st
-- the key is published
effect st me (Publish s i found) = with_key st s.0 i (record (st.key s.0 i) { published = true })
-- looks
effect st me (LookReg c s found) = st
-- the key is enrolled for the channel in the selector
effect st me (Enrol c s i serial found) = with_enrolled st c.0 s.0 (Some (record { index = i; serial = serial }))
-- where the turn was free, the caller has it, and hasn't begun
effect st me (TakeTurn s found) = with_begun (with_turn st s.0 (taken_by me found)) s.0 (is_some found && st.begun s.0)
-- where the gate isn't shut, the caller has begun
effect st me (BeginLook s found) = with_begun st s.0 (st.begun s.0 || not found.shut)
-- the turn is free, nobody has begun, and no index is to be put by a selection
effect st me (GiveTurn s) = with_no_put_due (with_begun (with_turn st s.0 None) s.0 false) s.0
-- the key is removed; where a selection removes it, at a serial below the last, it has still to put the index
effect st me (Remove s i found) =
    with_put_due
    (with_key st s.0 i (record (st.key s.0 i) { removed = true }))
    s.0 i (st.put_due s.0 i || (st.begun s.0 && frees_index found))
-- looks
effect st me (LookMark s i found) = st
-- where the mark is the one that is named, the key becomes selected with what is told
effect st me (Mark s i from told found) = with_mark st s.0 i (exchanged (st.mark s.0 i) (selected_with from told) found)
-- the key isn't selected
effect st me (UnselectBit s i found) = with_mark st s.0 i (record (st.mark s.0 i) { selected = false })
-- clears the wakeup
effect st me (EndWake s found) = with_gate st s.0 (record (st.gate s.0) { woken = false })
-- looks
effect st me (LookChannels found) = st
-- the channels' high-water mark is at least n
effect st me (RaiseChannels n found) = with_channels_high st (max st.channels_high n)
-- where nobody had the hold, the caller has it
effect st me (TryHoldBit c found) = with_hold st c.0 (taken_by me found)
-- nobody has the hold
effect st me (Release c) = with_hold st c.0 None
-- the channel is in this mode
effect st me (SetMode c blocking found) = with_chan st c.0 (record (st.chan c.0) { blocking = blocking })
-- the channel that was found as `from` is closed, where its number has it still
effect st me (CloseBit c from found) = with_chan st c.0 (closed_from from (st.chan c.0))
-- the selector is shut; where it wasn't, the caller is its closer
effect st me (ShutBit s found) =
    with_closer (with_gate st s.0 (record (st.gate s.0) { shut = true })) s.0 (if found then st.closer s.0 else Some me)
-- where the turn is free, the closer has entered
effect st me (Enter s found) = with_entered st s.0 (st.entered s.0 || is_none found)
-- the caller has a pin on the index
effect st me (Pin s i found) = with_pin st s.0 i me.0 true
-- the caller has no pin on it, and is amid no change there
effect st me (Unpin s i) = with_amid (with_pin st s.0 i me.0 false) s.0 i me.0 false
-- the key isn't selected, and its ready set is empty
effect st me (ClearMark s i found) = with_mark st s.0 i unmarked
-- where nobody has a pin on the index, it is claimed for the channel with the next serial, the caller has a
-- pin on it, and it isn't taken any more
effect st me (ClaimAgain s i c from found) =
    with_taker
    (with_pin
    (with_key st s.0 i (if found then st.key s.0 i else new_key c (suc (st.key s.0 i).serial)))
    s.0 i me.0 (st.pinned s.0 i me.0 || not found))
    s.0 i (if found then st.taker s.0 i else None)
-- looks
effect st me (LookFree s j found) = st
-- the index is free: nobody has taken it, and no selection has still to put it
effect st me (PutFree s i) = with_put_due (with_taker (with_free st s.0 i true) s.0 i None) s.0 i false
-- the index isn't free; where it was, the caller has taken it
effect st me (TakeFree s i found) =
    with_taker (with_free st s.0 i false) s.0 i (if found then Some me else st.taker s.0 i)
-- where its number has the channel `from`, the number has a new one of that kind with the next serial
effect st me (Reopen c from found) =
    with_chan st c.0 (if found then st.chan c.0 else new_channel from.kind (suc from.serial))
-- the index is touched; a caller that has a pin on it is amid a change there
effect st me (Touch s i found) = with_amid (with_touched st s.0 i true) s.0 i me.0 (st.pinned s.0 i me.0)
-- looks
effect st me (LookTouched s j found) = st
-- none of the 64 indexes is touched
effect st me (TakeTouched s j found) = with_none_touched st s.0 j
-- looks
effect st me (LookIndex s i found) = st
-- where nobody had the list, the caller has it
effect st me (TakeList s found) = with_lister st s.0 (taken_by me found)
