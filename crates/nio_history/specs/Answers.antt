-- What each kind of step finds in the state. The lines stand in the order in which `Act` lists the kinds.
use Rattle.std.specs.Prelude.{◌≡◌, ℕ, zero, suc, ◌+◌, ◌*◌, ◌^◌, not, bit_or, ◌==◌, Bool, ◌&&◌, if◌then◌else◌, Result}
use Rattle.std.specs.Prelude.{Ok, Err}
use Rattle.std.specs.Bool.{beq}
use Rattle.nio_base.specs.declared.numbers.CallerNo.{CallerNo}
use Rattle.nio_history.specs.State.{State}
use Rattle.nio_history.specs.Questions.{Question, draw_bit, make_selector, look_selectors, wake, look_gate}
use Rattle.nio_history.specs.Questions.{set_interrupt}
use Rattle.nio_history.specs.Questions.{take_interrupt, look_interrupt, look_key, cancel_key, look_interest}
use Rattle.nio_history.specs.Questions.{swap_interest, or_interest, and_interest, swap_note, look_note, make_channel}
use Rattle.nio_history.specs.Questions.{look_channel, claim, raise_keys, look_keys, publish, look_reg, enrol, take_turn}
use Rattle.nio_history.specs.Questions.{begin_look, give_turn, remove, look_mark, mark, unselect_bit, end_wake}
use Rattle.nio_history.specs.Questions.{look_channels, raise_channels, try_hold_bit, release, set_mode, close_bit}
use Rattle.nio_history.specs.Questions.{shut_bit, enter, pin, unpin, clear_mark, claim_again, look_free, put_free}
use Rattle.nio_history.specs.Questions.{take_free}
use Rattle.nio_history.specs.Questions.{Answer, question_of, answer_of}
use Rattle.nio_history.specs.declared.act.Act.{Act}
use Rattle.nio_history.specs.declared.act.Act.TheVariants.{DrawBit, MakeSelector, LookSelectors, Wake, LookGate}
use Rattle.nio_history.specs.declared.act.Act.TheVariants.{SetInterrupt, TakeInterrupt, LookInterrupt, LookKey}
use Rattle.nio_history.specs.declared.act.Act.TheVariants.{CancelKey}
use Rattle.nio_history.specs.declared.act.Act.TheVariants.{LookInterest, SwapInterest, OrInterest, AndInterest}
use Rattle.nio_history.specs.declared.act.Act.TheVariants.{SwapNote}
use Rattle.nio_history.specs.declared.act.Act.TheVariants.{LookNote, MakeChannel, LookChannel, Claim, RaiseKeys}
use Rattle.nio_history.specs.declared.act.Act.TheVariants.{LookKeys}
use Rattle.nio_history.specs.declared.act.Act.TheVariants.{Publish, LookReg, Enrol, TakeTurn, BeginLook, GiveTurn}
use Rattle.nio_history.specs.declared.act.Act.TheVariants.{Remove}
use Rattle.nio_history.specs.declared.act.Act.TheVariants.{LookMark, Mark, UnselectBit, EndWake, LookChannels}
use Rattle.nio_history.specs.declared.act.Act.TheVariants.{RaiseChannels, TryHoldBit, Release, SetMode, CloseBit}
use Rattle.nio_history.specs.declared.act.Act.TheVariants.{ShutBit}
use Rattle.nio_history.specs.declared.act.Act.TheVariants.{Enter, Pin, Unpin, ClearMark, ClaimAgain, LookFree, PutFree}
use Rattle.nio_history.specs.declared.act.Act.TheVariants.{TakeFree}
use Rattle.nio_history.specs.declared.found.Mark.{Mark as KeyMark}
use Rattle.nio_history.specs.declared.act.Act.TheVariants.{Reopen, Touch, LookTouched, TakeTouched, LookIndex, TakeList}
use Rattle.nio_history.specs.declared.found.Chan.{Chan}
use Rattle.nio_history.specs.declared.found.IndexWord.{IndexWord}
use Rattle.nio_base.specs.Kind.{is_same_kind}
use Rattle.nio_history.specs.Questions.{reopen, touch, look_touched, take_touched, look_index, take_list}

-- the number whose bit k is set where `test` passes at k, for each k below n
unfoldable pub bits_below : ℕ → (ℕ → Bool) → ℕ
bits_below zero test = 0
bits_below (suc n) test = bit_or (bits_below n test) (if test n then 2 ^ n else 0)

-- how many numbers below n pass the test
unfoldable pub count_below : ℕ → (ℕ → Bool) → ℕ
count_below zero test = 0
count_below (suc n) test = count_below n test + (if test n then 1 else 0)

-- how many pins are on an index: as many as callers have one
abbrev pub pins : State → ℕ → ℕ → ℕ
pins st s i = count_below 64 (st.pinned s i)

-- the index is pinned: somebody has a pin on it
abbrev pub is_pinned : State → ℕ → ℕ → Bool
is_pinned st s i = not (pins st s i == 0)

-- which of the 64 indexes from 64 times j on are free, as one number
abbrev pub free_word : State → ℕ → ℕ → ℕ
free_word st s j = bits_below 64 (λ b. st.free s (64 * j + b))

-- which of them are touched
abbrev pub touched_word : State → ℕ → ℕ → ℕ
touched_word st s j = bits_below 64 (λ b. st.touched s (64 * j + b))

-- the stage of an index's key, and whether the index is pinned
abbrev pub index_at : State → ℕ → ℕ → IndexWord
index_at st s i = record { stage = st.key s i; pinned = is_pinned st s i }

-- all selectors that are made, as one number
abbrev pub selectors_word : State → ℕ
selectors_word st = bits_below 64 st.selector

abbrev pub is_same_mark : KeyMark → KeyMark → Bool
is_same_mark x y = beq x.selected y.selected && (x.ready == y.ready)

-- an exchange from a mark succeeds where that mark stands there, and else finds the one that does
abbrev pub exchange_from : KeyMark → KeyMark → Result (Unit {0}) KeyMark
exchange_from from stands = if is_same_mark stands from then Ok tt else Err stands

abbrev pub is_same_channel : Chan → Chan → Bool
is_same_channel x y =
    beq x.made y.made && is_same_kind x.kind y.kind && beq x.closed y.closed && beq x.blocking y.blocking
    && (x.serial == y.serial)

-- the step that a question to this state comes to: the last field is what it finds
abbrev pub act_from : State → CallerNo → Question → Act
-- whether the number was drawn
act_from st me (draw_bit n) = DrawBit n (st.drawn n.0)
-- whether it was made
act_from st me (make_selector s) = MakeSelector s (st.selector s.0)
-- which selectors are made
act_from st me look_selectors = LookSelectors (selectors_word st)
-- whether a wakeup was pending
act_from st me (wake s) = Wake s (st.gate s.0).woken
-- the gate
act_from st me (look_gate s) = LookGate s (st.gate s.0)
-- whether it was set
act_from st me (set_interrupt n) = SetInterrupt n (st.interrupted n.0)
-- whether the status of the caller itself was set
act_from st me take_interrupt = TakeInterrupt (st.interrupted me.0)
-- whether the status of the caller itself is set
act_from st me look_interrupt = LookInterrupt (st.interrupted me.0)
-- the stage of the key
act_from st me (look_key s i) = LookKey s i (st.key s.0 i)
-- the stage before
act_from st me (cancel_key s i) = CancelKey s i (st.key s.0 i)
-- the interest set
act_from st me (look_interest s i) = LookInterest s i (st.interest s.0 i)
-- the interest set before
act_from st me (swap_interest s i ops) = SwapInterest s i ops (st.interest s.0 i)
-- the interest set before
act_from st me (or_interest s i ops) = OrInterest s i ops (st.interest s.0 i)
-- the interest set before
act_from st me (and_interest s i ops) = AndInterest s i ops (st.interest s.0 i)
-- the attachment before
act_from st me (swap_note s i att) = SwapNote s i att (st.note s.0 i)
-- the attachment
act_from st me (look_note s i) = LookNote s i (st.note s.0 i)
-- whether it was made
act_from st me (make_channel c kind) = MakeChannel c kind (st.chan c.0).made
-- the channel
act_from st me (look_channel c) = LookChannel c (st.chan c.0)
-- whether it was claimed
act_from st me (claim s i c) = Claim s i c (st.key s.0 i).claimed
-- the keys' high-water mark before
act_from st me (raise_keys s n) = RaiseKeys s n (st.keys_high s.0)
-- the keys' high-water mark
act_from st me (look_keys s) = LookKeys s (st.keys_high s.0)
-- the stage before
act_from st me (publish s i) = Publish s i (st.key s.0 i)
-- the enrolled key, if any
act_from st me (look_reg c s) = LookReg c s (st.enrolled c.0 s.0)
-- the key that was enrolled before, if any
act_from st me (enrol c s i serial) = Enrol c s i serial (st.enrolled c.0 s.0)
-- who had the turn
act_from st me (take_turn s) = TakeTurn s (st.turn s.0)
-- the gate
act_from st me (begin_look s) = BeginLook s (st.gate s.0)
-- nothing
act_from st me (give_turn s) = GiveTurn s
-- the stage before
act_from st me (remove s i) = Remove s i (st.key s.0 i)
-- whether the key is selected, and its ready set
act_from st me (look_mark s i) = LookMark s i (st.mark s.0 i)
-- that the mark was the one that is named, or else the mark that stands there
act_from st me (mark s i from told) = Mark s i from told (exchange_from from (st.mark s.0 i))
-- whether it was selected
act_from st me (unselect_bit s i) = UnselectBit s i (st.mark s.0 i).selected
-- the gate before
act_from st me (end_wake s) = EndWake s (st.gate s.0)
-- the channels' high-water mark
act_from st me look_channels = LookChannels st.channels_high
-- the channels' high-water mark before
act_from st me (raise_channels n) = RaiseChannels n st.channels_high
-- who had the hold
act_from st me (try_hold_bit c) = TryHoldBit c (st.hold c.0)
-- nothing
act_from st me (release c) = Release c
-- the channel before
act_from st me (set_mode c blocking) = SetMode c blocking (st.chan c.0)
-- the channel before
act_from st me (close_bit c from) = CloseBit c from (st.chan c.0)
-- whether it was shut
act_from st me (shut_bit s) = ShutBit s (st.gate s.0).shut
-- who has the turn
act_from st me (enter s) = Enter s (st.turn s.0)
-- the stage
act_from st me (pin s i) = Pin s i (st.key s.0 i)
-- nothing
act_from st me (unpin s i) = Unpin s i
-- the mark before
act_from st me (clear_mark s i) = ClearMark s i (st.mark s.0 i)
-- whether somebody had a pin on the index
act_from st me (claim_again s i c from) = ClaimAgain s i c from (is_pinned st s.0 i)
-- which of the 64 indexes are free
act_from st me (look_free s j) = LookFree s j (free_word st s.0 j)
-- nothing
act_from st me (put_free s i) = PutFree s i
-- whether it was free
act_from st me (take_free s i) = TakeFree s i (st.free s.0 i)
-- whether the number has another channel than the one that is named
act_from st me (reopen c from) = Reopen c from (not (is_same_channel (st.chan c.0) from))
-- whether it was touched
act_from st me (touch s i) = Touch s i (st.touched s.0 i)
-- which of the 64 indexes are touched
act_from st me (look_touched s j) = LookTouched s j (touched_word st s.0 j)
-- which of them were touched
act_from st me (take_touched s j) = TakeTouched s j (touched_word st s.0 j)
-- the stage, and whether anybody has a pin on the index
act_from st me (look_index s i) = LookIndex s i (index_at st s.0 i)
-- who had the list
act_from st me (take_list s) = TakeList s (st.lister s.0)

-- what the state answers
abbrev pub answer_from : State → CallerNo → Question → Answer
answer_from st me question = answer_of (act_from st me question)

-- what the step found is what the state answers
abbrev pub Answers : State → CallerNo → Act → Type 0
Answers st me act = answer_of act ≡ answer_from st me (question_of act)
