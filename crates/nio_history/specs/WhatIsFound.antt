-- What each kind of step finds, as one line a kind: the same as `Answers`, without the way through questions. The lines
-- stand in the order in which `Act` lists the kinds.
use Rattle.std.specs.Prelude.{◌≡◌, ◌↔◌, ⊤, not}
use Rattle.nio_base.specs.declared.numbers.CallerNo.{CallerNo}
use Rattle.nio_history.specs.Answers.{Answers, is_pinned, free_word, touched_word, index_at, selectors_word}
use Rattle.nio_history.specs.Answers.{exchange_from, is_same_channel}
use Rattle.nio_history.specs.State.{State}
use Rattle.nio_history.specs.declared.act.Act.{Act}
use Rattle.nio_history.specs.declared.act.Act.TheVariants.{DrawBit, MakeSelector, LookSelectors, Wake, LookGate}
use Rattle.nio_history.specs.declared.act.Act.TheVariants.{SetInterrupt, TakeInterrupt, LookInterrupt, LookKey}
use Rattle.nio_history.specs.declared.act.Act.TheVariants.{CancelKey}
use Rattle.nio_history.specs.declared.act.Act.TheVariants.{LookInterest, SwapInterest, OrInterest, AndInterest}
use Rattle.nio_history.specs.declared.act.Act.TheVariants.{SwapNote}
use Rattle.nio_history.specs.declared.act.Act.TheVariants.{LookNote, MakeChannel, LookChannel, Claim, RaiseKeys}
use Rattle.nio_history.specs.declared.act.Act.TheVariants.{LookKeys}
use Rattle.nio_history.specs.declared.act.Act.TheVariants.{Publish, LookReg, Enrol, TakeTurn, BeginLook, GiveTurn}
use Rattle.nio_history.specs.declared.act.Act.TheVariants.{Remove}
use Rattle.nio_history.specs.declared.act.Act.TheVariants.{LookMark, Mark, UnselectBit, EndWake, LookChannels}
use Rattle.nio_history.specs.declared.act.Act.TheVariants.{RaiseChannels, TryHoldBit, Release, SetMode, CloseBit}
use Rattle.nio_history.specs.declared.act.Act.TheVariants.{ShutBit}
use Rattle.nio_history.specs.declared.act.Act.TheVariants.{Enter, Pin, Unpin, ClearMark, ClaimAgain, LookFree, PutFree}
use Rattle.nio_history.specs.declared.act.Act.TheVariants.{TakeFree}
use Rattle.nio_history.specs.declared.act.Act.TheVariants.{Reopen, Touch, LookTouched, TakeTouched, LookIndex, TakeList}

-- what the step found is what the state gives; nothing is found by a step that gives something back
abbrev pub Finds : State → CallerNo → Act → Type 0
-- whether the number was drawn
Finds st me (DrawBit n found) = found ≡ st.drawn n.0
-- whether it was made
Finds st me (MakeSelector s found) = found ≡ st.selector s.0
-- which selectors are made
Finds st me (LookSelectors found) = found ≡ selectors_word st
-- whether a wakeup was pending
Finds st me (Wake s found) = found ≡ (st.gate s.0).woken
-- the gate
Finds st me (LookGate s found) = found ≡ st.gate s.0
-- whether it was set
Finds st me (SetInterrupt n found) = found ≡ st.interrupted n.0
-- whether the status of the caller itself was set
Finds st me (TakeInterrupt found) = found ≡ st.interrupted me.0
-- whether the status of the caller itself is set
Finds st me (LookInterrupt found) = found ≡ st.interrupted me.0
-- the stage of the key
Finds st me (LookKey s i found) = found ≡ st.key s.0 i
-- the stage before
Finds st me (CancelKey s i found) = found ≡ st.key s.0 i
-- the interest set
Finds st me (LookInterest s i found) = found ≡ st.interest s.0 i
-- the interest set before
Finds st me (SwapInterest s i ops found) = found ≡ st.interest s.0 i
-- the interest set before
Finds st me (OrInterest s i ops found) = found ≡ st.interest s.0 i
-- the interest set before
Finds st me (AndInterest s i ops found) = found ≡ st.interest s.0 i
-- the attachment before
Finds st me (SwapNote s i att found) = found ≡ st.note s.0 i
-- the attachment
Finds st me (LookNote s i found) = found ≡ st.note s.0 i
-- whether it was made
Finds st me (MakeChannel c kind found) = found ≡ (st.chan c.0).made
-- the channel
Finds st me (LookChannel c found) = found ≡ st.chan c.0
-- whether it was claimed
Finds st me (Claim s i c found) = found ≡ (st.key s.0 i).claimed
-- the keys' high-water mark before
Finds st me (RaiseKeys s n found) = found ≡ st.keys_high s.0
-- the keys' high-water mark
Finds st me (LookKeys s found) = found ≡ st.keys_high s.0
-- the stage before
Finds st me (Publish s i found) = found ≡ st.key s.0 i
-- the enrolled key, if any
Finds st me (LookReg c s found) = found ≡ st.enrolled c.0 s.0
-- the key that was enrolled before, if any
Finds st me (Enrol c s i serial found) = found ≡ st.enrolled c.0 s.0
-- who had the turn
Finds st me (TakeTurn s found) = found ≡ st.turn s.0
-- the gate
Finds st me (BeginLook s found) = found ≡ st.gate s.0
-- nothing
Finds st me (GiveTurn s) = ⊤
-- the stage before
Finds st me (Remove s i found) = found ≡ st.key s.0 i
-- whether the key is selected, and its ready set
Finds st me (LookMark s i found) = found ≡ st.mark s.0 i
-- that the mark was the one that is named, or else the mark that stands there
Finds st me (Mark s i from told found) = found ≡ exchange_from from (st.mark s.0 i)
-- whether it was selected
Finds st me (UnselectBit s i found) = found ≡ (st.mark s.0 i).selected
-- the gate before
Finds st me (EndWake s found) = found ≡ st.gate s.0
-- the channels' high-water mark
Finds st me (LookChannels found) = found ≡ st.channels_high
-- the channels' high-water mark before
Finds st me (RaiseChannels n found) = found ≡ st.channels_high
-- who had the hold
Finds st me (TryHoldBit c found) = found ≡ st.hold c.0
-- nothing
Finds st me (Release c) = ⊤
-- the channel before
Finds st me (SetMode c blocking found) = found ≡ st.chan c.0
-- the channel before
Finds st me (CloseBit c from found) = found ≡ st.chan c.0
-- whether it was shut
Finds st me (ShutBit s found) = found ≡ (st.gate s.0).shut
-- who has the turn
Finds st me (Enter s found) = found ≡ st.turn s.0
-- the stage
Finds st me (Pin s i found) = found ≡ st.key s.0 i
-- nothing
Finds st me (Unpin s i) = ⊤
-- the mark before
Finds st me (ClearMark s i found) = found ≡ st.mark s.0 i
-- whether somebody had a pin on the index
Finds st me (ClaimAgain s i c from found) = found ≡ is_pinned st s.0 i
-- which of the 64 indexes are free
Finds st me (LookFree s j found) = found ≡ free_word st s.0 j
-- nothing
Finds st me (PutFree s i) = ⊤
-- whether it was free
Finds st me (TakeFree s i found) = found ≡ st.free s.0 i
-- whether the number has another channel than the one that is named
Finds st me (Reopen c from found) = found ≡ not (is_same_channel (st.chan c.0) from)
-- whether it was touched
Finds st me (Touch s i found) = found ≡ st.touched s.0 i
-- which of the 64 indexes are touched
Finds st me (LookTouched s j found) = found ≡ touched_word st s.0 j
-- which of them were touched
Finds st me (TakeTouched s j found) = found ≡ touched_word st s.0 j
-- the stage, and whether anybody has a pin on the index
Finds st me (LookIndex s i found) = found ≡ index_at st s.0 i
-- who had the list
Finds st me (TakeList s found) = found ≡ st.lister s.0

-- it is the same as that the state answers so
abbrev pub FindsWhatAnswers : Type 0
FindsWhatAnswers = (st : State) (me : CallerNo) (act : Act) → Finds st me act ↔ Answers st me act
