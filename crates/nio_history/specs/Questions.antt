-- A step without what it found, which is a question to the state, and what it found alone, which is
-- the answer.
use Rattle.std.specs.Prelude.{ℕ, Bool, Option, Result}
use Rattle.nio_base.specs.declared.kind.Kind.{Kind}
use Rattle.nio_base.specs.declared.numbers.CallerNo.{CallerNo}
use Rattle.nio_base.specs.declared.numbers.ChanNo.{ChanNo}
use Rattle.nio_base.specs.declared.numbers.KeyId.{KeyId}
use Rattle.nio_base.specs.declared.numbers.SelNo.{SelNo}
use Rattle.nio_history.specs.declared.act.Act.{Act}
use Rattle.nio_history.specs.declared.act.Act.TheVariants.{DrawBit, MakeSelector, LookSelectors, Wake, LookGate}
use Rattle.nio_history.specs.declared.act.Act.TheVariants.{SetInterrupt, TakeInterrupt, LookInterrupt, LookKey}
use Rattle.nio_history.specs.declared.act.Act.TheVariants.{CancelKey}
use Rattle.nio_history.specs.declared.act.Act.TheVariants.{LookInterest, SwapInterest, OrInterest, AndInterest}
use Rattle.nio_history.specs.declared.act.Act.TheVariants.{SwapNote}
use Rattle.nio_history.specs.declared.act.Act.TheVariants.{LookNote, MakeChannel, LookChannel, Claim, RaiseKeys}
use Rattle.nio_history.specs.declared.act.Act.TheVariants.{LookKeys}
use Rattle.nio_history.specs.declared.act.Act.TheVariants.{Publish, LookReg, Enrol, TakeTurn, BeginLook, GiveTurn}
use Rattle.nio_history.specs.declared.act.Act.TheVariants.{Remove}
use Rattle.nio_history.specs.declared.act.Act.TheVariants.{LookMark, Mark, UnselectBit, EndWake, LookChannels}
use Rattle.nio_history.specs.declared.act.Act.TheVariants.{RaiseChannels, TryHoldBit, Release, SetMode, CloseBit}
use Rattle.nio_history.specs.declared.act.Act.TheVariants.{ShutBit}
use Rattle.nio_history.specs.declared.act.Act.TheVariants.{Enter, Pin, Unpin, ClearMark, ClaimAgain, LookFree, PutFree}
use Rattle.nio_history.specs.declared.act.Act.TheVariants.{TakeFree}
use Rattle.nio_history.specs.declared.found.Chan.{Chan}
use Rattle.nio_history.specs.declared.found.GateWord.{GateWord}
use Rattle.nio_history.specs.declared.found.IndexWord.{IndexWord}
use Rattle.nio_history.specs.declared.found.Mark.{Mark as KeyMark}
use Rattle.nio_history.specs.declared.found.Stage.{Stage}
use Rattle.nio_history.specs.declared.act.Act.TheVariants.{Reopen, Touch, LookTouched, TakeTouched, LookIndex, TakeList}

-- a kind of step with its parameters
pub data Question : Type 0 where
  draw_bit : CallerNo → Question
  make_selector : SelNo → Question
  look_selectors : Question
  wake : SelNo → Question
  look_gate : SelNo → Question
  set_interrupt : CallerNo → Question
  take_interrupt : Question
  look_interrupt : Question
  look_key : SelNo → ℕ → Question
  cancel_key : SelNo → ℕ → Question
  look_interest : SelNo → ℕ → Question
  swap_interest : SelNo → ℕ → ℕ → Question
  or_interest : SelNo → ℕ → ℕ → Question
  and_interest : SelNo → ℕ → ℕ → Question
  swap_note : SelNo → ℕ → ℕ → Question
  look_note : SelNo → ℕ → Question
  make_channel : ChanNo → Kind → Question
  look_channel : ChanNo → Question
  claim : SelNo → ℕ → ChanNo → Question
  raise_keys : SelNo → ℕ → Question
  look_keys : SelNo → Question
  publish : SelNo → ℕ → Question
  look_reg : ChanNo → SelNo → Question
  enrol : ChanNo → SelNo → ℕ → ℕ → Question
  take_turn : SelNo → Question
  begin_look : SelNo → Question
  give_turn : SelNo → Question
  remove : SelNo → ℕ → Question
  look_mark : SelNo → ℕ → Question
  mark : SelNo → ℕ → KeyMark → ℕ → Question
  unselect_bit : SelNo → ℕ → Question
  end_wake : SelNo → Question
  look_channels : Question
  raise_channels : ℕ → Question
  try_hold_bit : ChanNo → Question
  release : ChanNo → Question
  set_mode : ChanNo → Bool → Question
  close_bit : ChanNo → Chan → Question
  shut_bit : SelNo → Question
  enter : SelNo → Question
  pin : SelNo → ℕ → Question
  unpin : SelNo → ℕ → Question
  clear_mark : SelNo → ℕ → Question
  claim_again : SelNo → ℕ → ChanNo → Stage → Question
  look_free : SelNo → ℕ → Question
  put_free : SelNo → ℕ → Question
  take_free : SelNo → ℕ → Question
  reopen : ChanNo → Chan → Question
  touch : SelNo → ℕ → Question
  look_touched : SelNo → ℕ → Question
  take_touched : SelNo → ℕ → Question
  look_index : SelNo → ℕ → Question
  take_list : SelNo → Question

-- what a step finds: one constructor for each type of answer
pub data Answer : Type 0 where
  flag : Bool → Answer
  word : ℕ → Answer
  gate_word : GateWord → Answer
  stage : Stage → Answer
  operations : ℕ → Answer
  channel : Chan → Answer
  number : ℕ → Answer
  enrolled_key : Option KeyId → Answer
  holder : Option CallerNo → Answer
  key_mark : KeyMark → Answer
  exchange : Result (Unit {0}) KeyMark → Answer
  index_word : IndexWord → Answer
  nothing : Answer

-- the kind of a step and its parameters
abbrev pub question_of : Act → Question
question_of (DrawBit n found) = draw_bit n
question_of (MakeSelector s found) = make_selector s
question_of (LookSelectors found) = look_selectors
question_of (Wake s found) = wake s
question_of (LookGate s found) = look_gate s
question_of (SetInterrupt n found) = set_interrupt n
question_of (TakeInterrupt found) = take_interrupt
question_of (LookInterrupt found) = look_interrupt
question_of (LookKey s i found) = look_key s i
question_of (CancelKey s i found) = cancel_key s i
question_of (LookInterest s i found) = look_interest s i
question_of (SwapInterest s i ops found) = swap_interest s i ops
question_of (OrInterest s i ops found) = or_interest s i ops
question_of (AndInterest s i ops found) = and_interest s i ops
question_of (SwapNote s i att found) = swap_note s i att
question_of (LookNote s i found) = look_note s i
question_of (MakeChannel c kind found) = make_channel c kind
question_of (LookChannel c found) = look_channel c
question_of (Claim s i c found) = claim s i c
question_of (RaiseKeys s n found) = raise_keys s n
question_of (LookKeys s found) = look_keys s
question_of (Publish s i found) = publish s i
question_of (LookReg c s found) = look_reg c s
question_of (Enrol c s i serial found) = enrol c s i serial
question_of (TakeTurn s found) = take_turn s
question_of (BeginLook s found) = begin_look s
question_of (GiveTurn s) = give_turn s
question_of (Remove s i found) = remove s i
question_of (LookMark s i found) = look_mark s i
question_of (Mark s i from told found) = mark s i from told
question_of (UnselectBit s i found) = unselect_bit s i
question_of (EndWake s found) = end_wake s
question_of (LookChannels found) = look_channels
question_of (RaiseChannels n found) = raise_channels n
question_of (TryHoldBit c found) = try_hold_bit c
question_of (Release c) = release c
question_of (SetMode c blocking found) = set_mode c blocking
question_of (CloseBit c from found) = close_bit c from
question_of (ShutBit s found) = shut_bit s
question_of (Enter s found) = enter s
question_of (Pin s i found) = pin s i
question_of (Unpin s i) = unpin s i
question_of (ClearMark s i found) = clear_mark s i
question_of (ClaimAgain s i c from found) = claim_again s i c from
question_of (LookFree s j found) = look_free s j
question_of (PutFree s i) = put_free s i
question_of (TakeFree s i found) = take_free s i
question_of (Reopen c from found) = reopen c from
question_of (Touch s i found) = touch s i
question_of (LookTouched s j found) = look_touched s j
question_of (TakeTouched s j found) = take_touched s j
question_of (LookIndex s i found) = look_index s i
question_of (TakeList s found) = take_list s

-- what a step found
abbrev pub answer_of : Act → Answer
answer_of (DrawBit n found) = flag found
answer_of (MakeSelector s found) = flag found
answer_of (LookSelectors found) = word found
answer_of (Wake s found) = flag found
answer_of (LookGate s found) = gate_word found
answer_of (SetInterrupt n found) = flag found
answer_of (TakeInterrupt found) = flag found
answer_of (LookInterrupt found) = flag found
answer_of (LookKey s i found) = stage found
answer_of (CancelKey s i found) = stage found
answer_of (LookInterest s i found) = operations found
answer_of (SwapInterest s i ops found) = operations found
answer_of (OrInterest s i ops found) = operations found
answer_of (AndInterest s i ops found) = operations found
answer_of (SwapNote s i att found) = word found
answer_of (LookNote s i found) = word found
answer_of (MakeChannel c kind found) = flag found
answer_of (LookChannel c found) = channel found
answer_of (Claim s i c found) = flag found
answer_of (RaiseKeys s n found) = number found
answer_of (LookKeys s found) = number found
answer_of (Publish s i found) = stage found
answer_of (LookReg c s found) = enrolled_key found
answer_of (Enrol c s i serial found) = enrolled_key found
answer_of (TakeTurn s found) = holder found
answer_of (BeginLook s found) = gate_word found
answer_of (GiveTurn s) = nothing
answer_of (Remove s i found) = stage found
answer_of (LookMark s i found) = key_mark found
answer_of (Mark s i from told found) = exchange found
answer_of (UnselectBit s i found) = flag found
answer_of (EndWake s found) = gate_word found
answer_of (LookChannels found) = number found
answer_of (RaiseChannels n found) = number found
answer_of (TryHoldBit c found) = holder found
answer_of (Release c) = nothing
answer_of (SetMode c blocking found) = channel found
answer_of (CloseBit c from found) = channel found
answer_of (ShutBit s found) = flag found
answer_of (Enter s found) = holder found
answer_of (Pin s i found) = stage found
answer_of (Unpin s i) = nothing
answer_of (ClearMark s i found) = key_mark found
answer_of (ClaimAgain s i c from found) = flag found
answer_of (LookFree s j found) = word found
answer_of (PutFree s i) = nothing
answer_of (TakeFree s i found) = flag found
answer_of (Reopen c from found) = flag found
answer_of (Touch s i found) = flag found
answer_of (LookTouched s j found) = word found
answer_of (TakeTouched s j found) = word found
answer_of (LookIndex s i found) = index_word found
answer_of (TakeList s found) = holder found
