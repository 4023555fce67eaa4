-- On which part of the state each kind of step is. The lines stand in the order in which `Act` lists the kinds.
use Rattle.std.specs.Prelude.{ℕ, ◌/◌}
use Rattle.nio_base.specs.declared.numbers.ChanNo.{ChanNo}
use Rattle.nio_base.specs.declared.numbers.SelNo.{SelNo}
use Rattle.nio_history.specs.declared.act.Act.{Act}
use Rattle.nio_history.specs.declared.act.Act.TheVariants.{DrawBit, MakeSelector, LookSelectors, Wake, LookGate}
use Rattle.nio_history.specs.declared.act.Act.TheVariants.{SetInterrupt, TakeInterrupt, LookInterrupt, LookKey}
use Rattle.nio_history.specs.declared.act.Act.TheVariants.{CancelKey}
use Rattle.nio_history.specs.declared.act.Act.TheVariants.{LookInterest, SwapInterest, OrInterest, AndInterest}
use Rattle.nio_history.specs.declared.act.Act.TheVariants.{SwapNote}
use Rattle.nio_history.specs.declared.act.Act.TheVariants.{LookNote, MakeChannel, LookChannel, Claim, RaiseKeys}
use Rattle.nio_history.specs.declared.act.Act.TheVariants.{LookKeys}
use Rattle.nio_history.specs.declared.act.Act.TheVariants.{Publish, LookReg, Enrol, TakeTurn, BeginLook, GiveTurn}
use Rattle.nio_history.specs.declared.act.Act.TheVariants.{Remove}
use Rattle.nio_history.specs.declared.act.Act.TheVariants.{LookMark, Mark as MarkKey, UnselectBit, EndWake}
use Rattle.nio_history.specs.declared.act.Act.TheVariants.{LookChannels}
use Rattle.nio_history.specs.declared.act.Act.TheVariants.{RaiseChannels, TryHoldBit, Release, SetMode, CloseBit}
use Rattle.nio_history.specs.declared.act.Act.TheVariants.{ShutBit}
use Rattle.nio_history.specs.declared.act.Act.TheVariants.{Enter, Pin, Unpin, ClearMark, ClaimAgain, LookFree, PutFree}
use Rattle.nio_history.specs.declared.act.Act.TheVariants.{TakeFree, Reopen, Touch, LookTouched, TakeTouched}
use Rattle.nio_history.specs.declared.act.Act.TheVariants.{LookIndex, TakeList}
use Rattle.nio_words.specs.declared.part.Part.{Part}
use Rattle.nio_words.specs.declared.part.Part.TheVariants.{Callers, Interrupts, Selectors, ChannelsHigh, Chan, Hold}
use Rattle.nio_words.specs.declared.part.Part.TheVariants.{Enrolled, Gate, Turn, KeysHigh, Key, Interest, Mark, Note}
use Rattle.nio_words.specs.declared.part.Part.TheVariants.{Free, Touched, Lister}

abbrev pub part_of : Act → Part
part_of (DrawBit n found) = Callers
part_of (MakeSelector s found) = Selectors
part_of (LookSelectors found) = Selectors
part_of (Wake s found) = Gate s.0
part_of (LookGate s found) = Gate s.0
part_of (SetInterrupt n found) = Interrupts
part_of (TakeInterrupt found) = Interrupts
part_of (LookInterrupt found) = Interrupts
part_of (LookKey s i found) = Key s.0 i
part_of (CancelKey s i found) = Key s.0 i
part_of (LookInterest s i found) = Interest s.0 i
part_of (SwapInterest s i ops found) = Interest s.0 i
part_of (OrInterest s i ops found) = Interest s.0 i
part_of (AndInterest s i ops found) = Interest s.0 i
part_of (SwapNote s i att found) = Note s.0 i
part_of (LookNote s i found) = Note s.0 i
part_of (MakeChannel c kind found) = Chan c.0
part_of (LookChannel c found) = Chan c.0
part_of (Claim s i c found) = Key s.0 i
part_of (RaiseKeys s n found) = KeysHigh s.0
part_of (LookKeys s found) = KeysHigh s.0
part_of (Publish s i found) = Key s.0 i
part_of (LookReg c s found) = Enrolled c.0 s.0
part_of (Enrol c s i serial found) = Enrolled c.0 s.0
part_of (TakeTurn s found) = Turn s.0
part_of (BeginLook s found) = Gate s.0
part_of (GiveTurn s) = Turn s.0
part_of (Remove s i found) = Key s.0 i
part_of (LookMark s i found) = Mark s.0 i
part_of (MarkKey s i from told found) = Mark s.0 i
part_of (UnselectBit s i found) = Mark s.0 i
part_of (EndWake s found) = Gate s.0
part_of (LookChannels found) = ChannelsHigh
part_of (RaiseChannels n found) = ChannelsHigh
part_of (TryHoldBit c found) = Hold c.0
part_of (Release c) = Hold c.0
part_of (SetMode c blocking found) = Chan c.0
part_of (CloseBit c from found) = Chan c.0
part_of (ShutBit s found) = Gate s.0
part_of (Enter s found) = Turn s.0
part_of (Pin s i found) = Key s.0 i
part_of (Unpin s i) = Key s.0 i
part_of (ClearMark s i found) = Mark s.0 i
part_of (ClaimAgain s i c from found) = Key s.0 i
part_of (LookFree s j found) = Free s.0 j
part_of (PutFree s i) = Free s.0 (i / 64)
part_of (TakeFree s i found) = Free s.0 (i / 64)
part_of (Reopen c from found) = Chan c.0
part_of (Touch s i found) = Touched s.0 (i / 64)
part_of (LookTouched s j found) = Touched s.0 j
part_of (TakeTouched s j found) = Touched s.0 j
part_of (LookIndex s i found) = Key s.0 i
part_of (TakeList s found) = Lister s.0

-- the numbers in a part: its selector, its channel, and the index of its key or the number of its word of free or
-- touched indexes; 0 where it has none
pub record PartNumbers : Type 0 where
  pub selector : ℕ
  pub channel : ℕ
  pub index : ℕ

abbrev pub numbers_in : Part → PartNumbers
numbers_in Callers = record { selector = 0; channel = 0; index = 0 }
numbers_in Interrupts = record { selector = 0; channel = 0; index = 0 }
numbers_in Selectors = record { selector = 0; channel = 0; index = 0 }
numbers_in ChannelsHigh = record { selector = 0; channel = 0; index = 0 }
numbers_in (Chan c) = record { selector = 0; channel = c; index = 0 }
numbers_in (Hold c) = record { selector = 0; channel = c; index = 0 }
numbers_in (Enrolled c s) = record { selector = s; channel = c; index = 0 }
numbers_in (Gate s) = record { selector = s; channel = 0; index = 0 }
numbers_in (Turn s) = record { selector = s; channel = 0; index = 0 }
numbers_in (KeysHigh s) = record { selector = s; channel = 0; index = 0 }
numbers_in (Key s i) = record { selector = s; channel = 0; index = i }
numbers_in (Interest s i) = record { selector = s; channel = 0; index = i }
numbers_in (Mark s i) = record { selector = s; channel = 0; index = i }
numbers_in (Note s i) = record { selector = s; channel = 0; index = i }
numbers_in (Free s j) = record { selector = s; channel = 0; index = j }
numbers_in (Touched s j) = record { selector = s; channel = 0; index = j }
numbers_in (Lister s) = record { selector = s; channel = 0; index = 0 }

abbrev pub selector_in : Part → SelNo
selector_in part = record { 0 = (numbers_in part).selector }

abbrev pub channel_in : Part → ChanNo
channel_in part = record { 0 = (numbers_in part).channel }

abbrev pub index_in : Part → ℕ
index_in part = (numbers_in part).index
