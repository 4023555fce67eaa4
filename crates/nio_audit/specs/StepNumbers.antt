-- The number of a step with which the judge goes on counting.
use Rattle.std.specs.Prelude.{ℕ}
use Rattle.nio_history.specs.declared.act.Act.{Act}
use Rattle.nio_history.specs.declared.act.Act.TheVariants.{DrawBit, MakeSelector, LookSelectors, Wake, LookGate}
use Rattle.nio_history.specs.declared.act.Act.TheVariants.{SetInterrupt, TakeInterrupt, LookInterrupt, LookKey}
use Rattle.nio_history.specs.declared.act.Act.TheVariants.{CancelKey, LookInterest, SwapInterest, OrInterest}
use Rattle.nio_history.specs.declared.act.Act.TheVariants.{AndInterest, SwapNote, LookNote, MakeChannel, LookChannel}
use Rattle.nio_history.specs.declared.act.Act.TheVariants.{Claim, RaiseKeys, LookKeys, Publish, LookReg, Enrol}
use Rattle.nio_history.specs.declared.act.Act.TheVariants.{TakeTurn, BeginLook, GiveTurn, Remove, LookMark, Mark}
use Rattle.nio_history.specs.declared.act.Act.TheVariants.{UnselectBit, EndWake, LookChannels, RaiseChannels}
use Rattle.nio_history.specs.declared.act.Act.TheVariants.{TryHoldBit, Release, SetMode, CloseBit, ShutBit, Enter, Pin}
use Rattle.nio_history.specs.declared.act.Act.TheVariants.{Unpin, ClearMark, ClaimAgain, LookFree, PutFree, TakeFree}
use Rattle.nio_history.specs.declared.act.Act.TheVariants.{Reopen, Touch, LookTouched, TakeTouched, LookIndex, TakeList}
use Rattle.nio_history.specs.declared.found.Stage.{Stage}

pub data StepNumber : Type 0 where
  no_number : StepNumber
  -- the channel that is made
  channel_made : ℕ → StepNumber
  -- the selector's index that is claimed for its first key
  index_claimed : ℕ → ℕ → StepNumber
  -- the selector's index that is claimed again, and the stage from which
  index_claimed_again : ℕ → ℕ → Stage → StepNumber
  -- which 64 indexes are looked at
  part_looked_at : ℕ → StepNumber
  -- which 64 indexes have their bits taken
  part_taken : ℕ → StepNumber
  -- the serial of the channel whose number is given to a new one
  channel_reopened : ℕ → StepNumber

abbrev pub number_of : Act → StepNumber
number_of (DrawBit _ _) = no_number
number_of (MakeSelector _ _) = no_number
number_of (LookSelectors _) = no_number
number_of (Wake _ _) = no_number
number_of (LookGate _ _) = no_number
number_of (SetInterrupt _ _) = no_number
number_of (TakeInterrupt _) = no_number
number_of (LookInterrupt _) = no_number
number_of (LookKey _ _ _) = no_number
number_of (CancelKey _ _ _) = no_number
number_of (LookInterest _ _ _) = no_number
number_of (SwapInterest _ _ _ _) = no_number
number_of (OrInterest _ _ _ _) = no_number
number_of (AndInterest _ _ _ _) = no_number
number_of (SwapNote _ _ _ _) = no_number
number_of (LookNote _ _ _) = no_number
number_of (MakeChannel c _ _) = channel_made c.0
number_of (LookChannel _ _) = no_number
number_of (Claim s i _ _) = index_claimed s.0 i
number_of (RaiseKeys _ _ _) = no_number
number_of (LookKeys _ _) = no_number
number_of (Publish _ _ _) = no_number
number_of (LookReg _ _ _) = no_number
number_of (Enrol _ _ _ _ _) = no_number
number_of (TakeTurn _ _) = no_number
number_of (BeginLook _ _) = no_number
number_of (GiveTurn _) = no_number
number_of (Remove _ _ _) = no_number
number_of (LookMark _ _ _) = no_number
number_of (Mark _ _ _ _ _) = no_number
number_of (UnselectBit _ _ _) = no_number
number_of (EndWake _ _) = no_number
number_of (LookChannels _) = no_number
number_of (RaiseChannels _ _) = no_number
number_of (TryHoldBit _ _) = no_number
number_of (Release _) = no_number
number_of (SetMode _ _ _) = no_number
number_of (CloseBit _ _ _) = no_number
number_of (ShutBit _ _) = no_number
number_of (Enter _ _) = no_number
number_of (Pin _ _ _) = no_number
number_of (Unpin _ _) = no_number
number_of (ClearMark _ _ _) = no_number
number_of (ClaimAgain s i _ from _) = index_claimed_again s.0 i from
number_of (LookFree _ j _) = part_looked_at j
number_of (PutFree _ _) = no_number
number_of (TakeFree _ _ _) = no_number
number_of (Reopen _ from _) = channel_reopened from.serial
number_of (Touch _ _ _) = no_number
number_of (LookTouched _ j _) = part_looked_at j
number_of (TakeTouched _ j _) = part_taken j
number_of (LookIndex _ _ _) = no_number
number_of (TakeList _ _) = no_number
