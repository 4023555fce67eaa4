-- What stands between two lines is a fact: there is at most one proof of it.
use Rattle.std.proofs.Common.{List}
use Rattle.nio_history.specs.declared.act.Act.TheVariants.{Touch, LookTouched, TakeTouched, LookIndex, TakeList}
use Rattle.std.proofs.Math.Bool.{Bool-set}
use Rattle.std.proofs.Math.Nat.{ℕ_set}
use Rattle.std.proofs.Props.{props}
use mathlib.Core.Sum.{⊎_set}
use Rattle.nio_base.specs.declared.kind.Kind.{Kind}
use Rattle.nio_base.specs.declared.limits.Limits.{Limits}
use Rattle.nio_base.specs.declared.numbers.CallerNo.{CallerNo}
use Rattle.nio_history.specs.Answers.{Answers}
use Rattle.nio_history.specs.Conditions.{Condition}
use Rattle.nio_history.specs.Histories.{IsLegal}
use Rattle.nio_history.specs.OwnEvents.{OwnClaim}
use Rattle.nio_history.specs.Questions.{Answer}
use Rattle.nio_history.specs.State.{State}
use Rattle.nio_history.specs.declared.act.Act.{Act}
use Rattle.nio_history.specs.declared.act.Act.TheVariants.{DrawBit, MakeSelector, LookSelectors, Wake, LookGate}
use Rattle.nio_history.specs.declared.act.Act.TheVariants.{SetInterrupt, TakeInterrupt, LookInterrupt, LookKey}
use Rattle.nio_history.specs.declared.act.Act.TheVariants.{CancelKey}
use Rattle.nio_history.specs.declared.act.Act.TheVariants.{LookInterest, SwapInterest, OrInterest, AndInterest}
use Rattle.nio_history.specs.declared.act.Act.TheVariants.{SwapNote}
use Rattle.nio_history.specs.declared.act.Act.TheVariants.{LookNote, MakeChannel, LookChannel, Claim, RaiseKeys}
use Rattle.nio_history.specs.declared.act.Act.TheVariants.{LookKeys}
use Rattle.nio_history.specs.declared.act.Act.TheVariants.{Publish, LookReg, Enrol, TakeTurn, BeginLook, GiveTurn}
use Rattle.nio_history.specs.declared.act.Act.TheVariants.{Remove}
use Rattle.nio_history.specs.declared.act.Act.TheVariants.{LookMark, Mark, UnselectBit, EndWake, LookChannels}
use Rattle.nio_history.specs.declared.act.Act.TheVariants.{RaiseChannels, TryHoldBit, Release, SetMode, CloseBit}
use Rattle.nio_history.specs.declared.act.Act.TheVariants.{ShutBit}
use Rattle.nio_history.specs.declared.act.Act.TheVariants.{Enter, Pin, Unpin, ClearMark, ClaimAgain, LookFree, PutFree}
use Rattle.nio_history.specs.declared.act.Act.TheVariants.{TakeFree, Reopen}
use Rattle.nio_history.specs.declared.event.Event.{Event}
use Rattle.nio_history.specs.declared.found.Stage.{Stage}
use Rattle.nio_sole.specs.Stands.{Stands}
use Rattle.nio_sole.specs.declared.desk.Desk.{Desk}
use Rattle.nio_words.specs.Passes.{IsReady}
use Rattle.nio_words.specs.declared.words.Pass.{Pass}
use Rattle.nio_words.specs.declared.words.Words.{Words}

limits_set : IsSet Limits
limits_set = hlevel ℕ_set

caller_set : IsSet CallerNo
caller_set = hlevel ℕ_set

stage_set : IsSet Stage
stage_set = hlevel (ℕ_set, Bool-set)

claim_set : IsSet OwnClaim
claim_set = hlevel ℕ_set

kind_set : IsSet Kind
kind_set = hlevel ⊎_set

answer_set : IsSet Answer
answer_set = hlevel (ℕ_set, Bool-set, ⊎_set)

condition_prop : (l : Limits) (own : List Act) (st : State) (me : CallerNo) (act : Act)
    → IsProp (Condition l own st me act)
condition_prop l own st me (DrawBit n found) =
    hlevel (props, ℕ_set, Bool-set, caller_set, stage_set, claim_set)
condition_prop l own st me (MakeSelector s found) =
    hlevel (props, ℕ_set, Bool-set, caller_set, stage_set, claim_set)
condition_prop l own st me (LookSelectors found) =
    hlevel (props, ℕ_set, Bool-set, caller_set, stage_set, claim_set)
condition_prop l own st me (Wake s found) =
    hlevel (props, ℕ_set, Bool-set, caller_set, stage_set, claim_set)
condition_prop l own st me (LookGate s found) =
    hlevel (props, ℕ_set, Bool-set, caller_set, stage_set, claim_set)
condition_prop l own st me (SetInterrupt n found) =
    hlevel (props, ℕ_set, Bool-set, caller_set, stage_set, claim_set)
condition_prop l own st me (TakeInterrupt found) =
    hlevel (props, ℕ_set, Bool-set, caller_set, stage_set, claim_set)
condition_prop l own st me (LookInterrupt found) =
    hlevel (props, ℕ_set, Bool-set, caller_set, stage_set, claim_set)
condition_prop l own st me (LookKey s i found) =
    hlevel (props, ℕ_set, Bool-set, caller_set, stage_set, claim_set)
condition_prop l own st me (CancelKey s i found) =
    hlevel (props, ℕ_set, Bool-set, caller_set, stage_set, claim_set)
condition_prop l own st me (LookInterest s i found) =
    hlevel (props, ℕ_set, Bool-set, caller_set, stage_set, claim_set)
condition_prop l own st me (SwapInterest s i ops found) =
    hlevel (props, ℕ_set, Bool-set, caller_set, stage_set, claim_set)
condition_prop l own st me (OrInterest s i ops found) =
    hlevel (props, ℕ_set, Bool-set, caller_set, stage_set, claim_set)
condition_prop l own st me (AndInterest s i ops found) =
    hlevel (props, ℕ_set, Bool-set, caller_set, stage_set, claim_set)
condition_prop l own st me (SwapNote s i att found) =
    hlevel (props, ℕ_set, Bool-set, caller_set, stage_set, claim_set)
condition_prop l own st me (LookNote s i found) =
    hlevel (props, ℕ_set, Bool-set, caller_set, stage_set, claim_set)
condition_prop l own st me (MakeChannel c kind found) =
    hlevel (props, ℕ_set, Bool-set, caller_set, stage_set, claim_set)
condition_prop l own st me (LookChannel c found) =
    hlevel (props, ℕ_set, Bool-set, caller_set, stage_set, claim_set)
condition_prop l own st me (Claim s i c found) =
    hlevel (props, ℕ_set, Bool-set, caller_set, stage_set, claim_set)
condition_prop l own st me (RaiseKeys s n found) =
    hlevel (props, ℕ_set, Bool-set, caller_set, stage_set, claim_set)
condition_prop l own st me (LookKeys s found) =
    hlevel (props, ℕ_set, Bool-set, caller_set, stage_set, claim_set)
condition_prop l own st me (Publish s i found) =
    hlevel (props, ℕ_set, Bool-set, caller_set, stage_set, claim_set)
condition_prop l own st me (LookReg c s found) =
    hlevel (props, ℕ_set, Bool-set, caller_set, stage_set, claim_set)
condition_prop l own st me (Enrol c s i serial found) =
    hlevel (props, ℕ_set, Bool-set, caller_set, stage_set, claim_set)
condition_prop l own st me (TakeTurn s found) =
    hlevel (props, ℕ_set, Bool-set, caller_set, stage_set, claim_set)
condition_prop l own st me (BeginLook s found) =
    hlevel (props, ℕ_set, Bool-set, caller_set, stage_set, claim_set)
condition_prop l own st me (GiveTurn s) = hlevel (props, ℕ_set, Bool-set, caller_set, stage_set, claim_set)
condition_prop l own st me (Remove s i found) =
    hlevel (props, ℕ_set, Bool-set, caller_set, stage_set, claim_set)
condition_prop l own st me (LookMark s i found) =
    hlevel (props, ℕ_set, Bool-set, caller_set, stage_set, claim_set)
condition_prop l own st me (Mark s i from told found) =
    hlevel (props, ℕ_set, Bool-set, caller_set, stage_set, claim_set)
condition_prop l own st me (UnselectBit s i found) =
    hlevel (props, ℕ_set, Bool-set, caller_set, stage_set, claim_set)
condition_prop l own st me (EndWake s found) =
    hlevel (props, ℕ_set, Bool-set, caller_set, stage_set, claim_set)
condition_prop l own st me (LookChannels found) =
    hlevel (props, ℕ_set, Bool-set, caller_set, stage_set, claim_set)
condition_prop l own st me (RaiseChannels n found) =
    hlevel (props, ℕ_set, Bool-set, caller_set, stage_set, claim_set)
condition_prop l own st me (TryHoldBit c found) =
    hlevel (props, ℕ_set, Bool-set, caller_set, stage_set, claim_set)
condition_prop l own st me (Release c) = hlevel (props, ℕ_set, Bool-set, caller_set, stage_set, claim_set)
condition_prop l own st me (SetMode c blocking found) =
    hlevel (props, ℕ_set, Bool-set, caller_set, stage_set, claim_set)
condition_prop l own st me (CloseBit c from found) =
    hlevel (props, ℕ_set, Bool-set, caller_set, stage_set, claim_set, kind_set)
condition_prop l own st me (ShutBit s found) =
    hlevel (props, ℕ_set, Bool-set, caller_set, stage_set, claim_set)
condition_prop l own st me (Enter s found) =
    hlevel (props, ℕ_set, Bool-set, caller_set, stage_set, claim_set)
condition_prop l own st me (Pin s i found) =
    hlevel (props, ℕ_set, Bool-set, caller_set, stage_set, claim_set)
condition_prop l own st me (Unpin s i) = hlevel (props, ℕ_set, Bool-set, caller_set, stage_set, claim_set)
condition_prop l own st me (ClearMark s i found) =
    hlevel (props, ℕ_set, Bool-set, caller_set, stage_set, claim_set)
condition_prop l own st me (ClaimAgain s i c from found) =
    hlevel (props, ℕ_set, Bool-set, caller_set, stage_set, claim_set)
condition_prop l own st me (LookFree s j found) =
    hlevel (props, ℕ_set, Bool-set, caller_set, stage_set, claim_set)
condition_prop l own st me (PutFree s i) = hlevel (props, ℕ_set, Bool-set, caller_set, stage_set, claim_set)
condition_prop l own st me (TakeFree s i found) =
    hlevel (props, ℕ_set, Bool-set, caller_set, stage_set, claim_set)
condition_prop l own st me (Reopen c from failed) =
    hlevel (props, ℕ_set, Bool-set, caller_set, stage_set, claim_set)
condition_prop l own st me (Touch s i found) =
    hlevel (props, ℕ_set, Bool-set, caller_set, stage_set, claim_set)
condition_prop l own st me (LookTouched s j found) =
    hlevel (props, ℕ_set, Bool-set, caller_set, stage_set, claim_set)
condition_prop l own st me (TakeTouched s j found) =
    hlevel (props, ℕ_set, Bool-set, caller_set, stage_set, claim_set)
condition_prop l own st me (LookIndex s i found) =
    hlevel (props, ℕ_set, Bool-set, caller_set, stage_set, claim_set)
condition_prop l own st me (TakeList s found) =
    hlevel (props, ℕ_set, Bool-set, caller_set, stage_set, claim_set)

answers_prop : (st : State) (me : CallerNo) (act : Act) → IsProp (Answers st me act)
answers_prop st me act = hlevel answer_set

legal_prop : (l : Limits) (events : List Event) → IsProp (IsLegal l events)
legal_prop l events = hlevel (props, condition_prop, answers_prop)

ready_prop : (w : Words) (p : Pass) (n : CallerNo) → IsProp (IsReady w p n)
ready_prop w p n = hlevel (props, ℕ_set, limits_set, legal_prop)

pub stands_prop : (w : Words) (d : Desk) → IsProp (Stands w d)
stands_prop w d = hlevel (props, ℕ_set, Bool-set, ready_prop)
