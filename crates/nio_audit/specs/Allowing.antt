-- When a step is allowed, by what the judge keeps in place of the caller's own events.
use Rattle.std.specs.Prelude.{◌≡◌, ℕ, ◌<◌, ◌≤◌, nat_lt, Bool, false, ◌&&◌, ◌||◌, Option, Some, None, [], IsTrue}
use Rattle.nio_audit.specs.DueIndexes.{due_of}
use Rattle.nio_audit.specs.Found.{unblocked_by, found_by, is_clear_for}
use Rattle.nio_audit.specs.Remembering.{Knowledge, knowledge_of}
use Rattle.nio_audit.specs.StateOf.{state_with}
use Rattle.nio_audit.specs.TableWords.{row}
use Rattle.nio_audit.specs.declared.judge.Judge.{Judge}
use Rattle.nio_audit.specs.declared.memory.Claim.{Claim}
use Rattle.nio_base.specs.declared.limits.Limits.{Limits}
use Rattle.nio_base.specs.declared.numbers.CallerNo.{CallerNo}
use Rattle.nio_base.specs.declared.numbers.SelNo.{SelNo}
use Rattle.nio_history.specs.Conditions.{Condition, IsChannel, IsKey, IsSelector, holds, has_entered, has_taken}
use Rattle.nio_history.specs.Conditions.{may_remove_cancelled, is_amid}
use Rattle.nio_base.specs.Numbers.{last_serial}
use Rattle.nio_history.specs.State.{State}
use Rattle.nio_history.specs.declared.act.Act.{Act}
use Rattle.nio_history.specs.declared.act.Act.TheVariants.{DrawBit, MakeSelector, LookSelectors, Wake, LookGate}
use Rattle.nio_history.specs.declared.act.Act.TheVariants.{SetInterrupt, TakeInterrupt, LookInterrupt, LookKey}
use Rattle.nio_history.specs.declared.act.Act.TheVariants.{CancelKey, LookInterest, SwapInterest, OrInterest}
use Rattle.nio_history.specs.declared.act.Act.TheVariants.{AndInterest, SwapNote, LookNote, MakeChannel, LookChannel}
use Rattle.nio_history.specs.declared.act.Act.TheVariants.{Claim as ClaimAct, RaiseKeys, LookKeys, Publish, LookReg}
use Rattle.nio_history.specs.declared.act.Act.TheVariants.{Enrol, TakeTurn, BeginLook, GiveTurn, Remove, LookMark, Mark}
use Rattle.nio_history.specs.declared.act.Act.TheVariants.{UnselectBit, EndWake, LookChannels, RaiseChannels}
use Rattle.nio_history.specs.declared.act.Act.TheVariants.{TryHoldBit, Release, SetMode, CloseBit, ShutBit, Enter, Pin}
use Rattle.nio_history.specs.declared.act.Act.TheVariants.{Unpin, ClearMark, ClaimAgain, LookFree, PutFree, TakeFree}
use Rattle.nio_history.specs.declared.act.Act.TheVariants.{Reopen, Touch, LookTouched, TakeTouched, LookIndex, TakeList}

-- the state that a judge has
abbrev pub state_of : Judge → State
state_of j = state_with j.state (due_of j.dues)

abbrev pub may_publish_by : State → Knowledge → CallerNo → Option Claim → Bool
may_publish_by st k me None = false
may_publish_by st k me (Some claim) = holds st me claim.channel && unblocked_by (k.holds me.0 claim.channel.0)

abbrev pub may_clear_out_by : State → Knowledge → CallerNo → SelNo → ℕ → Bool
may_clear_out_by st k me s i = has_entered st me s && nat_lt i (k.closings me.0 s.0).below

-- ---- the condition of a step, where so many channels are made and so many indexes are claimed

module _ (l : Limits) (k : Knowledge) (channels : ℕ) (keys : ℕ → ℕ) (st : State) (me : CallerNo) where
  -- the condition as it stands: it reads none of the caller's own acts
  abbrev ByState : Act → Type 0
  ByState act = Condition l [] st me act

  abbrev pub Allowed : Act → Type 0
  Allowed (DrawBit n found) = ByState (DrawBit n found)
  Allowed (MakeSelector s found) = ByState (MakeSelector s found)
  Allowed (LookSelectors found) = ByState (LookSelectors found)
  Allowed (Wake s found) = ByState (Wake s found)
  Allowed (LookGate s found) = ByState (LookGate s found)
  Allowed (SetInterrupt n found) = ByState (SetInterrupt n found)
  Allowed (TakeInterrupt found) = ByState (TakeInterrupt found)
  Allowed (LookInterrupt found) = ByState (LookInterrupt found)
  Allowed (LookKey s i found) = ByState (LookKey s i found)
  Allowed (CancelKey s i found) = ByState (CancelKey s i found)
  Allowed (LookInterest s i found) = ByState (LookInterest s i found)
  Allowed (SwapInterest s i ops found) = ByState (SwapInterest s i ops found)
  Allowed (OrInterest s i ops found) = ByState (OrInterest s i ops found)
  Allowed (AndInterest s i ops found) = ByState (AndInterest s i ops found)
  Allowed (SwapNote s i att found) = ByState (SwapNote s i att found)
  Allowed (LookNote s i found) = ByState (LookNote s i found)
  Allowed (MakeChannel c kind found) = IsChannel l c × (c.0 ≤ channels)
  Allowed (LookChannel c found) = ByState (LookChannel c found)
  Allowed (ClaimAct s i c found) =
      IsKey l s i × IsChannel l c × IsTrue (holds st me c) × (i ≤ keys s.0)
  Allowed (RaiseKeys s n found) = IsSelector l s × (n ≤ l.keys) × (n ≤ keys s.0)
  Allowed (LookKeys s found) = ByState (LookKeys s found)
  Allowed (Publish s i found) =
      IsKey l s i × IsTrue (may_publish_by st k me (k.indexes me.0 s.0 i).claim) × IsTrue (is_amid st me s i)
  Allowed (LookReg c s found) = ByState (LookReg c s found)
  Allowed (Enrol c s i serial found) =
      IsChannel l c × IsKey l s i × ((k.indexes me.0 s.0 i).claim ≡ Some (record { channel = c; serial = serial }))
      × IsTrue (holds st me c)
      × IsTrue (is_clear_for k me c.0 s.0)
  Allowed (TakeTurn s found) = ByState (TakeTurn s found)
  Allowed (BeginLook s found) = ByState (BeginLook s found)
  Allowed (GiveTurn s) = ByState (GiveTurn s)
  Allowed (Remove s i found) =
      IsKey l s i × IsTrue (may_remove_cancelled st me s i || may_clear_out_by st k me s i)
  Allowed (LookMark s i found) = ByState (LookMark s i found)
  Allowed (Mark s i from told found) = ByState (Mark s i from told found)
  Allowed (UnselectBit s i found) = ByState (UnselectBit s i found)
  Allowed (EndWake s found) = ByState (EndWake s found)
  Allowed (LookChannels found) = ByState (LookChannels found)
  Allowed (RaiseChannels n found) = (n ≤ l.channels) × (n ≤ channels)
  Allowed (TryHoldBit c found) = ByState (TryHoldBit c found)
  Allowed (Release c) = ByState (Release c)
  Allowed (SetMode c blocking found) =
      IsChannel l c × IsTrue (holds st me c)
      × (IsTrue blocking → (s : ℕ) → s < l.selectors → IsTrue (is_clear_for k me c.0 s))
  Allowed (CloseBit c from found) = ByState (CloseBit c from found)
  Allowed (ShutBit s found) = ByState (ShutBit s found)
  Allowed (Enter s found) = ByState (Enter s found)
  Allowed (Pin s i found) = ByState (Pin s i found)
  Allowed (Unpin s i) = ByState (Unpin s i)
  Allowed (ClearMark s i found) = IsKey l s i × IsTrue (k.indexes me.0 s.0 i).unpublished
  Allowed (ClaimAgain s i c from found) =
      IsKey l s i × IsChannel l c × IsTrue (holds st me c) × IsTrue (has_taken st me s i)
      × (found_by (k.indexes me.0 s.0 i) ≡ Some from)
      × (from.serial < last_serial)
  Allowed (LookFree s j found) = ByState (LookFree s j found)
  Allowed (PutFree s i) = ByState (PutFree s i)
  Allowed (TakeFree s i found) = ByState (TakeFree s i found)
  Allowed (Reopen c from found) =
      IsChannel l c × IsTrue (holds st me c) × IsTrue from.made × IsTrue from.closed × (from.serial < last_serial)
      × ((s : ℕ) → s < l.selectors → IsTrue (is_clear_for k me c.0 s))
  Allowed (Touch s i found) = ByState (Touch s i found)
  Allowed (LookTouched s j found) = ByState (LookTouched s j found)
  Allowed (TakeTouched s j found) = ByState (TakeTouched s j found)
  Allowed (LookIndex s i found) = ByState (LookIndex s i found)
  Allowed (TakeList s found) = ByState (TakeList s found)

-- the same of a judge
abbrev pub IsAllowed : Judge → CallerNo → Act → Type 0
IsAllowed j me act = Allowed j.limits (knowledge_of j.memory) j.counts.channels (row j.counts.keys) (state_of j) me act
