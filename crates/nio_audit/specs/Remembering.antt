-- What callers know from their own acts, and what they know more after each.
use Rattle.std.specs.Prelude.{ℕ, suc, max, Bool, true, false, ◌||◌, if◌then◌else◌, Some, None, Option, is_none}
use Rattle.nio_audit.specs.TableWords.{grid, cube, put_at_three}
use Rattle.nio_audit.specs.declared.memory.Claim.{Claim}
use Rattle.nio_audit.specs.declared.memory.ClosingMemory.{ClosingMemory}
use Rattle.nio_audit.specs.declared.memory.HoldMemory.{HoldMemory}
use Rattle.nio_audit.specs.declared.memory.IndexMemory.{IndexMemory}
use Rattle.nio_audit.specs.declared.memory.Memory.{Memory}
use Rattle.nio_audit.specs.declared.memory.EnrolledMemory.{EnrolledMemory}
use Rattle.nio_base.specs.declared.numbers.CallerNo.{CallerNo}
use Rattle.nio_base.specs.declared.numbers.ChanNo.{ChanNo}
use Rattle.nio_base.specs.declared.numbers.KeyId.{KeyId}
use Rattle.nio_base.specs.declared.numbers.SelNo.{SelNo}
use Rattle.nio_history.specs.Sets.{is_in_key_set}
use Rattle.nio_history.specs.State.{put_at, unclaimed}
use Rattle.nio_history.specs.declared.act.Act.{Act}
use Rattle.nio_history.specs.declared.act.Act.TheVariants.{DrawBit, MakeSelector, LookSelectors, Wake, LookGate}
use Rattle.nio_history.specs.declared.act.Act.TheVariants.{SetInterrupt, TakeInterrupt, LookInterrupt, LookKey}
use Rattle.nio_history.specs.declared.act.Act.TheVariants.{CancelKey, LookInterest, SwapInterest, OrInterest}
use Rattle.nio_history.specs.declared.act.Act.TheVariants.{AndInterest, SwapNote, LookNote, MakeChannel, LookChannel}
use Rattle.nio_history.specs.declared.act.Act.TheVariants.{Claim as ClaimAct, RaiseKeys, LookKeys, Publish, LookReg}
use Rattle.nio_history.specs.declared.act.Act.TheVariants.{Enrol, TakeTurn, BeginLook, GiveTurn, Remove, LookMark, Mark}
use Rattle.nio_history.specs.declared.act.Act.TheVariants.{UnselectBit, EndWake, LookChannels, RaiseChannels}
use Rattle.nio_history.specs.declared.act.Act.TheVariants.{TryHoldBit, Release, SetMode, CloseBit, ShutBit, Enter, Pin}
use Rattle.nio_history.specs.declared.act.Act.TheVariants.{Unpin, ClearMark, ClaimAgain, LookFree, PutFree, TakeFree}
use Rattle.nio_history.specs.declared.act.Act.TheVariants.{Reopen, Touch, LookTouched, TakeTouched, LookIndex, TakeList}
use Rattle.nio_history.specs.declared.found.Chan.{Chan}
use Rattle.nio_history.specs.declared.found.Stage.{Stage}

-- by the caller, and then by the channel; the channel and the selector; the selector and the index; the selector
pub record Knowledge : Type 0 where
  pub holds : ℕ → ℕ → HoldMemory
  pub enrolments : ℕ → ℕ → ℕ → EnrolledMemory
  pub indexes : ℕ → ℕ → ℕ → IndexMemory
  pub closings : ℕ → ℕ → ClosingMemory

abbrev pub knowledge_of : Memory → Knowledge
knowledge_of m =
    record {
      holds = grid m.holds;
      enrolments = cube m.enrolments;
      indexes = cube m.indexes;
      closings = grid m.closings;
    }

abbrev pub nothing_known : Knowledge
nothing_known = record {
  holds = λ _ _. record { taken = 0; unblocked = 0 };
  enrolments = λ _ _ _. record { found_at = 0; key = None; enrolled = 0 };
  indexes = λ _ _ _. record {
    looked = 0;
    found = unclaimed;
    outside_before = 0;
    published = 0;
    taken = 0;
    claim = None;
    unpublished = false;
  };
  closings = λ _ _. record { entered = false; below = 0 };
}

-- when the caller last found the key with this serial outside the key set
abbrev pub outside_at : IndexMemory → ℕ → ℕ
outside_at m serial = if is_in_key_set m.found serial then m.outside_before else m.looked

-- ---- what an act at this moment tells of one channel

-- it tried to take the hold
abbrev pub hold_tried : ℕ → Option CallerNo → HoldMemory → HoldMemory
hold_tried now found m = record m { taken = if is_none found then now else m.taken }

abbrev pub channel_seen : ℕ → Chan → HoldMemory → HoldMemory
channel_seen now found m = record m { unblocked = if found.blocking then m.unblocked else now }

-- ---- of one channel and selector

abbrev pub enrolled_seen : ℕ → Option KeyId → EnrolledMemory → EnrolledMemory
enrolled_seen now found m = record m { found_at = now; key = found }

abbrev pub enrolled_now : ℕ → KeyId → EnrolledMemory → EnrolledMemory
enrolled_now now key m = record { found_at = now; key = Some key; enrolled = now }

-- ---- of one index

abbrev pub looked_again : ℕ → Stage → IndexMemory → IndexMemory
looked_again now found m = record m { looked = now; found = found; outside_before = outside_at m found.serial }

abbrev pub published_now : ℕ → IndexMemory → IndexMemory
published_now now m = record m { published = now; unpublished = false }

-- it tried to take the index out of the free ones
abbrev pub free_tried : ℕ → Bool → IndexMemory → IndexMemory
free_tried now found m = record m { taken = if found then now else m.taken }

-- it tried to make this claim, and found whether the index was claimed or pinned
abbrev pub with_claim : Claim → Bool → IndexMemory → IndexMemory
with_claim claim true m = m
with_claim claim false m = record m { claim = Some claim; unpublished = true }

abbrev pub without_claim : IndexMemory → IndexMemory
without_claim m = record m { claim = None }

-- ---- of one selector

-- it looked at the turn, to enter
abbrev pub turn_seen : Option CallerNo → ClosingMemory → ClosingMemory
turn_seen found m = record m { entered = m.entered || is_none found }

-- it looked at the keys' high-water mark
abbrev pub keys_seen : ℕ → ClosingMemory → ClosingMemory
keys_seen found m = record m { below = if m.entered then max m.below found else m.below }

-- ---- what all callers know, after a change of what one of them knows

abbrev pub with_hold : CallerNo → ChanNo → (HoldMemory → HoldMemory) → Knowledge → Knowledge
with_hold me c change k = record k { holds = put_at k.holds me.0 c.0 (change (k.holds me.0 c.0)) }

abbrev pub with_enrolled : CallerNo → ChanNo → SelNo → (EnrolledMemory → EnrolledMemory) → Knowledge → Knowledge
with_enrolled me c s change k =
    record k { enrolments = put_at_three k.enrolments me.0 c.0 s.0 (change (k.enrolments me.0 c.0 s.0)) }

abbrev pub with_index : CallerNo → SelNo → ℕ → (IndexMemory → IndexMemory) → Knowledge → Knowledge
with_index me s i change k =
    record k { indexes = put_at_three k.indexes me.0 s.0 i (change (k.indexes me.0 s.0 i)) }

abbrev pub with_closing : CallerNo → SelNo → (ClosingMemory → ClosingMemory) → Knowledge → Knowledge
with_closing me s change k = record k { closings = put_at k.closings me.0 s.0 (change (k.closings me.0 s.0)) }

-- what callers know after this caller's act
abbrev pub learned : ℕ → CallerNo → Act → Knowledge → Knowledge
learned now me (DrawBit _ _) k = k
learned now me (MakeSelector _ _) k = k
learned now me (LookSelectors _) k = k
learned now me (Wake _ _) k = k
learned now me (LookGate _ _) k = k
learned now me (SetInterrupt _ _) k = k
learned now me (TakeInterrupt _) k = k
learned now me (LookInterrupt _) k = k
learned now me (LookKey s i found) k = with_index me s i (looked_again now found) k
learned now me (CancelKey _ _ _) k = k
learned now me (LookInterest _ _ _) k = k
learned now me (SwapInterest _ _ _ _) k = k
learned now me (OrInterest _ _ _ _) k = k
learned now me (AndInterest _ _ _ _) k = k
learned now me (SwapNote _ _ _ _) k = k
learned now me (LookNote _ _ _) k = k
learned now me (MakeChannel _ _ _) k = k
learned now me (LookChannel c found) k = with_hold me c (channel_seen now found) k
learned now me (ClaimAct s i c found) k = with_index me s i (with_claim (record { channel = c; serial = 0 }) found) k
learned now me (RaiseKeys _ _ _) k = k
learned now me (LookKeys s found) k = with_closing me s (keys_seen found) k
learned now me (Publish s i _) k = with_index me s i (published_now now) k
learned now me (LookReg c s found) k = with_enrolled me c s (enrolled_seen now found) k
learned now me (Enrol c s i serial _) k =
    with_enrolled me c s (enrolled_now now (record { index = i; serial = serial })) k
learned now me (TakeTurn _ _) k = k
learned now me (BeginLook _ _) k = k
learned now me (GiveTurn _) k = k
learned now me (Remove _ _ _) k = k
learned now me (LookMark _ _ _) k = k
learned now me (Mark _ _ _ _ _) k = k
learned now me (UnselectBit _ _ _) k = k
learned now me (EndWake _ _) k = k
learned now me (LookChannels _) k = k
learned now me (RaiseChannels _ _) k = k
learned now me (TryHoldBit c found) k = with_hold me c (hold_tried now found) k
learned now me (Release _) k = k
learned now me (SetMode _ _ _) k = k
learned now me (CloseBit _ _ _) k = k
learned now me (ShutBit _ _) k = k
learned now me (Enter s found) k = with_closing me s (turn_seen found) k
learned now me (Pin s i found) k = with_index me s i (looked_again now found) k
learned now me (Unpin s i) k = with_index me s i without_claim k
learned now me (ClearMark _ _ _) k = k
learned now me (ClaimAgain s i c from found) k =
    with_index me s i (with_claim (record { channel = c; serial = suc from.serial }) found) k
learned now me (LookFree _ _ _) k = k
learned now me (PutFree _ _) k = k
learned now me (TakeFree s i found) k = with_index me s i (free_tried now found) k
learned now me (Reopen _ _ _) k = k
learned now me (Touch _ _ _) k = k
learned now me (LookTouched _ _ _) k = k
learned now me (TakeTouched _ _ _) k = k
learned now me (LookIndex s i found) k = with_index me s i (looked_again now found.stage) k
learned now me (TakeList _ _) k = k
