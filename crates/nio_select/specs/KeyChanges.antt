-- What the acts of a selection that was told did to keys: which they marked, and which they removed.
use Rattle.std.specs.Prelude.{◌≡◌, ℕ, true, false, Option, Some, None, Ok, Err, List, [], ◌∷◌, ◌++◌, fold}
use Rattle.nio_base.specs.declared.numbers.CallerNo.{CallerNo}
use Rattle.nio_history.specs.Acts.{selected_with}
use Rattle.nio_history.specs.Lists.{ListEntry}
use Rattle.nio_history.specs.PassViews.{PassView, done_between}
use Rattle.nio_history.specs.declared.act.Act.{Act}
use Rattle.nio_history.specs.declared.act.Act.TheVariants as act
use Rattle.nio_history.specs.declared.found.Stage.{Stage}
use Rattle.nio_steps.specs.Lists.{listed_at}
use Rattle.nio_steps.specs.declared.looked.LookedKey.{LookedKey}
use Rattle.nio_select.specs.declared.changes.KeyChange.{KeyChange}

-- A mark of the key of this index, where it succeeded: the ready set since. The key has the names by which the selection
-- asks for it.
abbrev pub marked_of : ℕ → Option ListEntry → (marked : Option ℕ) → List KeyChange
marked_of i asked None = []
marked_of i None (Some ready) = []
marked_of i (Some asked) (Some ready) =
    record { index = i; serial = asked.serial; channel = asked.channel; ready = ready; removed = false } ∷ []

-- the removal of the key of this index that was found so
abbrev pub removed_key : ℕ → Stage → KeyChange
removed_key i found = record { index = i; serial = found.serial; channel = found.chan; ready = 0; removed = true }

-- what this act did to a key of a selector, where a selection asks for these keys there
abbrev pub change_by : List LookedKey → Act → List KeyChange
change_by asked (act.Mark s i from told (Ok _)) = marked_of i (listed_at asked i) (Some (selected_with from told).ready)
change_by asked (act.Mark s i from told (Err found)) = []
change_by asked (act.Remove s i found) = removed_key i found ∷ []
change_by asked (act.DrawBit n found) = []
change_by asked (act.MakeSelector s found) = []
change_by asked (act.LookSelectors found) = []
change_by asked (act.Wake s found) = []
change_by asked (act.LookGate s found) = []
change_by asked (act.SetInterrupt n found) = []
change_by asked (act.TakeInterrupt found) = []
change_by asked (act.LookInterrupt found) = []
change_by asked (act.LookKey s i found) = []
change_by asked (act.CancelKey s i found) = []
change_by asked (act.LookInterest s i found) = []
change_by asked (act.SwapInterest s i ops found) = []
change_by asked (act.OrInterest s i ops found) = []
change_by asked (act.AndInterest s i ops found) = []
change_by asked (act.SwapNote s i att found) = []
change_by asked (act.LookNote s i found) = []
change_by asked (act.MakeChannel c kind found) = []
change_by asked (act.LookChannel c found) = []
change_by asked (act.Claim s i c found) = []
change_by asked (act.RaiseKeys s n found) = []
change_by asked (act.LookKeys s found) = []
change_by asked (act.Publish s i found) = []
change_by asked (act.LookReg c s found) = []
change_by asked (act.Enrol c s i serial found) = []
change_by asked (act.TakeTurn s found) = []
change_by asked (act.BeginLook s found) = []
change_by asked (act.GiveTurn s) = []
change_by asked (act.LookMark s i found) = []
change_by asked (act.UnselectBit s i found) = []
change_by asked (act.EndWake s found) = []
change_by asked (act.LookChannels found) = []
change_by asked (act.RaiseChannels n found) = []
change_by asked (act.TryHoldBit c found) = []
change_by asked (act.Release c) = []
change_by asked (act.SetMode c blocking found) = []
change_by asked (act.CloseBit c from found) = []
change_by asked (act.ShutBit s found) = []
change_by asked (act.Enter s found) = []
change_by asked (act.Pin s i found) = []
change_by asked (act.Unpin s i) = []
change_by asked (act.ClearMark s i found) = []
change_by asked (act.ClaimAgain s i c from found) = []
change_by asked (act.LookFree s j found) = []
change_by asked (act.PutFree s i) = []
change_by asked (act.TakeFree s i found) = []
change_by asked (act.Reopen c from found) = []
change_by asked (act.Touch s i found) = []
change_by asked (act.LookTouched s j found) = []
change_by asked (act.TakeTouched s j found) = []
change_by asked (act.LookIndex s i found) = []
change_by asked (act.TakeList s found) = []

-- what these acts did, in their order
abbrev pub changes_by : List LookedKey → List Act → List KeyChange
changes_by asked [] = []
changes_by asked (first ∷ later) = change_by asked first ++ changes_by asked later

-- A lister took note of what the caller did between two moments of its pass, in the order of its acts. `noted` says what
-- the lister is once it took note of a change.
pub record TakesNote {L : Type 0} (noted : L → KeyChange → L) (asked : List LookedKey) (me : CallerNo)
    (old new : PassView) (before after : L) : Type 0 where
  pub notes : after ≡ fold noted before (changes_by asked (done_between me old new))
