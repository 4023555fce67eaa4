-- Taking what is in progress out of a desk.
use Rattle.std.specs.Prelude.{◌≡◌, Option, Some, None, List, slice_set, false}
use Rattle.nio_base.specs.declared.numbers.CallerNo.{CallerNo}
use Rattle.nio_base.specs.declared.numbers.SelNo.{SelNo}
use Rattle.nio_plain.specs.Seq.Selections.{is_caller}
use Rattle.nio_select.specs.InHand.{InHand}
use Rattle.nio_serial.specs.Lines.{if_own}
use Rattle.nio_sole.specs.Stands.{slot, selections_of, closings_of}
use Rattle.nio_sole.specs.declared.desk.Begun.{Begun}
use Rattle.nio_sole.specs.declared.desk.Shut.{Shut}

-- the caller's own selection on the selector was taken out, where it has one
pub record SelectionTaken (old new : List (Option Begun)) (me : CallerNo) (s : SelNo) (x : InHand) : Type 0 where
  pub taken : new ≡ slice_set old s.0 None
  pub was : slot old s.0 ≡ Some (record { caller = me; selection = x })

abbrev pub TakesSelection : List (Option Begun) → List (Option Begun) → CallerNo → SelNo → Option InHand → Type 0
TakesSelection old new me s None = (new ≡ old) × (if_own me (selections_of old s.0) ≡ None)
TakesSelection old new me s (Some x) = SelectionTaken old new me s x

-- the caller's own closing of the selector was taken out, where it has one
pub record ClosingTaken (old new : List (Option Shut)) (me : CallerNo) (s : SelNo) (closing : SelNo) : Type 0 where
  pub taken : new ≡ slice_set old s.0 None
  pub was : slot old s.0 ≡ Some (record { caller = me; closing = closing })

abbrev pub TakesClosing : List (Option Shut) → List (Option Shut) → CallerNo → SelNo → Option SelNo → Type 0
TakesClosing old new me s None = (new ≡ old) × (is_caller me (closings_of old s.0) ≡ false)
TakesClosing old new me s (Some closing) = ClosingTaken old new me s closing
