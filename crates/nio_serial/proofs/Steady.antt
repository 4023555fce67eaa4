-- The documented calls that begin and end nothing: they leave turns and closings as they are.
use Rattle.std.proofs.Common.{◌≡◌, Bool, true, false, refl}
use Rattle.nio_base.specs.declared.limits.Limits.{Limits}
use Rattle.nio_base.specs.declared.numbers.CallerNo.{CallerNo}
use Rattle.nio_language.specs.declared.call.Call.{Call}
use Rattle.nio_language.specs.declared.call.Call.TheVariants as call
use Rattle.nio_plain.proofs.CallChanges as change
use Rattle.nio_plain.proofs.CallChanges.{Change}
use Rattle.nio_plain.specs.ScriptState.{ScriptState}
use Rattle.nio_plain.specs.Seq.Replies.{Replied}
use Rattle.nio_plain.specs.declared.rules.Rules.TheVariants.{Now}

-- turns and closings are as before
pub record IsSteady (st : ScriptState) (a : Replied) : Type 0 where
  pub turn : a.left.shared.turn ≡ st.shared.turn
  pub begun : a.left.shared.begun ≡ st.shared.begun
  pub closer : a.left.shared.closer ≡ st.shared.closer
  pub entered : a.left.shared.entered ≡ st.shared.entered

-- a call that begins or ends no selection and no closing
abbrev pub is_steady : Call → Bool
is_steady (call.Begin s waiting) = false
is_steady (call.Told s elapsed pairs) = false
is_steady (call.Failed s) = false
is_steady (call.Close s) = false
is_steady (call.CloseEnd s) = false
is_steady _ = true

pub steady : {l : Limits} {st : ScriptState} {me : CallerNo} {c : Call} {done : Replied} → Change Now l st me c done
    → is_steady c ≡ true → IsSteady st done
steady (change.begin s waiting how _) is = absurd cc
steady (change.told s elapsed pairs selection count why _) is = absurd cc
steady (change.failed s selection _) is = absurd cc
steady (change.close s) is = absurd cc
steady (change.close_end s _ _) is = absurd cc
steady _ is = record { turn = refl; begun = refl; closer = refl; entered = refl }
