-- A call that waits is a list of whole calls that don't.
use Rattle.std.specs.Prelude.{◌≡◌, Bool, true, false, IsTrue, IsFalse, List}
use Rattle.std.specs.List.{All}
use Rattle.nio_base.specs.declared.limits.Limits.{Limits}
use Rattle.nio_history.specs.declared.act.Act.{Act}
use Rattle.nio_orderly.specs.Made.{Made, draw, table_call, waiting_call, IsRun, MayCome, after_call, after_calls}
use Rattle.nio_orderly.specs.Made.{AreInOrder}
use Rattle.nio_orderly.specs.Orderly.{AreRuns, AreCallsOf}
use Rattle.nio_steps.specs.Ongoing.{Ongoing, nothing_ongoing}

-- it is a call that waits
abbrev pub waits : Made → Bool
waits (draw n) = false
waits (table_call call answer) = false
waits (waiting_call call answer) = true

-- The acts are those of whole calls that don't wait and that may come one after the other, for a caller that has so
-- much in progress, and leave so much in progress.
pub record AreCallsFrom (l : Limits) (now : Ongoing) (acts : List Act) (after : Ongoing) : Type 0 where
  pub calls : List Made
  pub unwaiting : All (λ call. IsFalse (waits call)) calls
  pub runs : AreRuns l calls acts
  pub in_order : AreInOrder now calls
  pub leaves : after_calls now calls ≡ after

-- What a caller does in a call that waits and that may come is what it does in such calls, whatever it has in progress
-- before.
abbrev pub WaitingCallsAreCalls : Type 0
WaitingCallsAreCalls =
    (l : Limits) (call : Made) (acts : List Act) (now : Ongoing) → IsTrue (waits call) → IsRun l call acts
    → MayCome now call → AreCallsFrom l now acts (after_call now call)

-- So whoever makes whole calls makes whole calls that don't wait.
abbrev pub CallsWithoutWaiting : Type 0
CallsWithoutWaiting =
    (l : Limits) (acts : List Act) (calls : List Made) → AreCallsOf l acts calls
    → AreCallsFrom l nothing_ongoing acts (after_calls nothing_ongoing calls)
