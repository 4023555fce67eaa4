-- Calls that wait for a hold.
use Rattle.std.proofs.Common.{Bool, List, []}
use Rattle.nio_base.specs.declared.numbers.CallerNo.{CallerNo}
use Rattle.nio_history.proofs.PassViews.{acts_nothing}
use Rattle.nio_history.specs.Histories.{IsLegal}
use Rattle.nio_history.specs.PassViews.{PassView}
use Rattle.nio_history.specs.declared.act.Act.{Act}
use Rattle.nio_steps.proofs.CallLaws.{call_of_acts}
use Rattle.nio_steps.proofs.WaitingLaws.{TryingClause, tries_none}
use Rattle.nio_steps.specs.Waiting.{Tries}

-- no run was made yet
pub trying_none : {X R : Type 0} (me : CallerNo) (Shape : X → List Act → R → Type 0) (goes_on : X → R → Bool)
    (pass : PassView) → IsLegal pass.limits pass.seen → TryingClause me Shape goes_on pass pass
trying_none me Shape goes_on pass legal =
    call_of_acts (λ acts (_ : Unit {0}). Tries Shape goes_on acts) [] tt (acts_nothing me pass legal)
    (tries_none Shape goes_on)
