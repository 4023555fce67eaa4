use Rattle.nio_select.proofs.Steps.{calls_are_bounded}
use Rattle.nio_select.proofs.Windows.{selections_have_windows}
use Rattle.nio_select.proofs.laws.steps_law.Goals as goal

pub returns-clause-windows : goal.returns-clause-windows
returns-clause-windows c = selections_have_windows

pub returns-clause-bounded : goal.returns-clause-bounded
returns-clause-bounded c = calls_are_bounded c.bound_law.ensures
