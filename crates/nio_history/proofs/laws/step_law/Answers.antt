use Rattle.nio_history.proofs.Finds.{steps_leave}
use Rattle.nio_history.proofs.laws.step_law.Goals as goal

pub returns : goal.returns
returns c = steps_leave
