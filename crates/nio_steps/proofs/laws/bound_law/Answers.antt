use Rattle.nio_steps.proofs.BoundLaws.{selection_is_bounded}
use Rattle.nio_steps.proofs.laws.bound_law.Goals as goal

pub returns : goal.returns
returns c = selection_is_bounded
