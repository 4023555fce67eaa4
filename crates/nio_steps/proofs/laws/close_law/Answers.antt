use Rattle.nio_steps.proofs.ClosedLaws.{closed_removes_keys}
use Rattle.nio_steps.proofs.laws.close_law.Goals as goal

pub returns : goal.returns
returns c = closed_removes_keys
