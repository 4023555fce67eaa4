use Rattle.nio_group.proofs.StageLemmas.{stages-forward}
use Rattle.nio_group.proofs.laws.stage_law.Goals as goal

pub returns : goal.returns
returns c = stages-forward
