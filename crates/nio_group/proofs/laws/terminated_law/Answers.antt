use Rattle.nio_group.proofs.RestLemmas.{terminated-stays}
use Rattle.nio_group.proofs.laws.terminated_law.Goals as goal

pub returns : goal.returns
returns c = terminated-stays
