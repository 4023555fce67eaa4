use Rattle.nio_group.proofs.RestLemmas.{at-rest}
use Rattle.nio_group.proofs.laws.rest_law.Goals as goal

pub returns : goal.returns
returns c = at-rest
