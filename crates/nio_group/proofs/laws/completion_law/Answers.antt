use Rattle.nio_group.proofs.RestLemmas.{completes-once}
use Rattle.nio_group.proofs.laws.completion_law.Goals as goal

pub returns : goal.returns
returns c = completes-once
