use Rattle.nio_group.proofs.RunLemmas.{steps-lawful}
use Rattle.nio_group.proofs.laws.step_law.Goals as goal

pub returns : goal.returns
returns c = steps-lawful
