use Rattle.nio_deadline.proofs.RunLemmas.{steps-lawful}
use Rattle.nio_deadline.proofs.laws.timed_step_law.Goals as goal

pub returns : goal.returns
returns c = steps-lawful
