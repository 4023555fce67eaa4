use Rattle.nio_deadline.proofs.LimitLemmas.{times-out-exactly}
use Rattle.nio_deadline.proofs.laws.timeout_law.Goals as goal

pub returns : goal.returns
returns c = times-out-exactly
