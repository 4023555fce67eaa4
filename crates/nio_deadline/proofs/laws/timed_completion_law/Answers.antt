use Rattle.nio_deadline.proofs.TimeoutLemmas.{completes-once}
use Rattle.nio_deadline.proofs.laws.timed_completion_law.Goals as goal

pub returns : goal.returns
returns c = completes-once
