use Rattle.nio_deadline.proofs.TimeoutLemmas.{loses-none}
use Rattle.nio_deadline.proofs.laws.timed_rest_law.Goals as goal

pub returns : goal.returns
returns c = loses-none
