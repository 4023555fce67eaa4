use Rattle.nio_deadline.proofs.TimedTakeLemmas.{takes-once}
use Rattle.nio_deadline.proofs.laws.timed_take_law.Goals as goal

pub returns : goal.returns
returns c = takes-once
