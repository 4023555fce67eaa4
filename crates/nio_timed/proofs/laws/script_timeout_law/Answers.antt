use Rattle.nio_timed.proofs.Steps.{times_out}
use Rattle.nio_timed.proofs.laws.script_timeout_law.Goals as goal

pub returns : goal.returns
returns c = times_out
