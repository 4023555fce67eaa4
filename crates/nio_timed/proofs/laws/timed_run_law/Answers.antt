use Rattle.nio_timed.proofs.Steps.{are_runs}
use Rattle.nio_timed.proofs.laws.timed_run_law.Goals as goal

pub returns : goal.returns
returns c = are_runs
