use Rattle.nio_steps.proofs.PerformLaws.{perform_ran}
use Rattle.nio_steps.proofs.laws.run_law.Goals as goal

pub returns : goal.returns
returns g c = perform_ran
