use Rattle.nio_load.proofs.Calls.{generated_calls, generated_script}
use Rattle.nio_load.proofs.laws.generated_law.Goals as goal

pub returns : goal.returns
returns c = λ rounds. (generated_calls rounds, generated_script rounds)
