use Rattle.nio_plain.specs.ScriptState.{script_opening}
use Rattle.nio_load.proofs.Answered.{answer_replies}
use Rattle.nio_load.proofs.laws.summary_law.Goals as goal

pub returns : goal.returns
returns c = λ rules l calls. answer_replies rules l script_opening 1 calls
