use Rattle.nio_steps.proofs.WorksLaws.{works_only_there}
use Rattle.nio_steps.proofs.laws.works_law.Goals as goal

pub returns : goal.returns
returns c = works_only_there
