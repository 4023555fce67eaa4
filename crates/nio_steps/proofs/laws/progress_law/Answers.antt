use Rattle.nio_steps.proofs.StandLaws.{selections_stand, closings_stand}
use Rattle.nio_steps.proofs.laws.progress_law.Goals as goal

pub returns : goal.returns
returns c = record { selections = selections_stand; closings = closings_stand }
