use Rattle.nio_history.proofs.Stays.{conditions_stay}
use Rattle.nio_history.proofs.laws.condition_law.Goals as goal

pub returns : goal.returns
returns c = conditions_stay
