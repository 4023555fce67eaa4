use Rattle.nio_history.proofs.Stays.{beginnings_are_legal}
use Rattle.nio_history.proofs.laws.beginnings_law.Goals as goal

pub returns : goal.returns
returns c = beginnings_are_legal
