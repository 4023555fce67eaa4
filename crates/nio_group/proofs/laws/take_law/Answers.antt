use Rattle.nio_group.proofs.TakenLemmas.{takes-once}
use Rattle.nio_group.proofs.laws.take_law.Goals as goal

pub returns : goal.returns
returns c = takes-once
