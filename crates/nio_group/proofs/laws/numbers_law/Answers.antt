use Rattle.nio_group.proofs.NumberLemmas.{numbers-come-back, made-stays}
use Rattle.nio_group.proofs.laws.numbers_law.Goals as goal

pub returns : goal.returns
returns c = record { come_back = numbers-come-back; made = made-stays }
