use Rattle.nio_link.proofs.Limits.{front_given}
use Rattle.nio_link.proofs.memory.laws.pieces_law.Goals as goal

pub returns : goal.returns
returns c = front_given
