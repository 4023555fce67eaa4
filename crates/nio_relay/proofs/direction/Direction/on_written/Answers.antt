use Rattle.std.proofs.Common.{arith}
use Rattle.nio_relay.proofs.KeptLemmas.{written_next}
use Rattle.nio_relay.proofs.direction.Direction.on_written.Goals as goal

pub returns : goal.returns
returns c = grind (arith, written_next)
