use Rattle.nio_line.proofs.Order.{pops, learns}
use Rattle.nio_line.proofs.line.LineOut.try_receive.Goals as goal

pub try_recv_as-requires-clause-rule : goal.try_recv_as-requires-clause-rule
try_recv_as-requires-clause-rule g c = (pops _ _ c.self.invariant.1, learns _ _ c.self.invariant.1)
