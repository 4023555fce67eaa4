use Rattle.nio_line.proofs.Order.{pops, learns}
use Rattle.nio_line.proofs.line.LineOut.await_one.Goals as goal

pub recv_as-requires-clause-rule : goal.recv_as-requires-clause-rule
recv_as-requires-clause-rule g c = (pops _ _ c.self.invariant.1, learns _ _ c.self.invariant.1)
