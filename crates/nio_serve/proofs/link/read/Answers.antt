use Rattle.nio_serve.proofs.Bits.{read_keeps_write}
use Rattle.nio_serve.proofs.link.read.Goals as goal

pub returns-in-Some-clause-write : goal.returns-in-Some-clause-write
returns-in-Some-clause-write g c = read_keeps_write c.in-Some.answer _ _ c.in-Some.ensures.ready
