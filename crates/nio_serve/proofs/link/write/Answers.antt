use Rattle.nio_serve.proofs.Bits.{write_keeps_read}
use Rattle.nio_serve.proofs.link.write.Goals as goal

pub returns-in-Some-clause-read : goal.returns-in-Some-clause-read
returns-in-Some-clause-read g c = write_keeps_read c.in-Some.answer _ _ c.in-Some.ensures.ready
