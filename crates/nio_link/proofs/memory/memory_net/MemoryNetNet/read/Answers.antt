use Rattle.nio_link.proofs.MemoryLaws.{reads}
use Rattle.nio_link.proofs.Last.{linked_standing}
use Rattle.nio_link.specs.Places.{places_after}
use Rattle.nio_link.proofs.memory.memory_net.MemoryNetNet.read.Goals as goal

pub returns-clause-call : goal.returns-clause-call
returns-clause-call c =
    rw (c.read_link.ensures.answer, c.read_link.ensures.buffer, c.read_link.ensures.after)
    (reads c.args.self.now c.args.chan c.args.into.now c.requires.some)

pub returns-clause-there : goal.returns-clause-there
returns-clause-there c =
    c.read_link.ensures.there
    (linked_standing (places_after c.args.self.now.changes c.args.chan).standing c.requires.may.linked)
