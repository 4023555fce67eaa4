use Rattle.nio_link.proofs.MemoryLaws.{finishes}
use Rattle.nio_link.proofs.memory.memory_net.MemoryNetNet.finish_connect.Goals as goal

pub returns-clause-call : goal.returns-clause-call
returns-clause-call c =
    rw (c.finish_there.ensures.after, c.finish_there.ensures.answer)
    (finishes c.args.self.now c.args.chan c.requires.connecting)
