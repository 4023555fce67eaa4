use Rattle.nio_link.proofs.MemoryLaws.{connects}
use Rattle.nio_link.proofs.memory.memory_net.MemoryNetNet.connect.Goals as goal

pub returns-clause-call : goal.returns-clause-call
returns-clause-call c =
    let made = c.connect_link.ensures in
    rw (made.answer, made.after) (connects c.args.self.now c.args.chan c.args.to c.requires made.fresh made.spent)

pub returns-clause-serves : goal.returns-clause-serves
returns-clause-serves c = c.connect_link.ensures.serves c.requires
