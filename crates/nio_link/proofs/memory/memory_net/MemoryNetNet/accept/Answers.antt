use Rattle.nio_link.proofs.MemoryLaws.{accepts}
use Rattle.nio_link.proofs.memory.memory_net.MemoryNetNet.accept.Goals as goal

pub returns-clause-call : goal.returns-clause-call
returns-clause-call c =
    let made = c.accept_link.ensures in
    accepts c.args.self.now c.args.listener c.args.chan c.requires.free c.requires.listens c.accept_link.new.self c.accept_link.result made.fresh made.spent
    made.answer made.free made.ok made.err

pub returns-clause-serves : goal.returns-clause-serves
returns-clause-serves c = c.accept_link.ensures.serves c.requires.free
