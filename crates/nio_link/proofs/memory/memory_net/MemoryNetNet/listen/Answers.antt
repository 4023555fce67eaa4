use Rattle.nio_link.proofs.MemoryLaws.{listens}
use Rattle.nio_link.proofs.memory.memory_net.MemoryNetNet.listen.Goals as goal

pub returns-clause-call : goal.returns-clause-call
returns-clause-call c =
    rw (c.listen_on.ensures.answer, c.listen_on.ensures.after) (listens c.args.self.now c.args.chan c.args.at c.requires)

pub returns-clause-serves : goal.returns-clause-serves
returns-clause-serves c = c.listen_on.ensures.serves c.requires
