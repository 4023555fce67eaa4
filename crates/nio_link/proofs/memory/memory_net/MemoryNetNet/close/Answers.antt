use Rattle.nio_link.proofs.MemoryLaws.{closes}
use Rattle.nio_link.proofs.memory.memory_net.MemoryNetNet.close.Goals as goal

pub returns-clause-call : goal.returns-clause-call
returns-clause-call c = rw c.close_channel.ensures (closes c.args.self.now c.args.chan)
