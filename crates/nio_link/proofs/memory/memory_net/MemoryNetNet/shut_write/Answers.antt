use Rattle.std.proofs.Common.{ap}
use Rattle.nio_link.proofs.MemoryLaws.{shuts}
use Rattle.nio_link.specs.Places.{is_standing}
use Rattle.nio_link.specs.declared.place.Standing.{Standing}
use Rattle.nio_link.proofs.memory.memory_net.MemoryNetNet.shut_write.Goals as goal

pub returns-clause-call : goal.returns-clause-call
returns-clause-call c =
    rw (c.shut_link.ensures.answer, c.shut_link.ensures.after) (shuts c.args.self.now c.args.chan)

pub returns-clause-there : goal.returns-clause-there
returns-clause-there c = c.shut_link.ensures.there (ap (λ (s : Standing). is_standing s) c.requires)
