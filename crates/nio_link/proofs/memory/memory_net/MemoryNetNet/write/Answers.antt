use Rattle.std.proofs.Common.{ap}
use Rattle.nio_link.proofs.MemoryLaws.{writes}
use Rattle.nio_link.specs.Places.{is_standing}
use Rattle.nio_link.specs.declared.place.Standing.{Standing}
use Rattle.nio_link.proofs.memory.memory_net.MemoryNetNet.write.Goals as goal

pub returns-clause-call : goal.returns-clause-call
returns-clause-call c =
    let put = c.write_link.ensures.put in
    rw (c.write_link.ensures.answer, c.write_link.ensures.after)
    (writes c.args.self.now c.args.chan c.args.from.now (rw c.write_link.ensures.answer at put))

pub returns-clause-there : goal.returns-clause-there
returns-clause-there c =
    c.write_link.ensures.there (ap (λ (s : Standing). is_standing s) c.requires.may.linked)
