use Rattle.std.proofs.Common.{refl}
use Rattle.nio_datagram.proofs.PacketLaws.{bind_fails, binds}
use Rattle.nio_datagram.proofs.memory.memory_packets.MemoryPacketsPacketNet.bind_packets.Goals as goal

pub returns-in-Ok-clause-call : goal.returns-in-Ok-clause-call
returns-in-Ok-clause-call c =
    rw c.in-Ok.ensures.ok (binds c.args.self.now c.args.chan c.args.at c.requires (c.in-Ok.ensures.free refl))

pub returns-in-Err-clause-call : goal.returns-in-Err-clause-call
returns-in-Err-clause-call c = rw c.in-Err.ensures.err (bind_fails c.args.self.now c.args.chan c.args.at c.requires)
