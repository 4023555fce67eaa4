use Rattle.nio_datagram.proofs.PacketLaws.{receives}
use Rattle.nio_datagram.proofs.memory.memory_packets.MemoryPacketsPacketNet.receive.Goals as goal

pub returns-clause-call : goal.returns-clause-call
returns-clause-call c =
    let made = c.receive_packet.ensures in
    rw (made.answer, made.buffer, made.after)
    (receives c.args.self.now c.args.chan c.args.into.now (rw made.answer at made.short))
