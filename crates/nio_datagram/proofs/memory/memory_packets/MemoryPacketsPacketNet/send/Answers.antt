use Rattle.std.proofs.Common.{Err, refl, ap}
use Rattle.nio_datagram.proofs.PacketLaws.{send_fails_by, sends}
use Rattle.nio_datagram.proofs.memory.memory_packets.MemoryPacketsPacketNet.send.Goals as goal

pub returns-in-Ok-clause-call : goal.returns-in-Ok-clause-call
returns-in-Ok-clause-call c =
    rw c.in-Ok.ensures.ok (sends c.args.self.now c.args.chan c.args.to c.args.bytes.now (c.in-Ok.ensures.bound refl))

pub returns-in-Err-clause-call : goal.returns-in-Err-clause-call
returns-in-Err-clause-call c =
    send_fails_by c.args.self.now c.args.chan c.send_packet.new.self c.args.to c.args.bytes.now c.in-Err._failure
    (λ is. c.in-Err.ensures.failed (ap Err is)) (λ is. c.in-Err.ensures.lost (ap Err is))
