use Rattle.nio_datagram.proofs.PacketLaws.{closes}
use Rattle.nio_datagram.proofs.memory.memory_packets.MemoryPacketsPacketNet.close_packets.Goals as goal

pub returns-clause-call : goal.returns-clause-call
returns-clause-call c = rw c.close_socket.ensures (closes c.args.self.now c.args.chan)
