use Rattle.std.proofs.Common.{refl}
use Rattle.nio_datagram.proofs.PacketLaws.{receives}
use Rattle.nio_datagram.specs.MemoryPackets.{shown}
use Rattle.nio_datagram.specs.Nets.{Receives}
use Rattle.nio_kept.specs.Readiness.{ready_of}
use Rattle.nio_packet_tests.proofs.Over.{receives_over}
use Rattle.nio_packet_tests.proofs.reluctant.ReluctantPacketNet.receive.Goals as goal

pub returns-in-Ok-NotYet : goal.returns-in-Ok-NotYet
returns-in-Ok-NotYet c =
    let made = c.receive_packet.ensures in
    let all : Receives c.args.chan (shown c.args.self.now.net) (shown c.receive_packet.new.self)
    c.receive_packet.new.into c.receive_packet.result =
    rw (made.answer, made.buffer, made.after)
    (receives c.args.self.now.net c.args.chan c.args.into.now (rw made.answer at made.short)) in
    receives_over c.args.self.now.net c.receive_packet.new.self c.args.chan (ready_of c.args.self.now.readiness)
    (ready_of c.take.new.self) c.take.ensures.others c.receive_packet.new.into _ c.take.ensures.taken
    (rw (c.in-Ok-NotYet.is, c.in-Ok-NotYet.field-0-is) at all)

pub returns-in-Ok-Packet : goal.returns-in-Ok-Packet
returns-in-Ok-Packet c =
    let made = c.receive_packet.ensures in
    let all : Receives c.args.chan (shown c.args.self.now.net) (shown c.receive_packet.new.self)
    c.receive_packet.new.into c.receive_packet.result =
    rw (made.answer, made.buffer, made.after)
    (receives c.args.self.now.net c.args.chan c.args.into.now (rw made.answer at made.short)) in
    receives_over c.args.self.now.net c.receive_packet.new.self c.args.chan (ready_of c.args.self.now.readiness)
    (ready_of c.args.self.now.readiness) (λ n differ. refl) c.receive_packet.new.into _ refl
    (rw (c.in-Ok-Packet.is, c.in-Ok-Packet.field-0-is) at all)

pub returns-in-Err : goal.returns-in-Err
returns-in-Err c =
    let made = c.receive_packet.ensures in
    let all : Receives c.args.chan (shown c.args.self.now.net) (shown c.receive_packet.new.self)
    c.receive_packet.new.into c.receive_packet.result =
    rw (made.answer, made.buffer, made.after)
    (receives c.args.self.now.net c.args.chan c.args.into.now (rw made.answer at made.short)) in
    receives_over c.args.self.now.net c.receive_packet.new.self c.args.chan (ready_of c.args.self.now.readiness)
    (ready_of c.args.self.now.readiness) (λ n differ. refl) c.receive_packet.new.into _ refl
    (rw c.in-Err.is at all)
