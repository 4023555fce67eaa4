use Rattle.std.proofs.Common.{Ok, Err, true, refl, ap}
use Rattle.nio_datagram.proofs.PacketLaws.{send_fails_by, sends}
use Rattle.nio_kept.specs.Readiness.{ready_of}
use Rattle.nio_packet_tests.proofs.Over.{sends_none, sends_over}
use Rattle.nio_packet_tests.proofs.reluctant.ReluctantPacketNet.send.Goals as goal

pub returns-then-is_full : goal.returns-then-is_full
returns-then-is_full c =
    sends_none c.args.self.now.net c.args.self.now.net c.args.chan (ready_of c.args.self.now.readiness)
    (ready_of c.take.new.self) c.take.ensures.others c.args.to c.args.bytes.now c.take.ensures.taken

pub returns-in-Ok : goal.returns-in-Ok
returns-in-Ok c =
    sends_over c.args.self.now.net c.send_packet.new.self c.args.chan (ready_of c.args.self.now.readiness)
    (ready_of c.args.self.now.readiness) (λ n differ. refl) c.args.to c.args.bytes.now (Ok true) refl
    (rw c.in-Ok.ensures.ok (sends c.args.self.now.net c.args.chan c.args.to c.args.bytes.now (c.in-Ok.ensures.bound refl)))

pub returns-in-Err : goal.returns-in-Err
returns-in-Err c =
    sends_over c.args.self.now.net c.send_packet.new.self c.args.chan (ready_of c.args.self.now.readiness)
    (ready_of c.args.self.now.readiness) (λ n differ. refl) c.args.to c.args.bytes.now (Err (record {})) refl
    (send_fails_by c.args.self.now.net c.args.chan c.send_packet.new.self c.args.to c.args.bytes.now c.in-Err._failure
    (λ is. c.in-Err.ensures.failed (ap Err is)) (λ is. c.in-Err.ensures.lost (ap Err is)))
