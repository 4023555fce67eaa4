use Rattle.std.proofs.Common.{Ok, Err, refl}
use Rattle.nio_datagram.proofs.PacketLaws.{bind_fails, binds}
use Rattle.nio_kept.specs.Readiness.{ready_of}
use Rattle.nio_packet_tests.proofs.Over.{binds_over}
use Rattle.nio_packet_tests.proofs.reluctant.ReluctantPacketNet.bind_packets.Goals as goal

pub returns-in-Ok : goal.returns-in-Ok
returns-in-Ok c =
    binds_over c.args.self.now.net c.bind_socket.new.self c.args.chan c.args.at (ready_of c.args.self.now.readiness)
    (ready_of c.forget.new.self) (Ok tt) c.forget.ensures.unready c.forget.ensures.others
    (rw c.in-Ok.ensures.ok (binds c.args.self.now.net c.args.chan c.args.at c.requires (c.in-Ok.ensures.free refl)))

pub returns-in-Err : goal.returns-in-Err
returns-in-Err c =
    binds_over c.args.self.now.net c.bind_socket.new.self c.args.chan c.args.at (ready_of c.args.self.now.readiness)
    (ready_of c.args.self.now.readiness) (Err (record {})) refl (λ n differ. refl)
    (rw c.in-Err.ensures.err (bind_fails c.args.self.now.net c.args.chan c.args.at c.requires))
