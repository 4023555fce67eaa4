use Rattle.std.proofs.Common.{◌+◌, subst}
use Rattle.nio_base.specs.declared.numbers.ChanId.{ChanId}
use Rattle.nio_datagram.proofs.PlaceLaws.{free_first}
use Rattle.nio_datagram.specs.Places.{IsFree}
use Rattle.nio_packet_tests.proofs.Stands.{closed_free}
use Rattle.nio_packet_tests.proofs.loopback.binds_again.Goals as goal

pub bind_packets-requires : goal.bind_packets-requires
bind_packets-requires g c = free_first _ _ c.requires

pub bind_packets-requires-2 : goal.bind_packets-requires-2
bind_packets-requires-2 g c =
    subst (λ (k : ChanId). IsFree (g.N.PacketNet.place c.close_packets.new.self)
    (record { number = k.number; serial = k.serial + 1 })) c.first-first.ensures
    (closed_free (g.N.PacketNet.place c.args.net.now) (g.N.PacketNet.place c.bind_packets.new.self)
    (g.N.PacketNet.place c.close_packets.new.self) c.first-first.result c.requires c.bind_packets.ensures.places
    c.close_packets.ensures.places c.close_packets.ensures.place)
