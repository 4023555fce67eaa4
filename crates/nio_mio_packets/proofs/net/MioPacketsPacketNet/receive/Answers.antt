use Rattle.std.proofs.Common.{◌≡◌, ◌<◌, Some, length, take, slice_set, List, ap, ◌∙◌, arith, subst}
use Rattle.std.proofs.lemmas.Grind.{common_steps}
use Rattle.std.proofs.lemmas.List.{with_items_is}
use Rattle.std.specs.Vec.{with_items}
use Rattle.nio_kept.specs.Counts.{count_of}
use Rattle.nio_kept.specs.Readiness.{polls_of, ready_of}
use Rattle.nio_datagram.specs.Packets.{IsCame}
use Rattle.nio_datagram.specs.Sockets.{Sockets, after_came}
use Rattle.nio_mio_packets.proofs.Calls.{receives}
use Rattle.nio_mio_packets.specs.Sides.{sockets_at}
use Rattle.nio_mio_packets.proofs.net.MioPacketsPacketNet.receive.Goals as goal

pub returns-in-Ok-Packet : goal.returns-in-Ok-Packet
returns-in-Ok-Packet g c =
    let within : c.args.chan.number.0 < length c.args.self.now.sides.items = grind (arith, common_steps) in
    let many : length c.receive_at.new.sides ≡ c.args.self.now.sides.len =
    omega (arith, c.receive_at.auto.sides, c.deref_mut.ensures.len, c.args.self.now.sides.ok.0) in
    let is : (with_items c.args.self.now.sides c.receive_at.new.sides).items ≡ slice_set c.args.self.now.sides.items c.args.chan.number.0
    (after_came (sockets_at c.args.self.now.sides.items c.args.chan.number) (record { addr = c.in-Ok-Packet.from; bytes = take c.in-Ok-Packet.len c.receive.new.into })) =
    with_items_is c.args.self.now.sides c.receive_at.new.sides many ∙ (c.receive_at.ensures
    ∙ ap (λ (xs : List Sockets). slice_set xs c.args.chan.number.0 (after_came (sockets_at xs c.args.chan.number) (record { addr = c.in-Ok-Packet.from; bytes = take c.in-Ok-Packet.len c.receive.new.into }))) c.deref_mut.ensures.value) in
    receives c.args.self.now.sides.items c.args.chan (count_of c.args.self.now.counts) (ready_of c.args.self.now.readiness)
    c.args.self.now.poll_faults (Some (polls_of c.args.self.now.readiness)) (with_items c.args.self.now.sides c.receive_at.new.sides).items within c.requires.may.bound
    c.receive.new.into c.in-Ok-Packet.len c.in-Ok-Packet.from (subst IsCame c.in-Ok-Packet.field-0-is c.in-Ok-Packet.ensures) is
