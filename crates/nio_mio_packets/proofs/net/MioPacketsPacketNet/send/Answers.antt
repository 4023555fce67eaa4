use Rattle.std.proofs.Common.{◌≡◌, ◌<◌, Some, length, slice_set, List, ap, ◌∙◌, arith}
use Rattle.std.proofs.lemmas.Grind.{common_steps}
use Rattle.std.proofs.lemmas.List.{with_items_is}
use Rattle.std.specs.Vec.{with_items}
use Rattle.nio_kept.specs.Counts.{count_of}
use Rattle.nio_kept.specs.Readiness.{polls_of, ready_of}
use Rattle.nio_datagram.specs.Sockets.{Sockets, after_went}
use Rattle.nio_mio_packets.proofs.Calls.{sends}
use Rattle.nio_mio_packets.specs.Sides.{sockets_at}
use Rattle.nio_mio_packets.proofs.net.MioPacketsPacketNet.send.Goals as goal

pub returns-in-Ok-true : goal.returns-in-Ok-true
returns-in-Ok-true g c =
    let within : c.args.chan.number.0 < length c.args.self.now.sides.items = grind (arith, common_steps) in
    let many : length c.send_at.new.sides ≡ c.args.self.now.sides.len =
    omega (arith, c.send_at.auto.sides, c.deref_mut.ensures.len, c.args.self.now.sides.ok.0) in
    let is : (with_items c.args.self.now.sides c.send_at.new.sides).items ≡ slice_set c.args.self.now.sides.items c.args.chan.number.0
    (after_went (sockets_at c.args.self.now.sides.items c.args.chan.number) (record { addr = c.args.to; bytes = c.args.bytes.now })) =
    with_items_is c.args.self.now.sides c.send_at.new.sides many ∙ (c.send_at.ensures
    ∙ ap (λ (xs : List Sockets). slice_set xs c.args.chan.number.0 (after_went (sockets_at xs c.args.chan.number) (record { addr = c.args.to; bytes = c.args.bytes.now }))) c.deref_mut.ensures.value) in
    sends c.args.self.now.sides.items c.args.chan (count_of c.args.self.now.counts) (ready_of c.args.self.now.readiness)
    c.args.self.now.poll_faults (Some (polls_of c.args.self.now.readiness)) (with_items c.args.self.now.sides c.send_at.new.sides).items within c.requires.may.bound
    c.args.to c.args.bytes.now is
