use Rattle.std.proofs.Common.{◌≡◌, ◌<◌, Some, length, slice_set, List, ap, ◌∙◌, arith}
use Rattle.std.proofs.lemmas.Grind.{common_steps}
use Rattle.std.proofs.lemmas.List.{with_items_is}
use Rattle.std.specs.Vec.{with_items}
use Rattle.nio_kept.specs.Counts.{count_of}
use Rattle.nio_kept.specs.Readiness.{polls_of, ready_of}
use Rattle.nio_datagram.specs.Sockets.{Sockets, with_socket}
use Rattle.nio_mio_packets.proofs.Calls.{binds}
use Rattle.nio_mio_packets.specs.Sides.{sockets_at}
use Rattle.nio_mio_packets.proofs.net.MioPacketsPacketNet.bind_packets.Goals as goal

pub returns-in-Ok : goal.returns-in-Ok
returns-in-Ok g c =
    let within : c.args.chan.number.0 < length c.args.self.now.sides.items = grind (arith, common_steps) in
    let many : length c.bind_at.new.sides ≡ c.args.self.now.sides.len =
    omega (arith, c.bind_at.auto.sides, c.deref_mut.ensures.len, c.args.self.now.sides.ok.0) in
    let is : (with_items c.args.self.now.sides c.bind_at.new.sides).items ≡ slice_set c.args.self.now.sides.items c.args.chan.number.0
    (with_socket (sockets_at c.args.self.now.sides.items c.args.chan.number) c.args.chan.serial c.args.at) =
    with_items_is c.args.self.now.sides c.bind_at.new.sides many ∙ (c.bind_at.ensures
    ∙ ap (λ (xs : List Sockets). slice_set xs c.args.chan.number.0 (with_socket (sockets_at xs c.args.chan.number) c.args.chan.serial c.args.at)) c.deref_mut.ensures.value) in
    rw c.forget.ensures.polls (binds c.args.self.now.sides.items c.args.chan (count_of c.args.self.now.counts)
    (ready_of c.args.self.now.readiness) c.args.self.now.poll_faults (Some (polls_of c.args.self.now.readiness))
    (with_items c.args.self.now.sides c.bind_at.new.sides).items within c.args.at (ready_of c.forget.new.self)
    c.forget.ensures.unready c.forget.ensures.others c.requires is)
