use Rattle.std.proofs.Common.{Err, ap, ◌∙◌}
use Rattle.nio_datagram.proofs.PromiseLaws.{relays_after, relayed_of, none_failed_after, leaves_of, serves_err, complete_err}
use Rattle.nio_datagram.proofs.Views.{view_by}
use Rattle.nio_datagram.specs.Nets.{PacketView}
use Rattle.nio_datagram.specs.Passing.{Passing}
use Rattle.nio_datagram.proofs.serving.serve_packets.Goals as goal

pub returns-in-Ok-served-clause-relays : goal.returns-in-Ok-served-clause-relays
returns-in-Ok-served-clause-relays g c =
    relays_after c.args.plan.target _ _ c.close.ensures.quits c.serve-served.ensures.ran.relays

pub returns-in-Ok-served-clause-serves : goal.returns-in-Ok-served-clause-serves
returns-in-Ok-served-clause-serves g c =
    let x : PacketView = view_by g.N.PacketNet.traffic g.N.PacketNet.packet_faults g.N.PacketNet.place g.N.Poller.ready
    g.N.Poller.poll_faults g.N.Poller.polls c.args.net.now in
    let y : PacketView = view_by g.N.PacketNet.traffic g.N.PacketNet.packet_faults g.N.PacketNet.place g.N.Poller.ready
    g.N.Poller.poll_faults g.N.Poller.polls c.serve-served.new.net in
    let z : PacketView = view_by g.N.PacketNet.traffic g.N.PacketNet.packet_faults g.N.PacketNet.place g.N.Poller.ready
    g.N.Poller.poll_faults g.N.Poller.polls c.close.new.net in (
      relayed_of c.args.plan c.serve-served.new.relay y z _ c.in-Ok-served.ensures.done c.close.ensures.quits
          (c.sent.ensures ∙ ap (λ (d : Passing). d.sent) c.close.ensures.forth)
          (c.sent-in-Ok-served.ensures ∙ ap (λ (d : Passing). d.sent) c.close.ensures.back),
      none_failed_after x y z c.in-Ok-served.ensures.still c.close.ensures.quits,
    )

pub returns-in-Ok-served-clause-complete : goal.returns-in-Ok-served-clause-complete
returns-in-Ok-served-clause-complete g c none =
    relayed_of c.args.plan c.serve-served.new.relay _ _ _ c.in-Ok-served.ensures.done c.close.ensures.quits
    (c.sent.ensures ∙ ap (λ (d : Passing). d.sent) c.close.ensures.forth)
    (c.sent-in-Ok-served.ensures ∙ ap (λ (d : Passing). d.sent) c.close.ensures.back)

pub returns-in-Ok-served-clause-leaves : goal.returns-in-Ok-served-clause-leaves
returns-in-Ok-served-clause-leaves g c =
    leaves_of c.args.plan c.serve-served.new.relay _ _ _ c.serve-served.ensures.ran c.close.ensures.quits

pub returns-clause-relays : goal.returns-clause-relays
returns-clause-relays g c =
    relays_after c.args.plan.target _ _ c.close.ensures.quits c.serve-served.ensures.ran.relays

pub returns-clause-serves : goal.returns-clause-serves
returns-clause-serves g c =
    let x : PacketView = view_by g.N.PacketNet.traffic g.N.PacketNet.packet_faults g.N.PacketNet.place g.N.Poller.ready
    g.N.Poller.poll_faults g.N.Poller.polls c.args.net.now in
    let y : PacketView = view_by g.N.PacketNet.traffic g.N.PacketNet.packet_faults g.N.PacketNet.place g.N.Poller.ready
    g.N.Poller.poll_faults g.N.Poller.polls c.serve-served.new.net in
    let z : PacketView = view_by g.N.PacketNet.traffic g.N.PacketNet.packet_faults g.N.PacketNet.place g.N.Poller.ready
    g.N.Poller.poll_faults g.N.Poller.polls c.close.new.net in
    serves_err c.args.plan x y z c.in-Err.error (λ same. c.in-Err.ensures.cause (ap Err same)) c.close.ensures.quits

pub returns-clause-complete : goal.returns-clause-complete
returns-clause-complete g c =
    let x : PacketView = view_by g.N.PacketNet.traffic g.N.PacketNet.packet_faults g.N.PacketNet.place g.N.Poller.ready
    g.N.Poller.poll_faults g.N.Poller.polls c.args.net.now in
    let y : PacketView = view_by g.N.PacketNet.traffic g.N.PacketNet.packet_faults g.N.PacketNet.place g.N.Poller.ready
    g.N.Poller.poll_faults g.N.Poller.polls c.serve-served.new.net in
    let z : PacketView = view_by g.N.PacketNet.traffic g.N.PacketNet.packet_faults g.N.PacketNet.place g.N.Poller.ready
    g.N.Poller.poll_faults g.N.Poller.polls c.close.new.net in
    complete_err c.args.plan x z c.in-Err.error
    (serves_err c.args.plan x y z c.in-Err.error (λ same. c.in-Err.ensures.cause (ap Err same)) c.close.ensures.quits)

pub returns-clause-leaves : goal.returns-clause-leaves
returns-clause-leaves g c =
    leaves_of c.args.plan c.serve-served.new.relay _ _ _ c.serve-served.ensures.ran c.close.ensures.quits
