use Rattle.std.proofs.Common.{◌≡◌, ◌<◌}
use Rattle.nio_datagram.proofs.Views.{view_by}
use Rattle.nio_datagram.specs.Nets.{NoneFailed}
use Rattle.nio_datagram.specs.Passing.{IsKnown, IsPassing, Advances, PassState}
use Rattle.nio_datagram.proofs.direction.pass.Given as goal

abbrev pub invariant-loop : goal.invariant-loop
invariant-loop g l =
    let first : PassState = record {
      source = l.fn.source;
      sink = l.fn.sink;
      direction = l.fn.direction;
      net = view_by g.N.PacketNet.traffic g.N.PacketNet.packet_faults g.N.PacketNet.place g.N.Poller.ready
          g.N.Poller.poll_faults g.N.Poller.polls l.fn.net;
    } in
    let here : PassState = record {
      source = l.source;
      sink = l.sink;
      direction = l.direction;
      net = view_by g.N.PacketNet.traffic g.N.PacketNet.packet_faults g.N.PacketNet.place g.N.Poller.ready
          g.N.Poller.poll_faults g.N.Poller.polls l.net;
    } in
    record {
      known : IsKnown l.ready here;
      passing : IsPassing here;
      advances : Advances l.fn.source.channel l.fn.sink.channel first here;
      source : l.source.channel ≡ l.fn.source.channel;
      sink : l.sink.channel ≡ l.fn.sink.channel;
      still : NoneFailed first.net.faults here.net.faults first.net.poll_faults here.net.poll_faults;
      limit : l.fn.direction.sent < l.limit → l.direction.sent < l.limit;
    }
