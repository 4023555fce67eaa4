use Rattle.std.proofs.Common.{◌≡◌, ◌≤◌}
use Rattle.nio_datagram.proofs.Views.{view_by}
use Rattle.nio_datagram.specs.Nets.{PacketView, NoneFailed}
use Rattle.nio_datagram.specs.Relaying.{IsRelaying, Moves}
use Rattle.nio_datagram.proofs.serving.Server.run.Given as goal

abbrev pub invariant-loop : goal.invariant-loop
invariant-loop g l =
    let first : PacketView = view_by g.N.PacketNet.traffic g.N.PacketNet.packet_faults g.N.PacketNet.place g.N.Poller.ready
    g.N.Poller.poll_faults g.N.Poller.polls l.fn.net in
    let here : PacketView = view_by g.N.PacketNet.traffic g.N.PacketNet.packet_faults g.N.PacketNet.place g.N.Poller.ready
    g.N.Poller.poll_faults g.N.Poller.polls l.net in
    record {
      relaying : IsRelaying l.relay here;
      target : l.relay.target.peer ≡ l.fn.relay.target.peer;
      moves : Moves first here;
      still : NoneFailed first.faults here.faults first.poll_faults here.poll_faults;
      count : l.relay.forth.sent ≤ l.count;
    }
