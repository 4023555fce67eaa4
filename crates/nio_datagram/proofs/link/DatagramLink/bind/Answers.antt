use Rattle.std.proofs.Common.{◌≡◌, refl}
use Rattle.nio_datagram.proofs.PlaceLaws.{bind_stands}
use Rattle.nio_datagram.specs.Datagrams.{state_after_bind}
use Rattle.nio_datagram.proofs.link.DatagramLink.bind.Goals as goal

pub returns-in-Unbound-clause-bind : goal.returns-in-Unbound-clause-bind
returns-in-Unbound-clause-bind g c =
    let link : c.settle.new.self ≡ record c.args.self.now { state = state_after_bind c.settle.result } =
    c.settle.ensures.link in
    rw (link, ← c.self.view_is, c.in-Unbound.is) (record {
      made = c.bind_packets-made.result;
      told = c.settle.ensures.told;
      net = c.bind_packets-made.ensures;
      link = refl;
    })
