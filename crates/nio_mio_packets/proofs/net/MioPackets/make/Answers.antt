use Rattle.nio_mio_packets.proofs.Sides.{fresh_traffic, fresh_place}
use Rattle.nio_mio_packets.proofs.net.MioPackets.make.Goals as goal

pub returns-clause-fresh : goal.returns-clause-fresh
returns-clause-fresh g c = record {
  unused = λ k. fresh_traffic c.args.numbers c.in_ok-sides.sides.items k c.in_ok-sides.ensures;
  unbound = λ k. fresh_place c.args.numbers c.in_ok-sides.sides.items k c.in_ok-sides.ensures;
}
