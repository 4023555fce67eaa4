use Rattle.std.proofs.Common.{◌≡◌, replicate}
use Rattle.nio_datagram.specs.Sockets.{no_sockets}
use Rattle.nio_mio_packets.proofs.side.new_sides.Given as goal

abbrev pub invariant-loop : goal.invariant-loop
invariant-loop l = l.sides.items ≡ replicate l.counter no_sockets
