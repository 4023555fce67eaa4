use Rattle.std.proofs.Common.{◌≡◌, drop}
use Rattle.nio_datagram.specs.Sockets.{carried_before}
use Rattle.nio_datagram.proofs.memory.side.went_before.Given as goal

abbrev pub invariant-loop-at : goal.invariant-loop-at
invariant-loop-at l = carried_before (drop l.at l.past.items) l.serial ≡ carried_before l.past.items l.serial
