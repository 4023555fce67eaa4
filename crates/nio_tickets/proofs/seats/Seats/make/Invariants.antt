use Rattle.std.proofs.Common.{◌≡◌, None, replicate}
use Rattle.nio_tickets.proofs.seats.Seats.make.Given as goal

abbrev pub invariant-loop : goal.invariant-loop
invariant-loop l = l.seats.items ≡ replicate l.counter None
