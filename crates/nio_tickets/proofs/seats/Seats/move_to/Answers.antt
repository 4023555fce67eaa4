use Rattle.std.proofs.Common.{sym, arith}
use Rattle.nio_future.specs.Desk.{place_of}
use Rattle.nio_tickets.proofs.Keeping.{length-taken, moves_some}
use Rattle.nio_tickets.proofs.seats.Seats.move_to.Goals as goal

pub push_reserved-requires : goal.push_reserved-requires
push_reserved-requires c =
    let tickets = c.args.tickets.now in
    let one_less = length-taken c.args.self.now (place_of c.args.chan c.args.kind) c.in-Some.ticket
    (sym c.in-Some.ensures.ticket) in
    omega (arith, c.requires.room, one_less, tickets.ok.0)

pub returns-in-Some-clause-moved : goal.returns-in-Some-clause-moved
returns-in-Some-clause-moved c =
    rw (c.take.ensures.rest, c.push_reserved.ensures.items) (moves_some c.args.self.now c.args.tickets.now.items
    (place_of c.args.chan c.args.kind) c.in-Some.ticket (sym c.in-Some.ensures.ticket))
