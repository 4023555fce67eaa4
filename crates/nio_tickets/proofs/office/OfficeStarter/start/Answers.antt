use Rattle.std.proofs.Common.{List, Option, sym, subst}
use Rattle.nio_future.specs.Desk.{place_of}
use Rattle.nio_future.specs.Ticket.{Ticket}
use Rattle.nio_tickets.specs.Seats.{seated, AreSeated}
use Rattle.nio_tickets.proofs.Keeping.{put}
use Rattle.nio_tickets.proofs.office.OfficeStarter.start.Goals as goal

pub invariant_of-self-2 : goal.invariant_of-self-2
invariant_of-self-2 c =
    let seats = c.self.inside.seats in
    let at = place_of c.args.chan c.args.kind in
    subst (λ (new : List (Option Ticket)). AreSeated c.start.new.self new) (sym c.put.ensures)
    (put c.start.new.self seats at c.in-Ok.ticket (c.in-Ok.ensures.tickets (seated seats) c.self.invariant))
