use Rattle.std.proofs.Common.{List, ◌++◌, length, ap, sym, subst, arith}
use Rattle.nio_future.specs.Ticket.{Ticket}
use Rattle.nio_future.specs.Tickets.{AreTicketsOf}
use Rattle.nio_tickets.specs.Office.{OfficeState}
use Rattle.nio_tickets.specs.Seats.{seated}
use Rattle.nio_tickets.proofs.Keeping.{beside, polled_seated, seated-le}
use Rattle.nio_tickets.proofs.polling.poll_and_start.Goals as goal

pub move_ended_to-requires : goal.move_ended_to-requires
move_ended_to-requires c =
    let rest = c.requires.rest in
    let same = ap (λ (o : OfficeState). length o.seats) c.office.view_is in
    record { room = omega (arith, ap length rest.none_taken, seated-le c.office.inside.seats, rest.room, same) }

pub poll_all-desk-requires : goal.poll_all-desk-requires
poll_all-desk-requires c =
    let rest = c.requires.rest in
    let desk = c.office.inside.desk in
    let seats = c.office.inside.seats in
    let moved = c.move_ended_to.ensures.moved in
    let were = subst (λ (ts : List Ticket). AreTicketsOf desk (ts ++ seated seats)) (sym rest.none_taken)
    c.office.invariant in
    let few = seated-le seats in
    let none = ap length rest.none_taken in
    let same = ap (λ (o : OfficeState). length o.seats) c.office.view_is in
    record {
      tickets = beside desk c.move_ended_to.new.tickets.items c.move_ended_to.new.self (moved.tickets desk were);
      none_still = rest.none_still;
      none_ready = rest.none_ready;
      still_room = omega (arith, moved.count, few, none, same, rest.still_room);
      ready_room = omega (arith, moved.count, few, none, same, rest.ready_room);
    }

pub put_back-requires : goal.put_back-requires
put_back-requires c =
    let rest = c.requires.rest in
    let desk = c.office.inside.desk in
    let seats = c.office.inside.seats in
    let were = subst (λ (ts : List Ticket). AreTicketsOf desk (ts ++ seated seats)) (sym rest.none_taken)
    c.office.invariant in
    record {
      tickets = polled_seated _ c.poll_all-desk.result c.move_ended_to.new.self c.poll_all-desk.ensures
          (c.move_ended_to.ensures.moved.tickets desk were);
    }
