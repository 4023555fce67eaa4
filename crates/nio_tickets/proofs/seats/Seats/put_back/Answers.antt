use Rattle.std.proofs.Common.{◌≡◌, ap, ◌∙◌, List, ◌++◌, Option, Some, sym, subst, rules}
use Rattle.nio_base.specs.declared.numbers.OpNo.{OpNo}
use Rattle.nio_future.specs.Desk.{held_at, place_of}
use Rattle.nio_future.specs.Ticket.{Ticket}
use Rattle.nio_future.specs.Tickets.{AreTicketsOf}
use Rattle.nio_group.specs.declared.operation.Operation.{Operation}
use Rattle.nio_tickets.specs.Seats.{seated, seating_held}
use Rattle.nio_tickets.proofs.Keeping.{next_seated, puts_back}
use Rattle.nio_tickets.proofs.seats.Seats.put_back.Goals as goal

pub loop-ticket-preserved-in-Some-operation : goal.loop-ticket-preserved-in-Some-operation
loop-ticket-preserved-in-Some-operation c =
    let desk = c.args.desk.now in
    let ticket = c.in-Some.ticket in
    let held = c.in-Some-operation.held in
    let seats = c.loop-ticket.self in
    let left = c.pop.new.self.items in
    let before = c.loop-ticket.invariant in
    let holds : held_at desk ticket.op.0 ≡ Some held =
    ap (λ (op : OpNo). held_at desk op.0) (sym c.op.ensures) ∙ sym c.operation.ensures ∙ c.in-Some-operation.is in
    let now : c.put.new.self ≡ seating_held seats (held_at desk ticket.op.0) ticket =
    c.put.ensures ∙ ap (λ (o : Option Operation). seating_held seats o ticket) (sym holds) in
    record {
      seats = next_seated desk seats c.put.new.self c.loop-ticket.still.items left ticket c.in-Some.ensures.items now
          ∙ before.seats;
      tickets = rw c.put.ensures (puts_back desk left seats (place_of held.chan held.kind) ticket
          (subst (λ (ts : List Ticket). AreTicketsOf desk (ts ++ seated seats)) c.in-Some.ensures.items before.tickets));
      count = search rules;
      capacity = c.in-Some.ensures.capacity ∙ before.capacity;
    }
