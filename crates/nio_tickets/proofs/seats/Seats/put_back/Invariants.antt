use Rattle.std.proofs.Common.{◌≡◌, ◌++◌, length, reverse, vec_capacity}
use Rattle.nio_future.specs.Tickets.{AreTicketsOf}
use Rattle.nio_tickets.specs.Seats.{seated, seating_all}
use Rattle.nio_tickets.proofs.seats.Seats.put_back.Given as goal

abbrev pub invariant-loop-ticket : goal.invariant-loop-ticket
invariant-loop-ticket l =
    record {
      seats : seating_all l.desk l.self (reverse l.still.items)
          ≡ seating_all l.desk l.initial.self (reverse l.initial.still.items);
      tickets : AreTicketsOf l.desk (l.still.items ++ seated l.self);
      count : length l.self ≡ length l.initial.self;
      capacity : vec_capacity l.still ≡ vec_capacity l.initial.still;
    }

abbrev pub decreases-loop-ticket : goal.decreases-loop-ticket
decreases-loop-ticket l = length l.still.items
