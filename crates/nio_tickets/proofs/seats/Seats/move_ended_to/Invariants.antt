use Rattle.std.proofs.Common.{◌≡◌, drop, vec_capacity}
use Rattle.nio_tickets.specs.Seats.{TakesOut, taking_all}
use Rattle.nio_tickets.proofs.seats.Seats.move_ended_to.Given as goal

abbrev pub invariant-loop-one : goal.invariant-loop-one
invariant-loop-one l =
    record {
      taken : taking_all l.fn.desk (record { seats = l.self; tickets = l.tickets.items }) (drop l.one-index l.done)
          ≡ taking_all l.fn.desk (record { seats = l.fn.self; tickets = l.fn.tickets.items }) l.fn.done;
      moved : TakesOut (record { seats = l.fn.self; tickets = l.fn.tickets.items })
          (record { seats = l.self; tickets = l.tickets.items });
      capacity : vec_capacity l.tickets ≡ vec_capacity l.fn.tickets;
    }
