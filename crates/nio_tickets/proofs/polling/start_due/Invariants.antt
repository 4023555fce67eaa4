use Rattle.std.proofs.Common.{◌≡◌, length, reverse, vec_capacity}
use Rattle.nio_tickets.specs.Handling.{after_results}
use Rattle.nio_tickets.proofs.polling.start_due.Given as goal

abbrev pub invariant-loop-one : goal.invariant-loop-one
invariant-loop-one l =
    record {
      after : after_results (record { office = l.office; held = l.streams.held }) (reverse l.ready.items)
          ≡ after_results (record { office = l.initial.office; held = l.initial.streams.held })
          (reverse l.initial.ready.items);
      count : length l.office.seats ≡ length l.initial.office.seats;
      capacity : vec_capacity l.ready ≡ vec_capacity l.initial.ready;
    }

abbrev pub decreases-loop-one : goal.decreases-loop-one
decreases-loop-one l = length l.ready.items
