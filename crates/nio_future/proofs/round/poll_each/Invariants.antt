use Rattle.std.proofs.Common.{◌≡◌, length, reverse, vec_capacity}
use Rattle.futures.specs.Task.{Keeps}
use Rattle.nio_future.specs.Round.{after_each, polling_of}
use Rattle.nio_future.proofs.RoundLemmas.{IsPolling}
use Rattle.nio_future.proofs.round.poll_each.Given as goal

abbrev pub invariant-loop-ticket : goal.invariant-loop-ticket
invariant-loop-ticket l =
    record {
      polling : IsPolling l.initial.hand.desk l.hand.desk l.initial.hand.tickets.items l.hand.tickets.items
          l.hand.still.items l.hand.ready.items;
      in_order : after_each (polling_of l.hand) (reverse l.hand.tickets.items)
          ≡ after_each (polling_of l.initial.hand) (reverse l.initial.hand.tickets.items);
      kept : Keeps l.initial.cx l.cx;
      tickets_room : vec_capacity l.hand.tickets ≡ vec_capacity l.initial.hand.tickets;
      still_room : vec_capacity l.hand.still ≡ vec_capacity l.initial.hand.still;
      ready_room : vec_capacity l.hand.ready ≡ vec_capacity l.initial.hand.ready;
    }

abbrev pub decreases-loop-ticket : goal.decreases-loop-ticket
decreases-loop-ticket l = length l.hand.tickets.items
