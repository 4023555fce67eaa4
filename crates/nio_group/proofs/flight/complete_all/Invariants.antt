use Rattle.std.proofs.Common.{◌≡◌}
use Rattle.nio_group.specs.Flight.{with_channel_closed}
use Rattle.nio_group.proofs.PendingLemmas.{filled_slots}
use Rattle.nio_group.proofs.CloseLemmas.{IsListedOn}
use Rattle.nio_group.proofs.flight.complete_all.Given as goal

abbrev pub invariant-loop-number : goal.invariant-loop-number
invariant-loop-number l =
    (with_channel_closed l.flight l.chan ≡ with_channel_closed l.initial.flight l.chan)
    × IsListedOn l.flight l.chan l.left

abbrev pub decreases-loop-number : goal.decreases-loop-number
decreases-loop-number l = filled_slots l.left
