use Rattle.std.proofs.Common.{◌≡◌, length}
use Rattle.nio_future.specs.Kept.{IsSettling}
use Rattle.nio_future.specs.Steps.{settled}
use Rattle.nio_future.proofs.SettleLemmas.{desk_of}
use Rattle.nio_future.proofs.desk.settle.Given as goal

abbrev pub invariant-loop-done : goal.invariant-loop-done
invariant-loop-done l =
    record {
      settling : IsSettling (desk_of l.core l.out l.source.id l.waiting);
      leads : settled (desk_of l.core l.out l.source.id l.waiting)
          ≡ settled (desk_of l.initial.core l.initial.out l.source.id l.initial.waiting);
    }

abbrev pub decreases-loop-done : goal.decreases-loop-done
decreases-loop-done l = length l.core.flight.queue
