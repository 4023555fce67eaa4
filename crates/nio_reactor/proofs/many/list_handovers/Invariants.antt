use Rattle.std.proofs.Common.{◌≡◌, ◌++◌}
use Rattle.nio_reactor.specs.Handing.{put_below}
use Rattle.nio_reactor.proofs.many.list_handovers.Given as goal

abbrev pub invariant-loop-worker : goal.invariant-loop-worker
invariant-loop-worker g l = l.handed ≡ l.fn.handed ++ put_below (λ x. x.lane.put) l.workers.items l.worker-index
