use Rattle.nio_reactor.proofs.Adding.{AreFew}
use Rattle.nio_reactor.specs.Working.{AddsSoFar}
use Rattle.nio_reactor.proofs.many.add_up.Given as goal

abbrev pub invariant-loop-worker : goal.invariant-loop-worker
invariant-loop-worker g l = record {
  so_far : AddsSoFar (λ x. x.lane.outcome) l.workers l.worker-index l.faults;
  few : AreFew l.conns l.workers l.worker-index l.faults;
}
