use Rattle.nio_reactor.proofs.Adding.{NoneBelow}
use Rattle.nio_serve.specs.declared.serving.ServeError.TheVariants.{Memory}
use Rattle.nio_reactor.proofs.many.lacks_memory.Given as goal

abbrev pub invariant-loop-worker : goal.invariant-loop-worker
invariant-loop-worker g l = NoneBelow Memory (λ x. x.lane.outcome) l.workers l.worker-index
