use Rattle.nio_reactor.specs.Accepting.{EndedBelow}
use Rattle.nio_reactor.proofs.accepting.end_all.Given as goal

abbrev pub invariant-loop-worker : goal.invariant-loop-worker
invariant-loop-worker g l = EndedBelow l.worker l.fn.lines l.lines
