use Rattle.nio_pool.specs.Batches.{Finishes}
use Rattle.nio_pool.proofs.ended.Ended.finish_all.Given as goal

abbrev pub invariant-loop-slate : goal.invariant-loop-slate
invariant-loop-slate l = Finishes l.fn.core l.core
