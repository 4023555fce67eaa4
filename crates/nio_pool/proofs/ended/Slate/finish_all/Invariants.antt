use Rattle.nio_pool.specs.Batches.{Finishes}
use Rattle.nio_pool.proofs.ended.Slate.finish_all.Given as goal

abbrev pub invariant-loop-place : goal.invariant-loop-place
invariant-loop-place l = Finishes l.fn.core l.core
