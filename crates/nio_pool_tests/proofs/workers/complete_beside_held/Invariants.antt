use Rattle.nio_pool.specs.Queues.{IsPassOf}
use Rattle.nio_pool_tests.proofs.workers.complete_beside_held.Given as goal

abbrev pub invariant-loop-before : goal.invariant-loop-before
invariant-loop-before g l = IsPassOf l.queue l.pass
