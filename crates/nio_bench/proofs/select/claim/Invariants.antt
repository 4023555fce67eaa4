use Rattle.nio_bench.specs.SetUp.{caller, selector, IsIdle}
use Rattle.nio_bench.proofs.select.claim.Given as goal

abbrev pub invariant-loop : goal.invariant-loop
invariant-loop g l = IsIdle l.words l.p caller selector

abbrev pub invariant-loop-index : goal.invariant-loop-index
invariant-loop-index g l = IsIdle l.words l.p caller selector
