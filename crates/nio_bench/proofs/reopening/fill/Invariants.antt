use Rattle.nio_bench.specs.SetUp.{caller, selector, IsIdle}
use Rattle.nio_bench.proofs.reopening.fill.Given as goal

abbrev pub invariant-loop : goal.invariant-loop
invariant-loop l = IsIdle l.words l.p caller selector
