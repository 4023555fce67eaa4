use Rattle.nio_bench.specs.SetUp.{caller, selector, IsIdle}
use Rattle.nio_bench.proofs.select.touch_all.Given as goal

abbrev pub invariant-loop-index : goal.invariant-loop-index
invariant-loop-index g l = IsIdle l.words l.p caller selector

abbrev pub invariant-loop-index-2 : goal.invariant-loop-index-2
invariant-loop-index-2 g l = IsIdle l.words l.p caller selector
