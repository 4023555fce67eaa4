use Rattle.nio_bench.specs.SetUp.{caller, selector, StaysIdle}
use Rattle.nio_bench.proofs.channels.remove_all.Given as goal

abbrev pub invariant-loop-i : goal.invariant-loop-i
invariant-loop-i l = StaysIdle l.words l.fn.p l.p caller selector
