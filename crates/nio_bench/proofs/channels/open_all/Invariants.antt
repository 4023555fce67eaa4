use Rattle.nio_bench.specs.SetUp.{caller, selector, IsSetUp}
use Rattle.nio_bench.proofs.channels.open_all.Given as goal

abbrev pub invariant-loop : goal.invariant-loop
invariant-loop g l = IsSetUp l.words l.p caller selector l.channels.items
