use Rattle.nio_bench.specs.SetUp.{caller, selector, IsSetUp}
use Rattle.nio_bench.proofs.channels.register_all.Given as goal

abbrev pub invariant-loop-chan : goal.invariant-loop-chan
invariant-loop-chan l = IsSetUp l.words l.p caller selector l.channels
