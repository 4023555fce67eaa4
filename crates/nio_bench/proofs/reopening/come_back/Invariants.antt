use Rattle.nio_history.specs.PassViews.{HasChannel}
use Rattle.nio_words.specs.Views.{view}
use Rattle.nio_bench.specs.SetUp.{caller, selector, IsIdle}
use Rattle.nio_bench.proofs.reopening.come_back.Given as goal

abbrev pub invariant-loop : goal.invariant-loop
invariant-loop g l = IsIdle l.words l.p caller selector × HasChannel (view l.words l.p) l.chan
