use Rattle.nio_select.specs.InProgress.{MaySelect}
use Rattle.nio_words.specs.Views.{view}
use Rattle.nio_bench.specs.SetUp.{caller, selector, IsIdle}
use Rattle.nio_bench.proofs.select.selections_by_list.Given as goal

abbrev pub invariant-loop : goal.invariant-loop
invariant-loop g l = IsIdle l.words l.p caller selector × MaySelect (view l.words l.p) caller l.selector

abbrev pub invariant-loop-index : goal.invariant-loop-index
invariant-loop-index g l = IsIdle l.words l.p caller selector × MaySelect (view l.words l.p) caller l.selector
