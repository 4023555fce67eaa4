use Rattle.nio_history.specs.PassViews.{HasSelector}
use Rattle.nio_words.specs.Passes.{IsReady}
use Rattle.nio_words.specs.Views.{view}
use Rattle.nio_bench.specs.SetUp.{caller, selector}
use Rattle.nio_bench.proofs.waiting.selections.Given as goal

abbrev pub invariant-loop : goal.invariant-loop
invariant-loop g l = IsReady l.words l.p caller × HasSelector (view l.words l.p) selector
