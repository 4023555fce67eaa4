use Rattle.nio_channel.specs.Idle.{one}
use Rattle.nio_history.specs.PassViews.{HasSelector}
use Rattle.nio_words.specs.Passes.{IsReady}
use Rattle.nio_words.specs.Views.{view}
use Rattle.nio_bench.specs.SetUp.{selector}
use Rattle.nio_bench.proofs.waiting.wakes.Given as goal

abbrev pub invariant-loop-number : goal.invariant-loop-number
invariant-loop-number g l = IsReady l.words l.q one × HasSelector (view l.words l.q) selector
