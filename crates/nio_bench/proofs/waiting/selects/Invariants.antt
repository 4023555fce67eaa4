use Rattle.nio_channel.specs.Idle.{zero}
use Rattle.nio_history.specs.PassViews.{HasSelector}
use Rattle.nio_words.specs.Passes.{IsReady}
use Rattle.nio_words.specs.Views.{view}
use Rattle.nio_bench.specs.SetUp.{selector}
use Rattle.nio_bench.proofs.waiting.selects.Given as goal

abbrev pub invariant-loop-time : goal.invariant-loop-time
invariant-loop-time g l = IsReady l.words l.p zero × HasSelector (view l.words l.p) selector
