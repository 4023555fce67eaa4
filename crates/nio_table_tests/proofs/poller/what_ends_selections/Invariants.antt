use Rattle.nio_channel.specs.Idle.{zero, first_selector}
use Rattle.nio_history.specs.PassViews.{HasSelector}
use Rattle.nio_words.specs.Passes.{IsReady}
use Rattle.nio_words.specs.Views.{view}
use Rattle.nio_table_tests.proofs.poller.what_ends_selections.Given as goal

abbrev pub invariant-loop-call : goal.invariant-loop-call
invariant-loop-call g l = IsReady l.words l.p zero × HasSelector (view l.words l.p) first_selector
