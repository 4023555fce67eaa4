use Rattle.nio_channel.specs.Idle.{zero, first_selector}
use Rattle.nio_history.specs.PassViews.{HasSelector}
use Rattle.nio_words.specs.Passes.{IsReady}
use Rattle.nio_words.specs.Views.{view}
use Rattle.nio_table_tests.proofs.select.selects_in_rounds.Given as goal

abbrev pub invariant-loop : goal.invariant-loop
invariant-loop l = IsReady l.w l.p zero × HasSelector (view l.w l.p) first_selector
