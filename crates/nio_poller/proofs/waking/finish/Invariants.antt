use Rattle.std.specs.Prelude.{◌≡◌}
use Rattle.nio_select.specs.InProgress.{HasShut}
use Rattle.nio_steps.proofs.WaitingLaws.{TryingClause}
use Rattle.nio_steps.specs.Runs.{Completes}
use Rattle.nio_steps.specs.SelectCalls.{try_finish_plan, finish_finds_busy}
use Rattle.nio_words.specs.Passes.{IsReady}
use Rattle.nio_words.specs.Views.{view}
use Rattle.nio_poller.proofs.waking.finish.Given as goal

abbrev pub invariant-loop : goal.invariant-loop
invariant-loop g l =
    IsReady l.w l.p l.me × HasShut (view l.w l.p) l.me l.closing × (l.closing ≡ l.fn.closing)
    × TryingClause l.me (λ (_ : Unit {0}). Completes (try_finish_plan l.fn.closing)) (λ _. finish_finds_busy)
    (view l.w l.fn.p) (view l.w l.p)
