use Rattle.std.specs.Prelude.{◌≡◌}
use Rattle.nio_steps.proofs.WaitingLaws.{TryingClause}
use Rattle.nio_steps.specs.SelectCalls.{Begins, begin_finds_busy}
use Rattle.nio_words.specs.Passes.{IsReady}
use Rattle.nio_words.specs.Views.{view}
use Rattle.nio_select.specs.InHand.{known_by}
use Rattle.nio_select.specs.InProgress.{MaySelect}
use Rattle.nio_poller.proofs.selecting.begin.Given as goal

abbrev pub invariant-loop : goal.invariant-loop
invariant-loop g l =
    IsReady l.w l.p l.me × MaySelect (view l.w l.p) l.me l.selector × (l.selector ≡ l.fn.selector)
    × TryingClause l.me (λ (_ : Unit {0}). Begins l.fn.selector.number l.mode (known_by l.fn.selector))
    (λ _. begin_finds_busy) (view l.w l.fn.p) (view l.w l.p)
