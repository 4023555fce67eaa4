use Rattle.nio_history.specs.PassViews.{HasChannel}
use Rattle.nio_steps.proofs.WaitingLaws.{TryingClause}
use Rattle.nio_steps.specs.ChannelCalls.{try_set_blocking_plan, finds_held}
use Rattle.nio_steps.specs.Runs.{Completes}
use Rattle.nio_words.specs.Passes.{IsReady, limits_of}
use Rattle.nio_words.specs.Views.{view}
use Rattle.nio_channel.proofs.waiting.set_blocking.Given as goal

abbrev pub invariant-loop : goal.invariant-loop
invariant-loop g l =
    IsReady l.w l.p l.me × HasChannel (view l.w l.p) l.chan
    × TryingClause l.me (λ (_ : Unit {0}). Completes (try_set_blocking_plan (limits_of l.w) l.chan l.on))
    (λ _. finds_held) (view l.w l.fn.p) (view l.w l.p)
