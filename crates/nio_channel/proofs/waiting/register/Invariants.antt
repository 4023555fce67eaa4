use Rattle.nio_history.specs.PassViews.{HasChannel, HasNoPin, HasSelector}
use Rattle.nio_steps.proofs.WaitingLaws.{TryingClause}
use Rattle.nio_steps.specs.ChannelCalls.{try_register_plan, finds_held}
use Rattle.nio_steps.specs.Runs.{Completes}
use Rattle.nio_words.specs.Passes.{IsReady, limits_of}
use Rattle.nio_words.specs.Views.{view}
use Rattle.nio_channel.proofs.waiting.register.Given as goal

abbrev pub invariant-loop : goal.invariant-loop
invariant-loop g l =
    IsReady l.w l.p l.me × HasSelector (view l.w l.p) l.sel × HasChannel (view l.w l.p) l.chan
    × HasNoPin (view l.w l.p) l.me
    × TryingClause l.me (λ (_ : Unit {0}). Completes (try_register_plan (limits_of l.w) l.sel l.chan l.ops l.att))
    (λ _. finds_held) (view l.w l.fn.p) (view l.w l.p)
