use Rattle.nio_history.specs.PassViews.{HasNoPin}
use Rattle.nio_steps.specs.Calls.{PartClause}
use Rattle.nio_steps.specs.ChannelCalls.{cancel_enrolled, cancel_keys}
use Rattle.nio_steps.specs.Plan.{reply, ◌>>=◌}
use Rattle.nio_steps.specs.Sweeps.{sweep_to}
use Rattle.std.proofs.Common.{true}
use Rattle.nio_words.specs.Passes.{IsReady, limits_of}
use Rattle.nio_words.specs.Views.{view}
use Rattle.nio_channel.proofs.closing.cancel_all.Given as goal

abbrev pub invariant-loop-number : goal.invariant-loop-number
invariant-loop-number l =
    IsReady l.w l.p l.me × HasNoPin (view l.w l.p) l.me
    × PartClause l.me (cancel_keys (limits_of l.w) l.chan) (view l.w l.fn.p) (view l.w l.p)
    (sweep_to (limits_of l.w).selectors l.number (λ s _. cancel_enrolled l.chan s) tt >>= λ _. reply true)
