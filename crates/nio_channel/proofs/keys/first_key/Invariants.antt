use Rattle.std.proofs.Common.{IsFalse}
use Rattle.nio_history.specs.OwnEvents.{has, reopens}
use Rattle.nio_history.specs.PassViews.{done_between}
use Rattle.nio_steps.specs.Calls.{PartClause}
use Rattle.nio_steps.specs.Plan.{reply, ◌>>=◌}
use Rattle.nio_steps.specs.Sweeps.{seek_to}
use Rattle.nio_words.specs.Passes.{limits_of}
use Rattle.nio_words.specs.Views.{view}
use Rattle.nio_channel.specs.Held.{HoldsChannel, IsClearBelow}
use Rattle.nio_steps.specs.ChannelCalls.{first_key, enrolled_key}
use Rattle.nio_steps.specs.Names.{selector}
use Rattle.nio_channel.proofs.keys.first_key.Given as goal

abbrev pub invariant-loop-sel : goal.invariant-loop-sel
invariant-loop-sel l =
    HoldsChannel l.w l.p l.me l.number × IsClearBelow l.p l.me l.number l.sel
    × PartClause l.me (first_key (limits_of l.w) l.number) (view l.w l.fn.p) (view l.w l.p)
    (seek_to (limits_of l.w).selectors l.sel (λ s. enrolled_key l.number (selector s)) >>= reply)
    × IsFalse (has (reopens l.number.0) (done_between l.me (view l.w l.fn.p) (view l.w l.p)))
