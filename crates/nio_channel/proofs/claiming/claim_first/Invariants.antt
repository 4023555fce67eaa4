use Rattle.nio_channel.specs.Held.{MayEnrol}
use Rattle.nio_channel.proofs.claiming.claim_first.Given as goal
use Rattle.nio_history.specs.PassViews.{HasNoPin}
use Rattle.nio_history.specs.Conditions.{AllClaimed}
use Rattle.nio_steps.specs.Calls.{PartClause}
use Rattle.nio_steps.specs.Plan.{reply, ◌>>=◌}
use Rattle.nio_steps.specs.Sweeps.{seek_to}
use Rattle.nio_steps.specs.ChannelCalls.{claim_new}
use Rattle.nio_words.specs.Passes.{limits_of, state_seen}
use Rattle.nio_words.specs.Views.{view}

abbrev pub invariant-loop-i : goal.invariant-loop-i
invariant-loop-i l =
    MayEnrol l.w l.p l.me l.chan l.sel × HasNoPin (view l.w l.p) l.me × AllClaimed (state_seen l.p) l.sel l.i
    × PartClause l.me (seek_to (limits_of l.w).keys l.mark (claim_new l.sel l.chan.number)) (view l.w l.fn.p)
    (view l.w l.p)
    (seek_to (limits_of l.w).keys l.i (claim_new l.sel l.chan.number) >>= reply)
