use Rattle.nio_channel.specs.Held.{MayEnrol}
use Rattle.nio_channel.proofs.claiming.search_bits.Given as goal
use Rattle.nio_history.specs.PassViews.{HasNoPin}
use Rattle.nio_steps.specs.Calls.{PartClause}
use Rattle.nio_steps.specs.Plan.{reply, ◌>>=◌}
use Rattle.nio_steps.specs.Sweeps.{seek_to}
use Rattle.nio_steps.specs.ChannelCalls.{claim_at_bit}
use Rattle.nio_words.specs.Views.{view}

abbrev pub invariant-loop-b : goal.invariant-loop-b
invariant-loop-b l =
    MayEnrol l.w l.p l.me l.chan l.sel × HasNoPin (view l.w l.p) l.me
    × PartClause l.me (seek_to 64 0 (claim_at_bit l.sel l.chan.number l.mark l.j l.word)) (view l.w l.fn.p)
    (view l.w l.p)
    (seek_to 64 l.b (claim_at_bit l.sel l.chan.number l.mark l.j l.word) >>= reply)
