use Rattle.nio_channel.specs.Held.{MayEnrol}
use Rattle.nio_channel.proofs.claiming.search_free.Given as goal
use Rattle.nio_history.specs.PassViews.{HasNoPin}
use Rattle.nio_steps.specs.Calls.{PartClause}
use Rattle.nio_steps.specs.Plan.{reply, ◌>>=◌}
use Rattle.nio_steps.specs.Sweeps.{seek_to}
use Rattle.nio_steps.specs.ChannelCalls.{claim_in_word, search_free, words_below}
use Rattle.nio_words.specs.Views.{view}

abbrev pub invariant-loop-j : goal.invariant-loop-j
invariant-loop-j l =
    MayEnrol l.w l.p l.me l.chan l.sel × HasNoPin (view l.w l.p) l.me
    × PartClause l.me (search_free l.sel l.chan.number l.mark) (view l.w l.fn.p) (view l.w l.p)
    (seek_to (words_below l.mark) l.j (claim_in_word l.sel l.chan.number l.mark) >>= reply)
