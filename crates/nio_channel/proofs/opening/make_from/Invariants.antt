use Rattle.nio_history.specs.Conditions.{AllMade}
use Rattle.nio_steps.specs.Calls.{PartClause}
use Rattle.nio_steps.specs.ChannelCalls.{makes_channel}
use Rattle.nio_steps.specs.Names.{channel}
use Rattle.nio_steps.specs.Plan.{reply, ◌>>=◌}
use Rattle.nio_steps.specs.Sweeps.{seek_to}
use Rattle.nio_words.specs.Passes.{IsReady, limits_of, state_seen}
use Rattle.nio_words.specs.Views.{view}
use Rattle.nio_channel.proofs.opening.make_from.Given as goal

abbrev pub invariant-loop-number : goal.invariant-loop-number
invariant-loop-number l =
    IsReady l.w l.p l.me × AllMade (state_seen l.p) l.number
    × PartClause l.me (seek_to (limits_of l.w).channels l.mark (λ n. makes_channel l.kind (channel n)))
    (view l.w l.fn.p) (view l.w l.p)
    (seek_to (limits_of l.w).channels l.number (λ n. makes_channel l.kind (channel n)) >>= reply)
