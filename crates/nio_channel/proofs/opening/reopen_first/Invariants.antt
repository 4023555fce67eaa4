use Rattle.nio_steps.specs.Calls.{PartClause}
use Rattle.nio_steps.specs.ChannelCalls.{reopens_number}
use Rattle.nio_steps.specs.Names.{channel}
use Rattle.nio_steps.specs.Plan.{reply, ◌>>=◌}
use Rattle.nio_steps.specs.Sweeps.{seek_to}
use Rattle.nio_words.specs.Passes.{IsReady, limits_of}
use Rattle.nio_words.specs.Views.{view}
use Rattle.nio_channel.proofs.opening.reopen_first.Given as goal

abbrev pub invariant-loop-number : goal.invariant-loop-number
invariant-loop-number l =
    IsReady l.w l.p l.me
    × PartClause l.me
    (seek_to (limits_of l.w).channels 0 (λ n. reopens_number (limits_of l.w) l.kind (channel n))) (view l.w l.fn.p)
    (view l.w l.p)
    (seek_to (limits_of l.w).channels l.number (λ n. reopens_number (limits_of l.w) l.kind (channel n)) >>= reply)
