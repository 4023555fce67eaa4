use Rattle.std.proofs.Common.{false}
use Rattle.nio_steps.specs.Calls.{PartClause}
use Rattle.nio_steps.specs.ChannelCalls.{registered_or}
use Rattle.nio_steps.specs.Plan.{reply, ◌>>=◌}
use Rattle.nio_steps.specs.Sweeps.{sweep_to}
use Rattle.nio_words.specs.Passes.{IsReady, limits_of}
use Rattle.nio_words.specs.Views.{view}
use Rattle.nio_channel.proofs.keys.has_keys.Given as goal

abbrev pub invariant-loop-sel : goal.invariant-loop-sel
invariant-loop-sel l =
    IsReady l.w l.p l.me
    × PartClause l.me (sweep_to (limits_of l.w).selectors 0 (registered_or l.number) false) (view l.w l.fn.p)
    (view l.w l.p)
    (sweep_to (limits_of l.w).selectors l.sel (registered_or l.number) l.registered >>= reply)
