use Rattle.std.proofs.Common.{[], ◌*◌}
use Rattle.nio_steps.specs.Calls.{PartClause}
use Rattle.nio_steps.specs.ChannelCalls.{words_below}
use Rattle.nio_steps.specs.Plan.{reply, ◌>>=◌}
use Rattle.nio_steps.specs.Looking.{over_not_free, over_word, look_over}
use Rattle.nio_steps.specs.Sweeps.{sweep_to}
use Rattle.nio_words.specs.Views.{view}
use Rattle.nio_select.specs.Asked.{AreBelow, IsBeside}
use Rattle.nio_select.specs.Begun.{HasBegun}
use Rattle.nio_select.proofs.beginning.look_over_all.Given as goal

abbrev pub invariant-loop-j : goal.invariant-loop-j
invariant-loop-j l = record {
  begun : HasBegun l.w l.p l.me l.sel;
  beside : IsBeside l.fn.asked l.asked;
  below : AreBelow (64 * l.j) l.asked.keys;
  within : AreBelow l.bound l.asked.keys;
  steps : PartClause l.me (over_not_free l.sel l.bound (look_over l.sel) []) (view l.w l.fn.p) (view l.w l.p)
      (sweep_to (words_below l.bound) l.j (over_word l.sel l.bound (look_over l.sel)) l.asked.keys >>= reply);
}
