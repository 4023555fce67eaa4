use Rattle.std.proofs.Common.{◌*◌}
use Rattle.nio_history.specs.PassViews.{done_between}
use Rattle.nio_steps.specs.Calls.{PartClause}
use Rattle.nio_steps.specs.ChannelCalls.{words_below}
use Rattle.nio_steps.specs.Looking.{list_word}
use Rattle.nio_steps.specs.Plan.{reply, ◌>>=◌}
use Rattle.nio_steps.specs.Sweeps.{sweep_to}
use Rattle.nio_words.specs.Passes.{limits_of}
use Rattle.nio_words.specs.Views.{view}
use Rattle.nio_select.specs.Asked.{IsBeside}
use Rattle.nio_select.specs.Begun.{HasBegunListed}
use Rattle.nio_select.specs.Touched.{AddsTaken, TakesOn}
use Rattle.nio_select.proofs.touched.list_words.Given as goal

abbrev pub invariant-loop-j : goal.invariant-loop-j
invariant-loop-j l = record {
  begun : HasBegunListed l.w l.p l.me l.sel;
  beside : IsBeside l.fn.asked l.asked;
  on : TakesOn (64 * l.j) (limits_of l.w).keys l.fn.asked l.asked;
  taken : AddsTaken l.sel (done_between l.me (view l.w l.fn.p) (view l.w l.p)) l.fn.asked.changed l.asked.changed;
  steps : PartClause l.me (sweep_to (words_below l.bound) 0 (list_word l.sel) l.fn.asked.keys) (view l.w l.fn.p)
      (view l.w l.p) (sweep_to (words_below l.bound) l.j (list_word l.sel) l.asked.keys >>= reply);
}
