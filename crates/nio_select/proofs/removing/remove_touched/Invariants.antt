use Rattle.std.proofs.Common.{List}
use Rattle.nio_steps.specs.Calls.{PartClause}
use Rattle.nio_steps.specs.ChannelCalls.{words_below}
use Rattle.nio_steps.specs.Plan.{reply, ◌>>=◌}
use Rattle.nio_steps.specs.Looking.{over_touched}
use Rattle.nio_steps.specs.Sweeps.{sweep_to}
use Rattle.nio_steps.specs.declared.looked.LookedKey.{LookedKey}
use Rattle.nio_words.specs.Views.{view}
use Rattle.nio_select.specs.Begun.{HasBegun}
use Rattle.nio_select.specs.KeyChanges.{TakesNote}
use Rattle.nio_select.specs.Removing.{removes_at}
use Rattle.nio_select.proofs.removing.remove_touched.Given as goal

abbrev pub invariant-loop-j : goal.invariant-loop-j
invariant-loop-j g l = record {
  begun : HasBegun l.w l.p l.me l.sel;
  listed : (asked : List LookedKey)
      → TakesNote g.L.Lister.noted asked l.me (view l.w l.fn.p) (view l.w l.p) l.fn.lister l.lister;
  steps : PartClause l.me (sweep_to (words_below l.mark) 0 (over_touched l.sel (removes_at l.sel)) tt) (view l.w l.fn.p)
      (view l.w l.p) (sweep_to (words_below l.mark) l.j (over_touched l.sel (removes_at l.sel)) tt >>= reply);
}
