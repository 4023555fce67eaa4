use Rattle.std.proofs.Common.{ℕ, List}
use Rattle.std.specs.Int.{bit_not, w64}
use Rattle.nio_steps.specs.Calls.{PartClause}
use Rattle.nio_steps.specs.Plan.{reply, ◌>>=◌}
use Rattle.nio_steps.specs.Looking.{over_word}
use Rattle.nio_steps.specs.Sweeps.{sweep_over}
use Rattle.nio_steps.specs.declared.looked.LookedKey.{LookedKey}
use Rattle.nio_words.specs.Views.{view}
use Rattle.nio_select.specs.Begun.{HasBegun}
use Rattle.nio_select.specs.KeyChanges.{TakesNote}
use Rattle.nio_select.specs.Removing.{removes_at}
use Rattle.nio_select.proofs.OverWord.{if_below}
use Rattle.nio_select.proofs.SetBits.{AreLeft, left_from}
use Rattle.nio_select.proofs.removing.remove_in_word.Given as goal

abbrev pub invariant-loop-rest : goal.invariant-loop-rest
invariant-loop-rest g l = record {
  passed : ℕ;
  left : AreLeft (bit_not w64 l.word) passed l.rest;
  begun : HasBegun l.w l.p l.me l.sel;
  listed : (asked : List LookedKey)
      → TakesNote g.L.Lister.noted asked l.me (view l.w l.fn.p) (view l.w l.p) l.fn.lister l.lister;
  steps : PartClause l.me (over_word l.sel l.mark (removes_at l.sel) l.j tt) (view l.w l.fn.p) (view l.w l.p)
      (sweep_over (left_from (bit_not w64 l.word) l.j passed) (if_below l.mark (removes_at l.sel)) tt >>= reply);
}

abbrev pub decreases-loop-rest : goal.decreases-loop-rest
decreases-loop-rest g l = l.rest
