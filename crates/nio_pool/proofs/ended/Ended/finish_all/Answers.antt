use Rattle.std.proofs.Common.{sym, subst}
use Rattle.nio_group.specs.Group.{Group}
use Rattle.nio_pool.specs.Batches.{Finishes}
use Rattle.nio_pool.proofs.BatchLemmas.{finishes_more}
use Rattle.nio_pool.proofs.ended.Ended.finish_all.Goals as goal
use Rattle.nio_pool.proofs.ended.Ended.finish_all.Goals.{then-noted-ne0, else-noted-ne0}

pub loop-slate-preserved : goal.loop-slate-preserved
loop-slate-preserved c =
    elim c.if-noted-ne0.branch [
      | then-noted-ne0 w ↦ subst (λ (g : Group). Finishes c.args.core.now g) (sym w.core-is)
          (finishes_more _ _ _ c.loop-slate.invariant w.finish_all.ensures)
      | else-noted-ne0 w ↦ subst (λ (g : Group). Finishes c.args.core.now g) (sym w.core-is) c.loop-slate.invariant
    ]
