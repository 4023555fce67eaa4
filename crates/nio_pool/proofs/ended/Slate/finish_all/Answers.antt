use Rattle.std.proofs.Common.{sym, subst}
use Rattle.nio_group.specs.Group.{Group}
use Rattle.nio_pool.specs.Batches.{Finishes}
use Rattle.nio_pool.proofs.BatchLemmas.{finishes_one}
use Rattle.nio_pool.proofs.ended.Slate.finish_all.Goals as goal
use Rattle.nio_pool.proofs.ended.Slate.finish_all.Goals.{then-number, else-number}

pub loop-place-preserved : goal.loop-place-preserved
loop-place-preserved c =
    elim c.if-number.branch [
      | then-number w ↦ subst (λ (g : Group). Finishes c.args.core.now g) (sym w.core-is)
          (finishes_one _ _ _ _ c.loop-place.invariant w.finish.ensures.after)
      | else-number w ↦ subst (λ (g : Group). Finishes c.args.core.now g) (sym w.core-is) c.loop-place.invariant
    ]
