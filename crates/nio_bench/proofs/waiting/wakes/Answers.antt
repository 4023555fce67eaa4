use Rattle.nio_history.proofs.PassViews.{selector_after}
use Rattle.nio_bench.proofs.waiting.wakes.Goals as goal

pub loop-number-preserved : goal.loop-number-preserved
loop-number-preserved g c =
    (c.wakeup.ensures.ready, selector_after c.wakeup.ensures.call.acts c.loop-number.invariant.1)
