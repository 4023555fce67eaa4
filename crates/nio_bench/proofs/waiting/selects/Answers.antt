use Rattle.nio_history.proofs.PassViews.{selector_after}
use Rattle.nio_bench.proofs.SetUp.{may_without}
use Rattle.nio_bench.proofs.waiting.selects.Goals as goal

pub loop-time-preserved : goal.loop-time-preserved
loop-time-preserved g c =
    (c.select.ensures.ready, selector_after c.select.ensures.call.call.acts c.loop-time.invariant.1)

pub select-requires-clause-may : goal.select-requires-clause-may
select-requires-clause-may g c = may_without c.without_list-on.ensures c.loop-time.invariant.1
