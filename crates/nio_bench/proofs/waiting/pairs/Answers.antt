use Rattle.nio_history.proofs.PassViews.{selector_after}
use Rattle.nio_bench.proofs.SetUp.{may_without}
use Rattle.nio_bench.proofs.waiting.pairs.Goals as goal

pub select_now-requires-clause-may : goal.select_now-requires-clause-may
select_now-requires-clause-may g c =
    may_without c.without_list-on.ensures (selector_after c.wakeup-all.ensures.call.acts c.loop.invariant.1)

pub loop-preserved : goal.loop-preserved
loop-preserved g c = (
  c.select_now.ensures.ready,
  selector_after c.select_now.ensures.call.call.acts (selector_after c.wakeup-all.ensures.call.acts c.loop.invariant.1),
)
