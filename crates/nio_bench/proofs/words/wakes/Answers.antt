use Rattle.nio_history.proofs.Stays.{facts_are_permanent}
use Rattle.nio_history.specs.Permanent.{selector_made}
use Rattle.nio_bench.proofs.words.wakes.Goals as goal

pub loop-preserved : goal.loop-preserved
loop-preserved c = (
  record { pass = c.wake.ensures.pass; number = rw c.wake.ensures.numbers c.loop.invariant.0.number },
  facts_are_permanent _ _ _ c.wake.ensures.clause.goes_on c.wake.ensures.clause.legal
      (selector_made c.args.s.0) c.loop.invariant.1,
)
