use Rattle.std.proofs.Common.{Ok, arith, rules}
use Rattle.nio_steps.proofs.CallLaws.{returned}
use Rattle.nio_steps.proofs.SweepLaws.{sweep_turn, sweep_done}
use Rattle.nio_steps.specs.Plan.{reply}
use Rattle.nio_select.proofs.listing.list_below.Goals as goal

pub loop-i-preserved : goal.loop-i-preserved
loop-i-preserved c = (
  c.list_key.ensures.ready,
  omega arith,
  omega arith,
  sweep_turn _ _ _ _ _ (λ listed. reply (Ok listed)) (search rules) c.loop-i.invariant.3 c.list_key.ensures.call,
)

pub returns-clause-call : goal.returns-clause-call
returns-clause-call c = returned (sweep_done _ _ _ _ (λ listed. reply (Ok listed)) (search rules) c.loop-i.invariant.3)
