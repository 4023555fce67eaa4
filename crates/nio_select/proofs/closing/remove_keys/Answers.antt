use Rattle.std.proofs.Common.{refl, rules}
use Rattle.nio_steps.proofs.CallLaws.{returned, left_ask, left_after}
use Rattle.nio_steps.proofs.SweepLaws.{sweep_turn, sweep_done}
use Rattle.nio_steps.specs.Plan.{reply}
use Rattle.nio_steps.specs.SelectCalls.{closed}
use Rattle.nio_words.proofs.Views.{step_acts}
use Rattle.nio_select.proofs.Entered.{may_clear_now, may_clear_stays, may_remove_below}
use Rattle.nio_select.proofs.closing.remove_keys.Goals as goal

pub loop-i-init : goal.loop-i-init
loop-i-init c = (
  may_clear_now c.look_keys-bound.ensures c.requires.entered,
  left_ask _ (step_acts c.look_keys-bound.ensures refl)
      (left_after (step_acts c.look_keys-bound.ensures refl)),
)

pub remove-requires-clause-may : goal.remove-requires-clause-may
remove-requires-clause-may c = may_remove_below c.loop-i.invariant.0 c.loop-i.i (search rules)

pub loop-i-preserved : goal.loop-i-preserved
loop-i-preserved c = (
  may_clear_stays c.remove.ensures refl c.loop-i.invariant.0,
  sweep_turn _ _ _ _ _ (λ _. reply closed) (search rules) c.loop-i.invariant.1
      (returned (left_ask _ (step_acts c.remove.ensures refl) (left_after (step_acts c.remove.ensures refl)))),
)

pub returns-clause-call : goal.returns-clause-call
returns-clause-call c = returned (sweep_done _ _ _ _ (λ _. reply closed) (search rules) c.loop-i.invariant.1)
