use Rattle.std.proofs.Common.{rules, true}
use Rattle.nio_steps.proofs.CallLaws.{returned, left_start}
use Rattle.nio_steps.proofs.SweepLaws.{sweep_turn, sweep_done}
use Rattle.nio_steps.specs.Plan.{reply}
use Rattle.nio_channel.proofs.closing.cancel_all.Goals as goal

pub loop-number-init : goal.loop-number-init
loop-number-init c = (c.requires.ready, c.requires.unpinned, left_start _ _ _ c.requires.ready.pass.legal)

pub loop-number-preserved : goal.loop-number-preserved
loop-number-preserved c = (
  c.cancel_in.ensures.ready,
  c.cancel_in.ensures.unpinned,
  sweep_turn _ _ _ _ _ (λ _. reply true) (search rules) c.loop-number.invariant.2 c.cancel_in.ensures.call,
)

pub returns-clause-call : goal.returns-clause-call
returns-clause-call c = returned (sweep_done _ _ _ _ (λ _. reply true) (search rules) c.loop-number.invariant.2)
