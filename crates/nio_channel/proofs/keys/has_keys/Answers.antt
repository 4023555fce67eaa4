use Rattle.std.proofs.Common.{rules}
use Rattle.nio_steps.proofs.CallLaws.{returned, left_reply, left_start}
use Rattle.nio_steps.proofs.SweepLaws.{sweep_turn, sweep_done}
use Rattle.nio_steps.specs.Plan.{reply}
use Rattle.nio_channel.proofs.keys.has_keys.Goals as goal

pub loop-sel-init : goal.loop-sel-init
loop-sel-init c = (c.requires.ready, left_reply (left_start _ _ _ c.requires.ready.pass.legal))

pub loop-sel-preserved : goal.loop-sel-preserved
loop-sel-preserved c = (
  c.has_key_in-registered.ensures.ready,
  sweep_turn _ _ _ _ _ reply (search rules) c.loop-sel.invariant.1 c.has_key_in-registered.ensures.call,
)

pub returns-clause-call : goal.returns-clause-call
returns-clause-call c = returned (sweep_done _ _ _ _ reply (search rules) c.loop-sel.invariant.1)
