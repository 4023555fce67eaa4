use Rattle.std.proofs.Common.{rules}
use Rattle.nio_steps.proofs.CallLaws.{returned, left_reply, left_start}
use Rattle.nio_steps.proofs.SweepLaws.{seek_no, seek_yes, seek_done}
use Rattle.nio_steps.specs.Plan.{reply}
use Rattle.nio_channel.proofs.opening.reopen_first.Goals as goal

pub loop-number-init : goal.loop-number-init
loop-number-init c = (c.requires.ready, left_reply (left_start _ _ _ c.requires.ready.pass.legal))

pub returns-in-Some-clause-call : goal.returns-in-Some-clause-call
returns-in-Some-clause-call c =
    returned (seek_yes _ _ _ reply _ (search rules) c.loop-number.invariant.1 c.in-Some.ensures.call)

pub loop-number-preserved : goal.loop-number-preserved
loop-number-preserved c = (
  c.reopen_number.ensures.ready,
  seek_no _ _ _ reply (search rules) c.loop-number.invariant.1 c.in_default.ensures.call,
)

pub returns-clause-call : goal.returns-clause-call
returns-clause-call c = returned (seek_done _ _ _ reply (search rules) c.loop-number.invariant.1)
