use Rattle.nio_steps.proofs.PinLaws.{pins_are_given_back}
use Rattle.nio_poller.proofs.Trying.{begin_gives}
use Rattle.nio_table_tests.proofs.Idle.{idle_call_other, selects_beside, zero_held}
use Rattle.nio_table_tests.proofs.select.begins_beside.Goals as goal

pub returns-in-Ok-clause-idle : goal.returns-in-Ok-clause-idle
returns-in-Ok-clause-idle c =
    idle_call_other (pins_are_given_back.leave _) c.leave.ensures.call c.leave.ensures.ready
    (idle_call_other (begin_gives _ _ _) c.try_begin.ensures.call c.try_begin.ensures.ready c.requires)

pub returns-in-Err-clause-idle : goal.returns-in-Err-clause-idle
returns-in-Err-clause-idle c =
    idle_call_other (begin_gives _ _ _) c.try_begin.ensures.call c.try_begin.ensures.ready c.requires

pub returns-in-Ok-clause-selecting : goal.returns-in-Ok-clause-selecting
returns-in-Ok-clause-selecting c = λ selection has.
    selects_beside c.leave.ensures.call.acts
    (zero_held (idle_call_other (begin_gives _ _ _) c.try_begin.ensures.call c.try_begin.ensures.ready c.requires))
    (selects_beside c.try_begin.ensures.call.acts (zero_held c.requires) has)

pub returns-in-Err-clause-selecting : goal.returns-in-Err-clause-selecting
returns-in-Err-clause-selecting c =
    λ selection has. selects_beside c.try_begin.ensures.call.acts (zero_held c.requires) has
