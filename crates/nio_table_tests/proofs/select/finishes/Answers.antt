use Rattle.nio_steps.proofs.PinLaws.{pins_are_given_back}
use Rattle.nio_table_tests.proofs.Idle.{idle_call_other, selects_beside, zero_held}
use Rattle.nio_table_tests.proofs.select.finishes.Goals as goal

pub returns-in-Busy-clause-idle : goal.returns-in-Busy-clause-idle
returns-in-Busy-clause-idle c =
    idle_call_other (pins_are_given_back.try_finish _) c.try_finish.ensures.call c.try_finish.ensures.ready
    c.requires.idle

pub returns-in-Busy-clause-selecting : goal.returns-in-Busy-clause-selecting
returns-in-Busy-clause-selecting c =
    λ selection has. selects_beside c.try_finish.ensures.call.acts (zero_held c.requires.idle) has

pub returns-in-Closed-clause-idle : goal.returns-in-Closed-clause-idle
returns-in-Closed-clause-idle c =
    idle_call_other (pins_are_given_back.try_finish _) c.try_finish.ensures.call c.try_finish.ensures.ready
    c.requires.idle

pub returns-in-Closed-clause-selecting : goal.returns-in-Closed-clause-selecting
returns-in-Closed-clause-selecting c =
    λ selection has. selects_beside c.try_finish.ensures.call.acts (zero_held c.requires.idle) has
