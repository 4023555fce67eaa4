use Rattle.nio_steps.proofs.PinLaws.{pins_are_given_back}
use Rattle.nio_table_tests.proofs.Idle.{idle_call}
use Rattle.nio_table_tests.proofs.amid.ends.Goals as goal

pub returns-in-Left-clause-idle : goal.returns-in-Left-clause-idle
returns-in-Left-clause-idle c =
    idle_call (pins_are_given_back.leave _) c.leave.ensures.call c.leave.ensures.ready c.requires.idle

pub returns-in-Done-clause-idle : goal.returns-in-Done-clause-idle
returns-in-Done-clause-idle c =
    idle_call (pins_are_given_back.told _ _ _) c.told.ensures.call c.told.ensures.ready c.requires.idle

pub returns-in-Again-clause-idle : goal.returns-in-Again-clause-idle
returns-in-Again-clause-idle c =
    idle_call (pins_are_given_back.leave _) c.leave-in-Again.ensures.call c.leave-in-Again.ensures.ready
    (idle_call (pins_are_given_back.told _ _ _) c.told.ensures.call c.told.ensures.ready c.requires.idle)
