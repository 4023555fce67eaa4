use Rattle.nio_steps.proofs.PinLaws.{pins_are_given_back}
use Rattle.nio_table_tests.proofs.Idle.{idle_call, closes_beside, one_held}
use Rattle.nio_table_tests.proofs.calls.is_told.Goals as goal

pub returns-in-Done-clause-idle : goal.returns-in-Done-clause-idle
returns-in-Done-clause-idle c =
    idle_call (pins_are_given_back.told _ _ _) c.told.ensures.call c.told.ensures.ready c.requires.idle

pub returns-in-Done-clause-closing : goal.returns-in-Done-clause-closing
returns-in-Done-clause-closing c = λ s has. closes_beside c.told.ensures.call.acts (one_held c.requires.idle) has

pub returns-in-Again-clause-idle : goal.returns-in-Again-clause-idle
returns-in-Again-clause-idle c =
    idle_call (pins_are_given_back.leave _) c.leave.ensures.call c.leave.ensures.ready
    (idle_call (pins_are_given_back.told _ _ _) c.told.ensures.call c.told.ensures.ready c.requires.idle)

pub returns-in-Again-clause-closing : goal.returns-in-Again-clause-closing
returns-in-Again-clause-closing c = λ s has.
    closes_beside c.leave.ensures.call.acts
    (one_held (idle_call (pins_are_given_back.told _ _ _) c.told.ensures.call c.told.ensures.ready c.requires.idle))
    (closes_beside c.told.ensures.call.acts (one_held c.requires.idle) has)
