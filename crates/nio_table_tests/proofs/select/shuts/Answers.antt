use Rattle.nio_steps.proofs.PinLaws.{pins_are_given_back}
use Rattle.nio_table_tests.proofs.Idle.{idle_call_other, selects_beside, zero_held}
use Rattle.nio_table_tests.proofs.select.shuts.Goals as goal

pub returns-in-Closing-clause-idle : goal.returns-in-Closing-clause-idle
returns-in-Closing-clause-idle c =
    idle_call_other (pins_are_given_back.shut _) c.shut.ensures.call c.shut.ensures.ready c.requires

pub returns-in-Closing-clause-selecting : goal.returns-in-Closing-clause-selecting
returns-in-Closing-clause-selecting c =
    λ selection has. selects_beside c.shut.ensures.call.acts (zero_held c.requires) has

pub returns-in-AlreadyClosed-clause-idle : goal.returns-in-AlreadyClosed-clause-idle
returns-in-AlreadyClosed-clause-idle c =
    idle_call_other (pins_are_given_back.shut _) c.shut.ensures.call c.shut.ensures.ready c.requires

pub returns-in-AlreadyClosed-clause-selecting : goal.returns-in-AlreadyClosed-clause-selecting
returns-in-AlreadyClosed-clause-selecting c =
    λ selection has. selects_beside c.shut.ensures.call.acts (zero_held c.requires) has
