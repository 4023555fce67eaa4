use Rattle.nio_steps.proofs.PinLaws.{pins_are_given_back}
use Rattle.nio_table_tests.proofs.Idle.{idle_call}
use Rattle.nio_table_tests.proofs.calls.opened.Goals as goal

pub returns-clause-idle : goal.returns-clause-idle
returns-clause-idle c =
    idle_call (pins_are_given_back.open_channel _ _) c.open_channel.ensures.call c.open_channel.ensures.ready c.requires
