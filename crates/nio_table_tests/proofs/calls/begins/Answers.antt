use Rattle.nio_steps.proofs.PinLaws.{pins_are_given_back}
use Rattle.nio_poller.proofs.Trying.{begin_gives}
use Rattle.nio_table_tests.proofs.Idle.{idle_call}
use Rattle.nio_table_tests.proofs.calls.begins.Goals as goal

pub returns-in-Ok : goal.returns-in-Ok
returns-in-Ok c =
    idle_call (pins_are_given_back.leave _) c.leave.ensures.call c.leave.ensures.ready
    (idle_call (begin_gives _ _ _) c.try_begin.ensures.call c.try_begin.ensures.ready c.requires)

pub returns-in-Err : goal.returns-in-Err
returns-in-Err c = idle_call (begin_gives _ _ _) c.try_begin.ensures.call c.try_begin.ensures.ready c.requires
