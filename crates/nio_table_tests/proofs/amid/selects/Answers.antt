use Rattle.nio_poller.proofs.Trying.{begin_gives}
use Rattle.nio_table_tests.proofs.Idle.{idle_call}
use Rattle.nio_table_tests.proofs.amid.selects.Goals as goal

pub returns-in_default-clause-idle : goal.returns-in_default-clause-idle
returns-in_default-clause-idle c =
    idle_call (begin_gives _ _ _) c.begin.ensures.call c.begin.ensures.ready c.requires.idle

pub does-is_done-requires : goal.does-is_done-requires
does-is_done-requires c =
    idle_call (begin_gives _ _ _) c.begin.ensures.call c.begin.ensures.ready c.requires.idle

pub ends-back-requires-clause-begun : goal.ends-back-requires-clause-begun
ends-back-requires-clause-begun c = c.does-is_done.ensures.selecting _ c.in-Ok.ensures.begun
