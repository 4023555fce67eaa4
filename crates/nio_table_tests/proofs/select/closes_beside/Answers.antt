use Rattle.nio_poller.proofs.Trying.{begin_gives}
use Rattle.nio_table_tests.proofs.Idle.{idle_call}
use Rattle.nio_table_tests.proofs.select.closes_beside.Goals as goal

pub is_told_beside-requires-clause-idle : goal.is_told_beside-requires-clause-idle
is_told_beside-requires-clause-idle c =
    idle_call (begin_gives _ _ _) c.try_begin.ensures.call c.try_begin.ensures.ready c.requires

pub returns : goal.returns
returns c = idle_call (begin_gives _ _ _) c.try_begin.ensures.call c.try_begin.ensures.ready c.requires
