use Rattle.nio_poller.proofs.Trying.{begin_gives}
use Rattle.nio_table_tests.proofs.Idle.{idle_call}
use Rattle.nio_table_tests.proofs.select.selects_beside.Goals as goal

pub begins_beside-busy-requires : goal.begins_beside-busy-requires
begins_beside-busy-requires c =
    idle_call (begin_gives _ _ _) c.try_begin.ensures.call c.try_begin.ensures.ready c.requires

pub returns : goal.returns
returns c = idle_call (begin_gives _ _ _) c.try_begin.ensures.call c.try_begin.ensures.ready c.requires
