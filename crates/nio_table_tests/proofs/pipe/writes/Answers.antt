use Rattle.nio_pipe.proofs.Idle.{may_after, may_same}
use Rattle.nio_table_tests.proofs.pipe.writes.Goals as goal

pub returns-clause-may : goal.returns-clause-may
returns-clause-may c =
    let same = c.try_write.ensures.same in
    may_same same.other same.channel
    (may_after c.try_write.ensures.call.acts c.try_write.ensures.ready c.try_write.ensures.unpinned c.requires)
