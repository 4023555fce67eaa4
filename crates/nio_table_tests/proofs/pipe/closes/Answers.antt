use Rattle.nio_pipe.proofs.Idle.{may_after, may_same}
use Rattle.nio_table_tests.proofs.pipe.closes.Goals as goal

pub returns-clause-may : goal.returns-clause-may
returns-clause-may c =
    let same = c.close.ensures.same in
    may_same same.other same.channel
    (may_after c.close.ensures.call.acts c.close.ensures.ready c.close.ensures.unpinned c.requires)
