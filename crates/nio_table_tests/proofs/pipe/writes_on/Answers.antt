use Rattle.nio_pipe.proofs.Idle.{may_after, may_same}
use Rattle.nio_table_tests.proofs.pipe.writes_on.Goals as goal

pub loop-preserved : goal.loop-preserved
loop-preserved g c =
    let e = c.write-written.ensures in
    may_same e.same.other e.same.channel (may_after e.call.acts e.ready e.unpinned c.loop.invariant)
