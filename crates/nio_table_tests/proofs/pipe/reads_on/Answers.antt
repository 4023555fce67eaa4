use Rattle.std.proofs.Common.{refl}
use Rattle.nio_pipe.proofs.Idle.{may_after, may_same}
use Rattle.nio_table_tests.proofs.pipe.reads_on.Goals as goal

pub loop-preserved : goal.loop-preserved
loop-preserved g c =
    let e = c.read-read.ensures in
    may_same e.same.channel refl (may_after e.call.acts e.ready e.unpinned c.loop.invariant)
