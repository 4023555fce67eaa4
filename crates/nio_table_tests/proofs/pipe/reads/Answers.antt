use Rattle.std.proofs.Common.{refl}
use Rattle.nio_pipe.proofs.Idle.{may_after, may_same}
use Rattle.nio_table_tests.proofs.pipe.reads.Goals as goal

pub returns-clause-may : goal.returns-clause-may
returns-clause-may c =
    may_same c.try_read.ensures.same.channel refl
    (may_after c.try_read.ensures.call.acts c.try_read.ensures.ready c.try_read.ensures.unpinned c.requires)
