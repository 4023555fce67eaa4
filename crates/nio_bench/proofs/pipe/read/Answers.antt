use Rattle.std.proofs.Common.{refl}
use Rattle.nio_pipe.proofs.Idle.{may_after, may_same}
use Rattle.nio_bench.proofs.pipe.read.Goals as goal

pub returns : goal.returns
returns g c =
    let e = c.read.ensures in
    may_same e.same.channel refl (may_after e.call.acts e.ready e.unpinned c.requires)
