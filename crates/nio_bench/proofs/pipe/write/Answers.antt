use Rattle.nio_pipe.proofs.Idle.{may_after, may_same}
use Rattle.nio_bench.proofs.pipe.write.Goals as goal

pub returns-in_err-taken-clause-may : goal.returns-in_err-taken-clause-may
returns-in_err-taken-clause-may g c =
    let e = c.write.ensures in
    may_same e.same.other e.same.channel (may_after e.call.acts e.ready e.unpinned c.requires)

pub returns-in-Bytes-clause-may : goal.returns-in-Bytes-clause-may
returns-in-Bytes-clause-may g c =
    let e = c.write.ensures in
    may_same e.same.other e.same.channel (may_after e.call.acts e.ready e.unpinned c.requires)

pub returns-in-NotYet-clause-may : goal.returns-in-NotYet-clause-may
returns-in-NotYet-clause-may g c =
    let e = c.write.ensures in
    may_same e.same.other e.same.channel (may_after e.call.acts e.ready e.unpinned c.requires)
