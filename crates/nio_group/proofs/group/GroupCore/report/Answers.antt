use Rattle.std.proofs.Common.{◌≡◌, Some, sym, ◌∙◌}
use Rattle.nio_group.specs.Flight.{op_at}
use Rattle.nio_group.specs.Group.{Group}
use Rattle.nio_group.specs.GroupKept.{group_of}
use Rattle.nio_group.specs.Steps.{result_of}
use Rattle.nio_group.proofs.ReportLemmas.{report-allowed, pending-made, accepted-named, name-completed}
use Rattle.nio_group.proofs.group.GroupCore.report.Goals as goal

pub complete-requires-clause-channel : goal.complete-requires-clause-channel
complete-requires-clause-channel c =
    let free = sym c.report.ensures ∙ c.in_default-report.is in
    rw (← c.self.view_is)
    (pending-made c.args.op.0 c.in-Some.operation c.self.invariant (sym c.get.ensures ∙ c.in-Some.is)
    (report-allowed c.in-Some.operation c.args.outcome free).0).0

pub make_channel-requires-clause-named : goal.make_channel-requires-clause-named
make_channel-requires-clause-named c =
    let i = c.self.inside in
    let g : Group = group_of i.flight i.channels.items i.shut i.limits in
    let finished : c.result_of-finished.result ≡ result_of g c.args.outcome = rw (← c.self.view_is) at
    c.result_of-finished.ensures in
    let named = accepted-named g c.args.outcome c.in-Accepted.chan (sym finished ∙ c.in-Accepted.is) in
    let is : op_at g.flight c.args.op.0 ≡ Some c.in-Some.operation = sym c.get.ensures ∙ c.in-Some.is in
    rw (c.complete.ensures, ← c.self.view_is, finished)
    (name-completed g c.args.op.0 c.args.outcome c.in-Some.operation c.in-Accepted.chan is named.1)
