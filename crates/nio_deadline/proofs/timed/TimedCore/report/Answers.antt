use Rattle.std.proofs.Common.{ap, ◌∙◌, deque_len, deque_capacity, List, Err}
use Rattle.nio_group.specs.Group.{Group}
use Rattle.nio_group.specs.Run as run
use Rattle.nio_deadline.specs.Deadlines.{Deadline}
use Rattle.nio_deadline.specs.Kept.{timed_of}
use Rattle.nio_group.specs.Refusals.{report_refusal}
use Rattle.nio_group.specs.Flight.{op_at}
use Rattle.nio_group.specs.Steps.{after_report, reported}
use Rattle.nio_deadline.proofs.PendingLemmas.{Stays}
use Rattle.nio_deadline.proofs.QueueLemmas.{keeps-report}
use Rattle.nio_deadline.proofs.TimedLemmas.{all-stay, kept-call, reported-deadlines, ok-free, err-refused}
use Rattle.nio_deadline.proofs.TimedLemmas.{refused-keeps, when-refused}
use Rattle.nio_deadline.proofs.timed.TimedCore.report.Goals as goal
use Rattle.nio_group.proofs.TableLemmas.{on_err}

pub invariant_of-self : goal.invariant_of-self
invariant_of-self c =
    let i = c.self.inside in
    let g : Group = i.core in
    let refused = err-refused (report_refusal (op_at g.flight c.args.op.0) c.args.outcome) tt
    c.in_err-report.field-0.0
    c.in_err-report.ensures.answer in
    let stays : Stays g.flight (after_report g c.args.op.0 c.args.outcome).flight =
    when-refused (λ (h : Group). Stays g.flight h.flight) (report_refusal (op_at g.flight c.args.op.0) c.args.outcome)
    c.in_err-report.field-0.0 g (reported g c.args.op.0 c.args.outcome (op_at g.flight c.args.op.0)) refused
    (λ n p. p) in
    let same = all-stay g (after_report g c.args.op.0 c.args.outcome) i.deadlines stays
    c.self.invariant.lawful.pending in
    rw c.report.ensures.after
    (kept-call (timed_of g i.deadlines i.timed_out.items i.kinds.items) (run.report c.args.op c.args.outcome) _
    (deque_len i.timed_out)
    (deque_capacity i.timed_out) c.self.invariant tt
    (keeps-report g c.args.op.0 c.args.outcome) same)

pub returns-in_err-report-clause-after : goal.returns-in_err-report-clause-after
returns-in_err-report-clause-after c =
    let i = c.self.inside in
    let g : Group = i.core in
    let refused = err-refused (report_refusal (op_at g.flight c.args.op.0) c.args.outcome) tt
    c.in_err-report.field-0.0
    c.in_err-report.ensures.answer in
    let stays : Stays g.flight (after_report g c.args.op.0 c.args.outcome).flight =
    when-refused (λ (h : Group). Stays g.flight h.flight) (report_refusal (op_at g.flight c.args.op.0) c.args.outcome)
    c.in_err-report.field-0.0 g (reported g c.args.op.0 c.args.outcome (op_at g.flight c.args.op.0)) refused
    (λ n p. p) in
    let same = all-stay g (after_report g c.args.op.0 c.args.outcome) i.deadlines stays
    c.self.invariant.lawful.pending in
    rw (← c.self.view_is)
    (rw c.report.ensures.after (ap (λ (ds : List Deadline). timed_of
    (after_report g c.args.op.0 c.args.outcome) ds i.timed_out.items i.kinds.items) same))

pub invariant_of-self-2 : goal.invariant_of-self-2
invariant_of-self-2 c =
    let i = c.self.inside in
    let g : Group = i.core in
    let free = ok-free (report_refusal (op_at g.flight c.args.op.0) c.args.outcome) tt tt
    c.in_ok-report.ensures.answer in
    let same = c.remove.ensures
    ∙ reported-deadlines g c.args.op.0 c.args.outcome i.deadlines free c.self.invariant.lawful.pending in
    rw c.report.ensures.after
    (kept-call (timed_of g i.deadlines i.timed_out.items i.kinds.items) (run.report c.args.op c.args.outcome) _
    (deque_len i.timed_out)
    (deque_capacity i.timed_out) c.self.invariant tt
    (keeps-report g c.args.op.0 c.args.outcome) same)

pub returns-clause-after : goal.returns-clause-after
returns-clause-after c =
    let i = c.self.inside in
    let g : Group = i.core in
    let free = ok-free (report_refusal (op_at g.flight c.args.op.0) c.args.outcome) tt tt
    c.in_ok-report.ensures.answer in
    let same = c.remove.ensures
    ∙ reported-deadlines g c.args.op.0 c.args.outcome i.deadlines free c.self.invariant.lawful.pending in
    rw (← c.self.view_is)
    (rw c.report.ensures.after (ap (λ (ds : List Deadline). timed_of
    (after_report g c.args.op.0 c.args.outcome) ds i.timed_out.items i.kinds.items) same))

pub returns-in_err-report-clause-refused : goal.returns-in_err-report-clause-refused
returns-in_err-report-clause-refused c =
    let i = c.self.inside in
    let g : Group = i.core in
    on_err c.from_residual.result
    (refused-keeps (report_refusal (op_at g.flight c.args.op.0) c.args.outcome) tt (Err c.in_err-report.field-0.0)
    (timed_of i.core i.deadlines i.timed_out.items i.kinds.items)
    (reported g c.args.op.0 c.args.outcome (op_at g.flight c.args.op.0)) c.in_err-report.ensures.answer
    c.report.ensures.after c.self.view_is)
