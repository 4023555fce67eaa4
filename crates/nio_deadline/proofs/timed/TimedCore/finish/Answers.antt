use Rattle.std.proofs.Common.{ap, deque_len, deque_capacity}
use Rattle.nio_group.specs.Flight.{op_at, with_ended}
use Rattle.nio_group.specs.Group.{Group}
use Rattle.nio_group.specs.Stages.{is_running}
use Rattle.nio_group.specs.Run.{finish}
use Rattle.nio_group.specs.Steps.{after_finish, finish_refusal}
use Rattle.nio_deadline.specs.Kept.{timed_of}
use Rattle.nio_deadline.proofs.TimedLemmas.{all-stay, kept-call, refused-keeps}
use Rattle.nio_deadline.proofs.PendingLemmas.{stays-finish}
use Rattle.nio_deadline.proofs.QueueLemmas.{keeps-finish}
use Rattle.nio_deadline.proofs.timed.TimedCore.finish.Goals as goal

pub invariant_of-self : goal.invariant_of-self
invariant_of-self c =
    let i = c.self.inside in
    let g : Group = i.core in
    rw c.finish.ensures.after
    (kept-call (timed_of g i.deadlines i.timed_out.items i.kinds.items) (finish c.args.op) _ (deque_len i.timed_out)
    (deque_capacity i.timed_out) c.self.invariant tt (keeps-finish g c.args.op.0)
    (all-stay g (after_finish g c.args.op.0) i.deadlines (stays-finish g c.args.op.0) c.self.invariant.lawful.pending))

pub returns-clause-after : goal.returns-clause-after
returns-clause-after c =
    let i = c.self.inside in
    let g : Group = i.core in
    rw (← c.self.view_is)
    (rw c.finish.ensures.after
    (ap (λ ds. timed_of (after_finish g c.args.op.0) ds i.timed_out.items i.kinds.items)
    (all-stay g (after_finish g c.args.op.0) i.deadlines (stays-finish g c.args.op.0)
    c.self.invariant.lawful.pending)))

pub returns-clause-refused : goal.returns-clause-refused
returns-clause-refused c =
    let i = c.self.inside in
    let g : Group = i.core in
    refused-keeps (finish_refusal (is_running (op_at g.flight c.args.op.0))) tt c.finish.result
    (timed_of i.core i.deadlines i.timed_out.items i.kinds.items)
    (record g { flight = with_ended g.flight c.args.op.0 }) c.finish.ensures.answer c.finish.ensures.after
    c.self.view_is
