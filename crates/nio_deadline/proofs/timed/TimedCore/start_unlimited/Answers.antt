use Rattle.std.proofs.Common.{ap, deque_len, deque_capacity, List}
use Rattle.nio_group.specs.Group.{Group, IsMade}
use Rattle.nio_group.specs.Run as run
use Rattle.nio_deadline.specs.Deadlines.{Deadline}
use Rattle.nio_deadline.specs.Kept.{timed_of}
use Rattle.nio_group.specs.Flight.{accepted}
use Rattle.nio_group.specs.Refusals.{start_refusal}
use Rattle.nio_group.specs.Steps.{after_start, started}
use Rattle.nio_deadline.proofs.PendingLemmas.{stays-start}
use Rattle.nio_deadline.proofs.QueueLemmas.{keeps-start}
use Rattle.nio_deadline.proofs.TimedLemmas.{all-stay, kept-call, refused-keeps}
use Rattle.nio_deadline.proofs.timed.TimedCore.start_unlimited.Goals as goal

pub invariant_of-self : goal.invariant_of-self
invariant_of-self c =
    let i = c.self.inside in
    let g : Group = i.core in
    let within : IsMade g c.args.chan = rw (← c.self.view_is) at c.requires in
    rw c.start.ensures.after
    (kept-call (timed_of g i.deadlines i.timed_out.items i.kinds.items) (run.start c.args.chan c.args.kind c.args.len) _
    (deque_len i.timed_out) (deque_capacity i.timed_out) c.self.invariant within
    (keeps-start g c.args.chan c.args.kind c.args.len)
    (all-stay g (after_start g c.args.chan c.args.kind c.args.len) i.deadlines
    (stays-start g c.args.chan c.args.kind c.args.len) c.self.invariant.lawful.pending))

pub returns-clause-after : goal.returns-clause-after
returns-clause-after c =
    let i = c.self.inside in
    let g : Group = i.core in
    rw (← c.self.view_is)
    (rw c.start.ensures.after
    (ap (λ (ds : List Deadline). timed_of (after_start g c.args.chan c.args.kind c.args.len) ds i.timed_out.items
    i.kinds.items)
    (all-stay g (after_start g c.args.chan c.args.kind c.args.len) i.deadlines
    (stays-start g c.args.chan c.args.kind c.args.len) c.self.invariant.lawful.pending)))

pub returns-clause-refused : goal.returns-clause-refused
returns-clause-refused c =
    let i = c.self.inside in
    let g : Group = i.core in
    refused-keeps (start_refusal g c.args.chan c.args.kind) (record { 0 = accepted g.flight }) c.start.result
    (timed_of i.core i.deadlines i.timed_out.items i.kinds.items)
    (started g c.args.chan c.args.kind c.args.len) c.start.ensures.answer c.start.ensures.after c.self.view_is
