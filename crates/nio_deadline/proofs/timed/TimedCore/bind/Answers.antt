use Rattle.std.proofs.Common.{ap, deque_len, deque_capacity, true}
use Rattle.nio_group.specs.declared.channel.Endpoint.TheVariants.{Listener}
use Rattle.nio_group.specs.Group.{Group, IsMade, channel_at, is_open}
use Rattle.nio_group.specs.Refusals.{bind_refusal}
use Rattle.nio_group.specs.Run.{bind}
use Rattle.nio_group.specs.Steps.{after_bind, with_endpoint}
use Rattle.nio_deadline.specs.Kept.{timed_of}
use Rattle.nio_deadline.proofs.TimedLemmas.{all-stay, kept-call, refused-keeps}
use Rattle.nio_deadline.proofs.PendingLemmas.{stays-bind}
use Rattle.nio_deadline.proofs.QueueLemmas.{keeps-bind}
use Rattle.nio_deadline.proofs.timed.TimedCore.bind.Goals as goal

pub invariant_of-self : goal.invariant_of-self
invariant_of-self c =
    let i = c.self.inside in
    let g : Group = i.core in
    let within : IsMade g c.args.chan = rw (← c.self.view_is) at c.requires in
    rw c.bind.ensures.after
    (kept-call (timed_of g i.deadlines i.timed_out.items i.kinds.items) (bind c.args.chan) _ (deque_len i.timed_out)
    (deque_capacity i.timed_out) c.self.invariant within (keeps-bind g c.args.chan)
    (all-stay g (after_bind g c.args.chan) i.deadlines (stays-bind g c.args.chan) c.self.invariant.lawful.pending))

pub returns-clause-after : goal.returns-clause-after
returns-clause-after c =
    let i = c.self.inside in
    let g : Group = i.core in
    rw (← c.self.view_is)
    (rw c.bind.ensures.after
    (ap (λ ds. timed_of (after_bind g c.args.chan) ds i.timed_out.items i.kinds.items)
    (all-stay g (after_bind g c.args.chan) i.deadlines (stays-bind g c.args.chan)
    c.self.invariant.lawful.pending)))

pub returns-clause-refused : goal.returns-clause-refused
returns-clause-refused c =
    let i = c.self.inside in
    let g : Group = i.core in
    refused-keeps (bind_refusal (is_open g c.args.chan) (channel_at g c.args.chan.number).endpoint) tt c.bind.result
    (timed_of i.core i.deadlines i.timed_out.items i.kinds.items)
    (with_endpoint g c.args.chan.number (Listener true)) c.bind.ensures.answer c.bind.ensures.after c.self.view_is
