use Rattle.std.proofs.Common.{ap, deque_len, deque_capacity}
use Rattle.nio_group.specs.Group.{Group}
use Rattle.nio_group.specs.Run.{shutdown}
use Rattle.nio_group.specs.Steps.{after_shutdown}
use Rattle.nio_deadline.specs.Kept.{timed_of}
use Rattle.nio_deadline.proofs.TimedLemmas.{all-stay, kept-call}
use Rattle.nio_deadline.proofs.PendingLemmas.{stays-shutdown}
use Rattle.nio_deadline.proofs.QueueLemmas.{keeps-shutdown}
use Rattle.nio_deadline.proofs.timed.TimedCore.shutdown.Goals as goal

pub invariant_of-self : goal.invariant_of-self
invariant_of-self c =
    let i = c.self.inside in
    let g : Group = i.core in
    rw c.shutdown.ensures
    (kept-call (timed_of g i.deadlines i.timed_out.items i.kinds.items) shutdown _ (deque_len i.timed_out)
    (deque_capacity i.timed_out) c.self.invariant tt (keeps-shutdown g)
    (all-stay g (after_shutdown g) i.deadlines (stays-shutdown g) c.self.invariant.lawful.pending))

pub returns : goal.returns
returns c =
    let i = c.self.inside in
    let g : Group = i.core in
    rw (← c.self.view_is)
    (rw c.shutdown.ensures
    (ap (λ ds. timed_of (after_shutdown g) ds i.timed_out.items i.kinds.items)
    (all-stay g (after_shutdown g) i.deadlines (stays-shutdown g) c.self.invariant.lawful.pending)))
