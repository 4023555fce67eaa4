use Rattle.std.proofs.Common.{ap, ◌∙◌, deque_len, deque_capacity, List}
use Rattle.nio_group.specs.Group.{Group}
use Rattle.nio_group.specs.Run as run
use Rattle.nio_group.proofs.RunLemmas.{lawful-after}
use Rattle.nio_deadline.specs.Deadlines.{Deadline}
use Rattle.nio_deadline.specs.Kept.{timed_of}
use Rattle.nio_group.specs.Steps.{after_shutdown_now}
use Rattle.nio_deadline.proofs.QueueLemmas.{keeps-shutdown_now}
use Rattle.nio_deadline.proofs.TimedLemmas.{kept-call, no-deadlines}
use Rattle.nio_deadline.proofs.timed.TimedCore.shutdown_now.Goals as goal

pub invariant_of-self : goal.invariant_of-self
invariant_of-self c =
    let i = c.self.inside in
    let g : Group = i.core in
    let lawful = lawful-after g run.shutdown_now c.self.invariant.lawful.group tt in
    let same = c.clear.ensures ∙ no-deadlines g i.deadlines lawful in
    rw c.shutdown_now.ensures
    (kept-call (timed_of g i.deadlines i.timed_out.items i.kinds.items) run.shutdown_now _ (deque_len i.timed_out)
    (deque_capacity i.timed_out) c.self.invariant tt (keeps-shutdown_now g) same)

pub returns : goal.returns
returns c =
    let i = c.self.inside in
    let g : Group = i.core in
    let lawful = lawful-after g run.shutdown_now c.self.invariant.lawful.group tt in
    let same = c.clear.ensures ∙ no-deadlines g i.deadlines lawful in
    rw (← c.self.view_is)
    (rw c.shutdown_now.ensures (ap (λ (ds : List Deadline). timed_of
    (after_shutdown_now g) ds i.timed_out.items i.kinds.items) same))
