use Rattle.std.proofs.Common.{ap, ◌∙◌, deque_len, deque_capacity, List}
use Rattle.nio_group.specs.Group.{Group, IsMade}
use Rattle.nio_group.specs.Run as run
use Rattle.nio_deadline.specs.Deadlines.{Deadline}
use Rattle.nio_deadline.specs.Kept.{timed_of, without_job}
use Rattle.nio_group.specs.Steps.{after_close}
use Rattle.nio_deadline.proofs.QueueLemmas.{keeps-close}
use Rattle.nio_deadline.proofs.TimedLemmas.{kept-call, closed-deadlines}
use Rattle.nio_deadline.proofs.timed.TimedCore.close_channel.Goals as goal

pub invariant_of-self : goal.invariant_of-self
invariant_of-self c =
    let i = c.self.inside in
    let g : Group = i.core in
    let within : IsMade g c.args.chan = rw (← c.self.view_is) at c.requires in
    let same = c.remove_job-2.ensures ∙ ap (λ (ds : List Deadline). without_job c.job-2.result ds)
    c.remove_job.ensures
    ∙ closed-deadlines g c.args.chan i.deadlines c.job.result c.job-2.result c.self.invariant.lawful.group
    c.self.invariant.lawful.pending (record { some = c.job.ensures.some; none = c.job.ensures.none })
    (record { some = c.job-2.ensures.some; none = c.job-2.ensures.none }) in
    rw c.close_channel.ensures.after
    (kept-call (timed_of g i.deadlines i.timed_out.items i.kinds.items) (run.close_channel c.args.chan) _
    (deque_len i.timed_out)
    (deque_capacity i.timed_out) c.self.invariant within (keeps-close g c.args.chan) same)

pub returns-clause-after : goal.returns-clause-after
returns-clause-after c =
    let i = c.self.inside in
    let g : Group = i.core in
    let within : IsMade g c.args.chan = rw (← c.self.view_is) at c.requires in
    let same = c.remove_job-2.ensures ∙ ap (λ (ds : List Deadline). without_job c.job-2.result ds)
    c.remove_job.ensures
    ∙ closed-deadlines g c.args.chan i.deadlines c.job.result c.job-2.result c.self.invariant.lawful.group
    c.self.invariant.lawful.pending (record { some = c.job.ensures.some; none = c.job.ensures.none })
    (record { some = c.job-2.ensures.some; none = c.job-2.ensures.none }) in
    rw (← c.self.view_is)
    (rw c.close_channel.ensures.after (ap (λ (ds : List Deadline). timed_of
    (after_close g c.args.chan) ds i.timed_out.items i.kinds.items) same))
