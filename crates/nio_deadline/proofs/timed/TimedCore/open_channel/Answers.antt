use Rattle.std.proofs.Common.{◌≡◌, ap, sym, ◌∙◌, refl, deque_len, deque_capacity, Result, Ok, Err, OnErr}
use Rattle.nio_base.specs.declared.numbers.GChan.{GChan}
use Rattle.nio_group.specs.declared.refusal.StartError.{StartError}
use Rattle.nio_group.specs.Group.{Group}
use Rattle.nio_group.proofs.MakingLemmas.{refused-open}
use Rattle.nio_group.specs.Run.{open_channel}
use Rattle.nio_group.specs.Steps.{after_open}
use Rattle.nio_deadline.specs.Kept.{timed_of}
use Rattle.nio_deadline.proofs.TimedLemmas.{all-stay, kept-call}
use Rattle.nio_deadline.proofs.PendingLemmas.{stays-open}
use Rattle.nio_deadline.proofs.QueueLemmas.{keeps-open}
use Rattle.nio_deadline.proofs.timed.TimedCore.open_channel.Goals as goal

pub invariant_of-self : goal.invariant_of-self
invariant_of-self c =
    let i = c.self.inside in
    let g : Group = i.core in
    rw c.open_channel.ensures.after
    (kept-call (timed_of g i.deadlines i.timed_out.items i.kinds.items) (open_channel c.args.kind) _
    (deque_len i.timed_out)
    (deque_capacity i.timed_out) c.self.invariant tt (keeps-open g c.args.kind)
    (all-stay g (after_open g c.args.kind) i.deadlines (stays-open g c.args.kind) c.self.invariant.lawful.pending))

pub returns-clause-after : goal.returns-clause-after
returns-clause-after c =
    let i = c.self.inside in
    let g : Group = i.core in
    rw (← c.self.view_is)
    (rw c.open_channel.ensures.after
    (ap (λ ds. timed_of (after_open g c.args.kind) ds i.timed_out.items i.kinds.items)
    (all-stay g (after_open g c.args.kind) i.deadlines (stays-open g c.args.kind) c.self.invariant.lawful.pending)))

pub returns-clause-refused : goal.returns-clause-refused
returns-clause-refused c =
    let i = c.self.inside in
    let g : Group = i.core in
    by_answer c.open_channel.result
    (λ e is. ap (λ (h : Group). timed_of h i.deadlines i.timed_out.items i.kinds.items)
    (c.open_channel.ensures.after ∙ refused-open g c.args.kind e (sym c.open_channel.ensures.answer ∙ is))
    ∙ c.self.view_is)
  where
    by_answer : {P : Type 0} (answer : Result GChan StartError) → ((e : StartError) → answer ≡ Err e → P)
        → OnErr answer P
    by_answer (Ok chan) holds = tt
    by_answer (Err e) holds = holds e refl
