use Rattle.std.proofs.Common.{◌≡◌, ap, sym, ◌∙◌, deque_len, deque_capacity, length, Some, None, ℕ, List}
use Rattle.nio_group.specs.Completion.{CompletionFields}
use Rattle.nio_group.specs.Steps.{answer_to_take}
use Rattle.nio_deadline.specs.Kept.{timed_of}
use Rattle.nio_deadline.specs.Timed.{Timed}
use Rattle.nio_deadline.proofs.TakeLemmas.{kept-take, late-first, nothing-same, taken-nothing, taken-one}
use Rattle.nio_base.specs.declared.numbers.OpNo.{OpNo}
use Rattle.nio_group.specs.Group.{Group}
use Rattle.nio_group.specs.Steps as group_steps
use Rattle.nio_deadline.specs.Steps.{after_take, without_number}
use Rattle.nio_deadline.proofs.timed.TimedCore.take.Goals as goal

pub invariant_of-self : goal.invariant_of-self
invariant_of-self c =
    let i = c.self.inside in
    let none : answer_to_take i.core ≡ None = sym c.in_err-completion.ensures.answer in
    rw (c.take.ensures.after, nothing-same i.core c.self.invariant.lawful.group none) c.self.invariant

pub returns-in_err-completion-clause-after : goal.returns-in_err-completion-clause-after
returns-in_err-completion-clause-after c =
    let i = c.self.inside in
    let none : answer_to_take i.core ≡ None = sym c.in_err-completion.ensures.answer in
    ap (λ (g : Group). timed_of g i.deadlines i.timed_out.items i.kinds.items) c.take.ensures.after
    ∙ taken-nothing (timed_of i.core i.deadlines i.timed_out.items i.kinds.items) c.self.invariant.lawful none
    ∙ ap (λ (t : Timed). after_take t) c.self.view_is

pub take_late-requires : goal.take_late-requires
take_late-requires c =
    let i = c.self.inside in
    let some : answer_to_take i.core ≡ Some c.in_ok-completion.completion = sym c.in_ok-completion.ensures.answer in
    rw c.op-op.ensures
    (late-first (timed_of i.core i.deadlines i.timed_out.items i.kinds.items) c.in_ok-completion.completion
    c.self.invariant.lawful some)

pub invariant_of-self-2 : goal.invariant_of-self-2
invariant_of-self-2 c =
    let i = c.self.inside in
    let x : CompletionFields = c.in_ok-completion.completion in
    let some : answer_to_take i.core ≡ Some x = sym c.in_ok-completion.ensures.answer in
    let gone : c.take_late.new.timed_out.items ≡ without_number x.op.0 i.timed_out.items =
    c.take_late.ensures.after
    ∙ ap (λ (o : OpNo). without_number o.0 i.timed_out.items) c.op-op.ensures in
    let counted = c.take_late.ensures.fewer c.self.invariant.counted ∙ ap length gone in
    rw (c.take.ensures.after, gone)
    (kept-take (timed_of i.core i.deadlines i.timed_out.items i.kinds.items) x (deque_len i.timed_out)
    (deque_len c.take_late.new.timed_out) (deque_capacity i.timed_out) (deque_capacity c.take_late.new.timed_out)
    c.self.invariant some counted c.take_late.ensures.room)

pub returns-clause-after : goal.returns-clause-after
returns-clause-after c =
    let i = c.self.inside in
    let x : CompletionFields = c.in_ok-completion.completion in
    let some : answer_to_take i.core ≡ Some x = sym c.in_ok-completion.ensures.answer in
    let gone : c.take_late.new.timed_out.items ≡ without_number x.op.0 i.timed_out.items =
    c.take_late.ensures.after
    ∙ ap (λ (o : OpNo). without_number o.0 i.timed_out.items) c.op-op.ensures in
    ap (λ (g : Group). timed_of g i.deadlines c.take_late.new.timed_out.items i.kinds.items) c.take.ensures.after
    ∙ ap (λ (ms : List ℕ). timed_of (group_steps.after_take i.core) i.deadlines ms i.kinds.items) gone
    ∙ taken-one (timed_of i.core i.deadlines i.timed_out.items i.kinds.items) x c.self.invariant.lawful some
    ∙ ap (λ (t : Timed). after_take t) c.self.view_is
