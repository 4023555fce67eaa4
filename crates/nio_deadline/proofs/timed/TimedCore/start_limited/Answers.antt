use Rattle.std.proofs.Common.{◌≡◌, ◌≤◌, ◌+◌, List, true, ap, refl, ◌∙◌, arith, length, deque_len, deque_capacity}
use Rattle.nio_group.specs.Flight.{accepted}
use Rattle.nio_group.specs.Group.{Group, IsMade, is_open}
use Rattle.nio_group.specs.Refusals.{start_refusal}
use Rattle.nio_group.specs.Steps.{after_start}
use Rattle.nio_deadline.specs.Deadlines.{Deadline, with_deadline, without}
use Rattle.nio_deadline.specs.Kept.{timed_of, IsAboveAll}
use Rattle.nio_deadline.specs.Steps.{with_limit}
use Rattle.nio_deadline.specs.Timed.{Timed, with_group}
use Rattle.nio_deadline.proofs.StartLemmas.{kept-limited, kept-room, refused-group, refused-limit, with-limit}
use Rattle.nio_deadline.proofs.StartLemmas.{without-inserted}
use Rattle.nio_deadline.proofs.TimedLemmas.{above-all, err-refused, ok-free}
use Rattle.nio_deadline.proofs.timed.TimedCore.start_limited.Goals as goal

pub insert-requires : goal.insert-requires
insert-requires c =
    let i = c.self.inside in
    rw c.accepted-op.ensures (above-all i.core i.deadlines c.self.invariant.lawful.pending)

pub invariant_of-self-in-Ok : goal.invariant_of-self-in-Ok
invariant_of-self-in-Ok c =
    let i = c.self.inside in
    let g : Group = i.core in
    let within : IsMade g c.args.chan = rw (← c.self.view_is) at c.requires.made in
    let opened : is_open g c.args.chan ≡ true = rw (← c.self.view_is) at c.requires.is_open in
    let free = ok-free (start_refusal g c.args.chan c.args.kind) (record { 0 = accepted g.flight }) c.in-Ok.op
    c.in-Ok.ensures.answer in
    let fits : deque_len i.timed_out + (length i.deadlines + 1) ≤ deque_capacity c.reserve.new.self = omega
    (arith, c.in_ok-reserve.ensures.ok, c.reserve.ensures.len, c.len.ensures.is) in
    rw (c.start.ensures.after, c.in_ok-insert.ensures.ok, c.accepted-op.ensures, c.reserve.ensures.items)
    (kept-limited (timed_of g i.deadlines i.timed_out.items i.kinds.items) c.args.chan c.args.kind c.args.len
    c.args.at
    (deque_len i.timed_out) (deque_len c.reserve.new.self) (deque_capacity i.timed_out)
    (deque_capacity c.reserve.new.self) c.self.invariant within free opened c.requires.some c.requires.limited
    c.reserve.ensures.len fits)

pub returns-in-Ok-clause-after : goal.returns-in-Ok-clause-after
returns-in-Ok-clause-after c = λ apart.
    let i = c.self.inside in
    let g : Group = i.core in
    let t : Timed = timed_of g i.deadlines i.timed_out.items i.kinds.items in
    let opened : is_open g c.args.chan ≡ true = rw (← c.self.view_is) at c.requires.is_open in
    let free = ok-free (start_refusal g c.args.chan c.args.kind) (record { 0 = accepted g.flight }) c.in-Ok.op
    c.in-Ok.ensures.answer in
    let made : timed_of c.start.new.self c.insert.new.self c.reserve.new.self.items i.kinds.items
    ≡ timed_of (after_start g c.args.chan c.args.kind c.args.len)
    (with_deadline (record { at = c.args.at; op = accepted g.flight; chan = c.args.chan; kind = c.args.kind })
    i.deadlines) i.timed_out.items i.kinds.items =
    rw (c.start.ensures.after, c.in_ok-insert.ensures.ok, c.accepted-op.ensures, c.reserve.ensures.items) refl in
    made
    ∙ with-limit t c.args.chan c.args.kind c.args.len c.args.at c.self.invariant.lawful free opened c.requires.some
    c.requires.limited
    ∙ ap
    (λ (x : Timed).
    with_limit x c.args.chan c.args.kind c.args.at (with_group x
    (after_start x.group c.args.chan c.args.kind c.args.len)))
    c.self.view_is

pub invariant_of-self-in-Err : goal.invariant_of-self-in-Err
invariant_of-self-in-Err c =
    let i = c.self.inside in
    let g : Group = i.core in
    let refused = err-refused (start_refusal g c.args.chan c.args.kind) (record { 0 = accepted g.flight })
    c.in-Err.refused c.in-Err.ensures.answer in
    let group = c.start.ensures.after ∙ refused-group g c.args.chan c.args.kind c.args.len c.in-Err.refused refused in
    let above : IsAboveAll c.accepted-op.result i.deadlines =
    rw c.accepted-op.ensures (above-all g i.deadlines c.self.invariant.lawful.pending) in
    let gone = c.remove.ensures ∙ ap (λ (ds : List Deadline). without c.accepted-op.result ds)
    c.in_ok-insert.ensures.ok
    ∙ without-inserted (record {
      at = c.args.at;
      op = c.accepted-op.result;
      chan = c.args.chan;
      kind = c.args.kind;
    }) i.deadlines above in
    rw (group, gone, c.reserve.ensures.items)
    (kept-room (timed_of g i.deadlines i.timed_out.items i.kinds.items) (deque_len i.timed_out)
    (deque_len c.reserve.new.self) (deque_capacity i.timed_out) (deque_capacity c.reserve.new.self) c.self.invariant
    c.reserve.ensures.len c.reserve.ensures.capacity)

pub returns-in-Err-clause-after : goal.returns-in-Err-clause-after
returns-in-Err-clause-after c = λ apart.
    let i = c.self.inside in
    let g : Group = i.core in
    let t : Timed = timed_of g i.deadlines i.timed_out.items i.kinds.items in
    let refused = err-refused (start_refusal g c.args.chan c.args.kind) (record { 0 = accepted g.flight })
    c.in-Err.refused c.in-Err.ensures.answer in
    let group = c.start.ensures.after ∙ refused-group g c.args.chan c.args.kind c.args.len c.in-Err.refused refused in
    let above : IsAboveAll c.accepted-op.result i.deadlines =
    rw c.accepted-op.ensures (above-all g i.deadlines c.self.invariant.lawful.pending) in
    let gone = c.remove.ensures ∙ ap (λ (ds : List Deadline). without c.accepted-op.result ds)
    c.in_ok-insert.ensures.ok
    ∙ without-inserted (record {
      at = c.args.at;
      op = c.accepted-op.result;
      chan = c.args.chan;
      kind = c.args.kind;
    }) i.deadlines above in
    let made : timed_of c.start.new.self c.remove.new.self c.reserve.new.self.items i.kinds.items ≡ t =
    rw (group, gone, c.reserve.ensures.items) refl in
    made
    ∙ refused-limit t c.args.chan c.args.kind c.args.len c.args.at c.in-Err.refused c.self.invariant.lawful refused
    ∙ ap
    (λ (x : Timed).
    with_limit x c.args.chan c.args.kind c.args.at (with_group x
    (after_start x.group c.args.chan c.args.kind c.args.len)))
    c.self.view_is

pub returns-in-Err-clause-refused : goal.returns-in-Err-clause-refused
returns-in-Err-clause-refused c =
    let i = c.self.inside in
    let g : Group = i.core in
    let t : Timed = timed_of g i.deadlines i.timed_out.items i.kinds.items in
    let refused = err-refused (start_refusal g c.args.chan c.args.kind) (record { 0 = accepted g.flight })
    c.in-Err.refused c.in-Err.ensures.answer in
    let group = c.start.ensures.after ∙ refused-group g c.args.chan c.args.kind c.args.len c.in-Err.refused refused in
    let above : IsAboveAll c.accepted-op.result i.deadlines =
    rw c.accepted-op.ensures (above-all g i.deadlines c.self.invariant.lawful.pending) in
    let gone = c.remove.ensures ∙ ap (λ (ds : List Deadline). without c.accepted-op.result ds)
    c.in_ok-insert.ensures.ok
    ∙ without-inserted (record {
      at = c.args.at;
      op = c.accepted-op.result;
      chan = c.args.chan;
      kind = c.args.kind;
    }) i.deadlines above in
    let made : timed_of c.start.new.self c.remove.new.self c.reserve.new.self.items i.kinds.items ≡ t =
    rw (group, gone, c.reserve.ensures.items) refl in
    made ∙ c.self.view_is
