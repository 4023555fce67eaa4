use Rattle.std.proofs.Common.{◌≡◌, List, ap, refl, ◌∙◌, deque_len, deque_capacity, get_or, set}
use Rattle.std.proofs.lemmas.List.{get_or_read}
use Rattle.nio_deadline.specs.Deadlines.{Deadline}
use Rattle.nio_deadline.specs.Kept.{timed_of, deadline_of}
use Rattle.nio_deadline.specs.Steps.{with_timeout}
use Rattle.nio_deadline.specs.Timed.{Timed, kinds_of, no_kinds, with_kind}
use Rattle.nio_deadline.specs.declared.kinds.Kinds.{Kinds}
use Rattle.nio_deadline.proofs.ExpireLemmas.{kept-timeout, timeout-deadlines, within-kinds}
use Rattle.nio_deadline.proofs.timed.TimedCore.expire_first.Goals as goal

pub invariant_of-self-2 : goal.invariant_of-self-2
invariant_of-self-2 c =
    let i = c.self.inside in
    let t : Timed = timed_of i.core i.deadlines i.timed_out.items i.kinds.items in
    let some = c.in-Some.ensures.some in
    let d : Deadline = deadline_of (record { at = some.0; op = c.in-Some.op }, c.in-Some.place) in
    let within = within-kinds t d c.pop_due.new.self c.self.invariant.lawful some.2 in
    let kinds : c.with.result
    ≡ with_kind (kinds_of c.in-Some.place.chan.serial (get_or i.kinds.items c.in-Some.place.chan.number no_kinds))
    c.in-Some.place.kind =
    c.with.ensures
    ∙ ap (λ (k : Kinds). with_kind k c.in-Some.place.kind) c.of.ensures
    ∙ ap (λ (k : Kinds). with_kind (kinds_of c.in-Some.place.chan.serial k) c.in-Some.place.kind)
    (get_or_read i.kinds.items c.in-Some.place.chan.number c.index.result.now within c.index.ensures no_kinds) in
    rw (
      c.report.ensures.after,
      timeout-deadlines t d c.pop_due.new.self c.self.invariant.lawful some.2,
      c.push_back_reserved.ensures.items,
      kinds,
      c.push_back_reserved.ensures.capacity,
    )
    (kept-timeout t d c.pop_due.new.self (deque_len i.timed_out) (deque_len c.push_back_reserved.new.self)
    (deque_capacity i.timed_out) c.self.invariant some.2 c.push_back_reserved.ensures.len)

pub returns-clause-done : goal.returns-clause-done
returns-clause-done c = λ done.
    let i = c.self.inside in
    let t : Timed = timed_of i.core i.deadlines i.timed_out.items i.kinds.items in
    let some = c.in-Some.ensures.some in
    let d : Deadline = deadline_of (record { at = some.0; op = c.in-Some.op }, c.in-Some.place) in
    let within = within-kinds t d c.pop_due.new.self c.self.invariant.lawful some.2 in
    let kinds : c.with.result
    ≡ with_kind (kinds_of c.in-Some.place.chan.serial (get_or i.kinds.items c.in-Some.place.chan.number no_kinds))
    c.in-Some.place.kind =
    c.with.ensures
    ∙ ap (λ (k : Kinds). with_kind k c.in-Some.place.kind) c.of.ensures
    ∙ ap (λ (k : Kinds). with_kind (kinds_of c.in-Some.place.chan.serial k) c.in-Some.place.kind)
    (get_or_read i.kinds.items c.in-Some.place.chan.number c.index.result.now within c.index.ensures no_kinds) in
    let made : timed_of c.report.new.self c.pop_due.new.self c.push_back_reserved.new.self.items
    (set i.kinds.items c.in-Some.place.chan.number c.with.result) ≡ with_timeout t d =
    rw (c.report.ensures.after, c.push_back_reserved.ensures.items, kinds)
    (ap (λ (ds : List Deadline). record (with_timeout t d) { deadlines = ds })
    (timeout-deadlines t d c.pop_due.new.self c.self.invariant.lawful some.2)) in
    record {
      first = d;
      later = c.pop_due.new.self;
      is = rw (← c.self.view_is) some.2;
      has_come = some.1;
      leaves = made ∙ ap (λ (x : Timed). with_timeout x d) c.self.view_is;
      keeps = refl;
    }
