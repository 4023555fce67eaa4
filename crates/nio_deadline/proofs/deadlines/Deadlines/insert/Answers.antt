use Rattle.std.proofs.Common.{ℕ, List, ap, ◌∙◌}
use Rattle.std.specs.BTreeMap.{is_at}
use Rattle.std.specs.Map.{lookup}
use Rattle.std.specs.Ordering.{nat_cmp}
use Rattle.nio_deadline.specs.Kept.{deadline_of, deadlines_of, IsAboveAll}
use Rattle.nio_deadline.proofs.DeadlineLemmas.{inserted, kept-others, kept-inserted}
use Rattle.nio_deadline.proofs.deadlines.Deadlines.insert.Goals as goal

pub invariant_of-self : goal.invariant_of-self
invariant_of-self c =
    let i = c.self.inside in
    let above : IsAboveAll c.args.moment.op (deadlines_of i.in_order.entries) = rw (← c.self.view_is) at c.requires in
    kept-others i.moments c.insert.new.self c.args.moment.op (deadlines_of i.in_order.entries)
    (λ q apart. ap (λ (es : List (ℕ × ℕ)). lookup (is_at (nat_cmp q)) es) c.in_err-insert.ensures.err) above
    c.self.invariant

pub invariant_of-self-in-Err : goal.invariant_of-self-in-Err
invariant_of-self-in-Err c =
    let i = c.self.inside in
    let above : IsAboveAll c.args.moment.op (deadlines_of i.in_order.entries) = rw (← c.self.view_is) at c.requires in
    rw c.in-Err.ensures.err
    (kept-others i.moments c.remove.new.self c.args.moment.op (deadlines_of i.in_order.entries)
    (λ q apart. c.remove.ensures.updates.2 q apart ∙ c.in_ok-insert.ensures.updates.2 q apart) above c.self.invariant)

pub invariant_of-self-in_default : goal.invariant_of-self-in_default
invariant_of-self-in_default c =
    let i = c.self.inside in
    let above : IsAboveAll c.args.moment.op (deadlines_of i.in_order.entries) = rw (← c.self.view_is) at c.requires in
    rw (ap deadlines_of c.in_default.ensures.entries ∙ inserted c.args.moment c.args.place i.in_order.entries above)
    (kept-inserted i.moments c.insert.new.self (deadline_of (c.args.moment, c.args.place))
    (deadlines_of i.in_order.entries) c.in_ok-insert.ensures.updates.2 c.in_ok-insert.ensures.updates.1 above
    c.self.invariant)

pub returns-clause-ok : goal.returns-clause-ok
returns-clause-ok c =
    let i = c.self.inside in
    let above : IsAboveAll c.args.moment.op (deadlines_of i.in_order.entries) = rw (← c.self.view_is) at c.requires in
    rw (← c.self.view_is)
    (ap deadlines_of c.in_default.ensures.entries ∙ inserted c.args.moment c.args.place i.in_order.entries above)
