use Rattle.std.proofs.Common.{refl, sym, arith}
use Rattle.nio_deadline.specs.Deadlines.{AreInOrder}
use Rattle.nio_deadline.proofs.DeadlineLemmas.{kept-tail, none-due}
use Rattle.nio_deadline.proofs.deadlines.Deadlines.pop_due.Goals as goal

pub returns-then-branch-now-clause-none : goal.returns-then-branch-now-clause-none
returns-then-branch-now-clause-none c =
    let order : AreInOrder c.args.self.now = rw (← c.self.view_is) c.self.invariant.in_order in
    (refl, none-due c.args.now c.in_ok-first.field-0 c.args.self.now order (sym c.in_ok-first.ensures) (omega arith))

pub invariant_of-self-2 : goal.invariant_of-self-2
invariant_of-self-2 c =
    let i = c.self.inside in
    kept-tail i.moments c.remove.new.self (c.in_ok-moment.moment, c.in_ok-moment.place) i.in_order.entries
    c.pop_first.new.self.entries c.in_ok-moment.ensures.removal c.remove.ensures.updates.2 c.self.invariant
