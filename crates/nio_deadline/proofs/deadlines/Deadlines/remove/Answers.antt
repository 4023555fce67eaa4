use Rattle.std.proofs.Common.{ap, sym, ◌∙◌}
use Rattle.nio_deadline.specs.Kept.{deadlines_of}
use Rattle.nio_deadline.proofs.DeadlineLemmas.{kept-without, removed-none, removed-some}
use Rattle.nio_deadline.proofs.deadlines.Deadlines.remove.Goals as goal

pub invariant_of-self : goal.invariant_of-self
invariant_of-self c =
    let i = c.self.inside in
    let gone = ap deadlines_of c.remove-in-Some.ensures.entries
    ∙ removed-some i.moments c.args.op c.in-Some.at i.in_order.entries (sym c.in-Some.ensures.value)
    c.self.invariant.in_order c.self.invariant.have_moments in
    rw gone
    (kept-without i.moments c.remove.new.self c.args.op (deadlines_of i.in_order.entries) c.remove.ensures.updates.2
    c.self.invariant)

pub invariant_of-self-in_default : goal.invariant_of-self-in_default
invariant_of-self-in_default c =
    let i = c.self.inside in
    let same = removed-none i.moments c.args.op (deadlines_of i.in_order.entries) (sym c.in_default.ensures.value)
    c.self.invariant.have_moments in
    rw same
    (kept-without i.moments c.remove.new.self c.args.op (deadlines_of i.in_order.entries) c.remove.ensures.updates.2
    c.self.invariant)

pub returns-in-Some : goal.returns-in-Some
returns-in-Some c =
    let i = c.self.inside in
    rw (← c.self.view_is)
    (ap deadlines_of c.remove-in-Some.ensures.entries
    ∙ removed-some i.moments c.args.op c.in-Some.at i.in_order.entries (sym c.in-Some.ensures.value)
    c.self.invariant.in_order c.self.invariant.have_moments)

pub returns-in_default : goal.returns-in_default
returns-in_default c =
    let i = c.self.inside in
    rw (← c.self.view_is)
    (removed-none i.moments c.args.op (deadlines_of i.in_order.entries) (sym c.in_default.ensures.value)
    c.self.invariant.have_moments)
