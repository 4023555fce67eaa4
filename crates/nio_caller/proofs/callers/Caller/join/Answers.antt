use Rattle.std.proofs.Common.{ap, sym, ◌∙◌}
use Rattle.nio_caller.proofs.Parting.{acting_joined, both_join, has_other, has_still}
use Rattle.nio_caller.specs.Callers.{Acting}
use Rattle.nio_caller.proofs.callers.Caller.join.Goals as goal

pub invariant_of-self : goal.invariant_of-self
invariant_of-self g c =
    let same = ap (λ (x : Acting). x.table) c.other.view_is
    ∙ (c.requires ∙ sym (ap (λ (x : Acting). x.table) c.self.view_is)) in
    acting_joined _ _ _ c.words.ensures same c.self.inside.pass c.other.inside.pass c.join.new.p c.self.inside.number
    c.other.inside.number c.self.invariant.may c.other.invariant.may c.join.ensures c.self.inside.lists
    c.self.inside.progress c.self.invariant.lists c.self.invariant.goes_on

pub returns-clause-joins : goal.returns-clause-joins
returns-clause-joins g c =
    let same = ap (λ (x : Acting). x.table) c.other.view_is
    ∙ (c.requires ∙ sym (ap (λ (x : Acting). x.table) c.self.view_is)) in
    rw (← c.self.view_is, ← c.other.view_is)
    (both_join _ _ _ c.words.ensures same c.self.inside.pass c.other.inside.pass c.join.new.p c.self.inside.number
    c.other.inside.number c.self.invariant.may c.other.invariant.may c.join.ensures)

pub returns-clause-still : goal.returns-clause-still
returns-clause-still g c =
    let same = ap (λ (x : Acting). x.table) c.other.view_is
    ∙ (c.requires ∙ sym (ap (λ (x : Acting). x.table) c.self.view_is)) in
    rw (← c.self.view_is)
    (has_still _ _ _ c.words.ensures same c.self.inside.pass c.other.inside.pass c.join.new.p c.self.inside.number
    c.other.inside.number c.self.invariant.may c.other.invariant.may c.join.ensures)

pub returns-clause-other : goal.returns-clause-other
returns-clause-other g c =
    let same = ap (λ (x : Acting). x.table) c.other.view_is
    ∙ (c.requires ∙ sym (ap (λ (x : Acting). x.table) c.self.view_is)) in
    rw (← c.other.view_is)
    (has_other _ _ _ c.words.ensures same c.self.inside.pass c.other.inside.pass c.join.new.p c.self.inside.number
    c.other.inside.number c.self.invariant.may c.other.invariant.may c.join.ensures)
