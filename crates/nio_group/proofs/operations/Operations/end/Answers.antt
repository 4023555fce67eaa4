use Rattle.std.proofs.Common.{Option, IsSome, sym, ◌∙◌, ap, subst}
use Rattle.nio_group.specs.declared.operation.Operation.{Operation}
use Rattle.nio_group.specs.Kept.{operation_in}
use Rattle.nio_group.proofs.KeptLemmas.{kept-at, kept-has, kept-ends, is_kept-ends, not_some}
use Rattle.nio_group.proofs.operations.Operations.end.Goals as goal

pub remove-requires : goal.remove-requires
remove-requires c = kept-has c.args.number c.in-Some.key c.self.invariant (sym c.in-Some.ensures)

pub invariant_of-self : goal.invariant_of-self
invariant_of-self c =
    let slot = c.remove.ensures in
    let gone = c.remove-in-Some.ensures in
    is_kept-ends c.args.number c.in-Some.key c.self.invariant
    (sym c.in-Some.ensures) slot.updates gone.changes slot.len gone.count slot.capacity gone.limit

pub returns-in-Some : goal.returns-in-Some
returns-in-Some c =
    rw (← c.self.view_is)
    (ap (λ xs. record { operations = xs; limit = c.self.inside.limit })
    (kept-ends c.args.number c.in-Some.key c.self.invariant (sym c.in-Some.ensures) c.remove.ensures.updates
    c.remove-in-Some.ensures.changes))

pub returns-in_default : goal.returns-in_default
returns-in_default c =
    let none = kept-at c.args.number c.self.invariant ∙ ap (operation_in c.self.inside.slab)
    (sym c.in_default.ensures) in
    let some = rw (← c.self.view_is) at c.requires in
    absurd (not_some Operation (subst (λ (o : Option Operation). IsSome o) none some))
