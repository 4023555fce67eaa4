use Rattle.std.proofs.Common.{Option, IsSome, sym, ◌∙◌, ap, subst, refl}
use Rattle.nio_group.specs.declared.operation.Operation.{Operation}
use Rattle.nio_group.specs.declared.operations.Numbered.{Numbered}
use Rattle.nio_group.specs.Kept.{operation_in}
use Rattle.nio_group.proofs.KeptLemmas.{kept-at, kept-has, kept-replaces, is_kept-replaces, updates-with_value}
use Rattle.nio_group.proofs.KeptLemmas.{slab_len-with_value, not_some}
use Rattle.nio_group.proofs.operations.Operations.replace.Goals as goal

pub index_mut-requires : goal.index_mut-requires
index_mut-requires c = kept-has c.args.number c.in-Some.key c.self.invariant (sym c.in-Some.ensures)

pub invariant_of-self : goal.invariant_of-self
invariant_of-self c =
    let at = sym c.in-Some.ensures in
    let has = kept-has c.args.number c.in-Some.key c.self.invariant at in
    let x : Numbered = record { number = c.args.number; operation = c.args.operation } in
    is_kept-replaces c.args.number c.in-Some.key c.args.operation c.self.invariant at
    (updates-with_value c.self.inside.slab c.in-Some.key x has)
    (slab_len-with_value c.self.inside.slab c.in-Some.key x has) refl

pub returns-in-Some : goal.returns-in-Some
returns-in-Some c =
    let at = sym c.in-Some.ensures in
    let has = kept-has c.args.number c.in-Some.key c.self.invariant at in
    let x : Numbered = record { number = c.args.number; operation = c.args.operation } in
    rw (← c.self.view_is)
    (ap (λ xs. record { operations = xs; limit = c.self.inside.limit })
    (kept-replaces c.args.number c.in-Some.key c.args.operation c.self.invariant at
    (updates-with_value c.self.inside.slab c.in-Some.key x has)))

pub returns-in_default : goal.returns-in_default
returns-in_default c =
    let none = kept-at c.args.number c.self.invariant ∙ ap (operation_in c.self.inside.slab)
    (sym c.in_default.ensures) in
    let some = rw (← c.self.view_is) at c.requires in
    absurd (not_some Operation (subst (λ (o : Option Operation). IsSome o) none some))
