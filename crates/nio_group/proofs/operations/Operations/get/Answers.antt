use Rattle.std.proofs.Common.{sym, ◌∙◌, ap}
use Rattle.std.specs.Option.{option_map}
use Rattle.nio_group.specs.Kept.{operation_in}
use Rattle.nio_group.specs.declared.operations.Numbered.{Numbered}
use Rattle.nio_group.proofs.KeptLemmas.{kept-at}
use Rattle.nio_group.proofs.operations.Operations.get.Goals as goal

pub returns-in_err-key : goal.returns-in_err-key
returns-in_err-key c =
    rw (c.from_residual.ensures, ← c.self.view_is)
    (sym (kept-at c.args.number c.self.invariant ∙ ap (operation_in c.self.inside.slab) (sym c.in_err-key.ensures)))

pub returns-in_err-numbered : goal.returns-in_err-numbered
returns-in_err-numbered c =
    rw (c.from_residual-in_err-numbered.ensures, ← c.self.view_is)
    (sym (kept-at c.args.number c.self.invariant ∙ ap (operation_in c.self.inside.slab) (sym c.in_ok-key.ensures)
    ∙ ap (option_map (λ (x : Numbered). x.operation)) (sym c.in_err-numbered.ensures)))

pub returns : goal.returns
returns c =
    rw (← c.self.view_is)
    (sym (kept-at c.args.number c.self.invariant ∙ ap (operation_in c.self.inside.slab) (sym c.in_ok-key.ensures)
    ∙ ap (option_map (λ (x : Numbered). x.operation)) (sym c.in_ok-numbered.ensures)))
