use Rattle.std.proofs.Common.{◌≡◌, cond, refl, ap, ◌∙◌, arith}
use Rattle.nio_audit.proofs.Owing.{due_of-removed}
use Rattle.std.proofs.lemmas.Result.{on_ok_weaker}
use Rattle.nio_audit.specs.TableWords.{grid}
use Rattle.nio_audit.proofs.dues.Dues.remove.Goals as goal
use Rattle.nio_audit.proofs.dues.Dues.remove.Goals.{then-frees, else-frees}
use Rattle.nio_history.specs.State.{put_at}

pub returns-clause-due : goal.returns-clause-due
returns-clause-due c =
    let was = grid c.args.self.now.removed in
    let value : c.if-frees.set ≡ cond c.args.frees c.args.now (was c.args.sel.0 c.args.index) =
    elim c.if-frees.branch [ then-frees w ↦ grind arith | else-frees w ↦ grind arith ] in
    on_ok_weaker _
    (λ (written : grid c.set.new.self ≡ put_at was c.args.sel.0 c.args.index c.if-frees.set).
    due_of-removed _ _ _ _ c.args.now c.args.frees c.requires refl
    (written ∙ ap (put_at was c.args.sel.0 c.args.index) value))
    c.set.ensures
