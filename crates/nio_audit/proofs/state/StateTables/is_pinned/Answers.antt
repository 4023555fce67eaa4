use Rattle.std.proofs.Common.{◌≡◌, Bool, true, false, refl, sym, arith, ◌∙◌}
use Rattle.nio_audit.specs.StateOf.{state_with}
use Rattle.nio_audit.proofs.state.StateTables.is_pinned.Goals as goal
use Rattle.nio_history.proofs.Counts.{pinned_by, pinned_by_nobody}
use Rattle.nio_history.specs.Answers.{is_pinned}

true_by : (b : Bool) → (b ≡ false → ⊥) → true ≡ b
true_by true h = refl
true_by false h = absurd (h refl)

pub returns-then-get : goal.returns-then-get
returns-then-get c = λ due.
    let st = state_with c.args.self.now due in
    true_by (is_pinned st c.args.sel.0 c.args.index)
    (pinned_by st c.args.sel.0 c.args.index c.loop-caller.caller c.loop-caller-test.true
    (sym c.get.ensures ∙ c.if-get.true))

pub returns : goal.returns
returns c =
    λ due. sym
    (pinned_by_nobody (state_with c.args.self.now due) c.args.sel.0 c.args.index
    (λ n below. c.loop-caller.invariant n (omega arith)))
