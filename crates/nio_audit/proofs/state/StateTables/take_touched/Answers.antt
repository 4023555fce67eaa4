use Rattle.std.proofs.Common.{◌≡◌, ℕ, Bool, false, ◌+◌, ◌*◌, ap, ◌∙◌, arith}
use Rattle.nio_audit.proofs.Taking.{taken_before, taken-more, all-taken}
use Rattle.nio_audit.specs.StateOf.{state_with}
use Rattle.nio_audit.specs.TableWords.{grid}
use Rattle.nio_audit.proofs.state.StateTables.take_touched.Goals as goal
use Rattle.nio_history.specs.State.{State, with_touched}

-- the state with these touched indexes
abbrev touching : State → (ℕ → ℕ → Bool) → State
touching st touched = record st { touched = touched }

pub loop-bit-preserved : goal.loop-bit-preserved
loop-bit-preserved c = λ due.
    ap (touching (state_with c.loop-bit.self due)) c.in_ok-set.ensures
    ∙ (ap (λ st. with_touched st c.args.sel.0 (64 * c.args.part + c.loop-bit.bit) false) (c.loop-bit.invariant due)
    ∙ ap (touching (state_with c.args.self.now due))
    (taken-more (grid c.args.self.now.touched) c.args.sel.0 c.args.part c.loop-bit.bit c.loop-bit-test.true))

pub returns : goal.returns
returns c = λ me found due.
    let all : c.loop-bit.bit ≡ 64 = omega arith in
    c.loop-bit.invariant due
    ∙ (ap (λ (n : ℕ). touching (state_with c.args.self.now due)
    (taken_before (grid c.args.self.now.touched) c.args.sel.0 c.args.part n)) all
    ∙ ap (touching (state_with c.args.self.now due)) (all-taken (grid c.args.self.now.touched) c.args.sel.0 c.args.part))
