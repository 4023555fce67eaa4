use Rattle.std.proofs.Common.{◌≡◌, ℕ, Bool}
use Rattle.nio_audit.proofs.Taking.{taken_before}
use Rattle.nio_audit.specs.StateOf.{state_with}
use Rattle.nio_audit.specs.TableWords.{grid}
use Rattle.nio_audit.proofs.state.StateTables.take_touched.Given as goal

abbrev pub invariant-loop-bit : goal.invariant-loop-bit
invariant-loop-bit l =
    (due : ℕ → ℕ → Bool) → state_with l.self due
    ≡ record (state_with l.initial.self due) {
      touched = taken_before (grid l.initial.self.touched) l.sel.0 l.part l.bit;
    }
