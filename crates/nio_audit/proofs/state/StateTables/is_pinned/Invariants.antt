use Rattle.std.proofs.Common.{◌≡◌, ℕ, ◌<◌, false}
use Rattle.nio_audit.specs.TableWords.{cube}
use Rattle.nio_audit.proofs.state.StateTables.is_pinned.Given as goal

abbrev pub invariant-loop-caller : goal.invariant-loop-caller
invariant-loop-caller l = (n : ℕ) → n < l.caller → cube l.self.pinned l.sel.0 l.index n ≡ false
