use Rattle.std.proofs.Common.{◌≡◌, ◌+◌, ◌*◌}
use Rattle.nio_audit.specs.TableWords.{grid}
use Rattle.nio_audit.proofs.state.StateTables.touched_word.Given as goal
use Rattle.nio_history.specs.Answers.{bits_below}

abbrev pub invariant-loop-bit : goal.invariant-loop-bit
invariant-loop-bit l = l.word ≡ bits_below l.bit (λ b. grid l.self.touched l.sel.0 (64 * l.part + b))
