use Rattle.std.proofs.Common.{◌≡◌}
use Rattle.nio_audit.specs.TableWords.{row}
use Rattle.nio_audit.proofs.state.StateTables.selectors_word.Given as goal
use Rattle.nio_history.specs.Answers.{bits_below}

abbrev pub invariant-loop-bit : goal.invariant-loop-bit
invariant-loop-bit l = l.word ≡ bits_below l.bit (row l.self.selector)
