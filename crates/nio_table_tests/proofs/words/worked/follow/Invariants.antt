use Rattle.std.proofs.Common.{◌+◌}
use Rattle.nio_table_tests.specs.Following.{Follows}
use Rattle.nio_table_tests.proofs.words.worked.follow.Given as goal

abbrev pub invariant-loop-step : goal.invariant-loop-step
invariant-loop-step g l = Follows l.w (l._from + l.step-index) l.p
