use Rattle.nio_pipe.specs.Idle.{HasBoth}
use Rattle.nio_table_tests.proofs.pipe.are_answered_at_ends.Given as goal

abbrev pub invariant-loop-call : goal.invariant-loop-call
invariant-loop-call l = HasBoth l.w l.p l.source l.sink
