use Rattle.nio_pipe.specs.Idle.{HasBoth}
use Rattle.nio_table_tests.proofs.pipe.a_pipe_is_parted_with_bytes_in_it.Given as goal

abbrev pub invariant-loop-told : goal.invariant-loop-told
invariant-loop-told g l = HasBoth l.words l.p l.source l.sink
