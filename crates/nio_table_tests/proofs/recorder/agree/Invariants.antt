use Rattle.nio_record.specs.Recorded.{IsRecorded}
use Rattle.nio_table_tests.proofs.recorder.agree.Given as goal

abbrev pub invariant-loop-at : goal.invariant-loop-at
invariant-loop-at l = IsRecorded l.r
