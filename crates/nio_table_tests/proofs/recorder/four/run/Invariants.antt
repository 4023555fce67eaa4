use Rattle.nio_record.specs.Recorded.{IsRecorded}
use Rattle.nio_table_tests.proofs.recorder.four.run.Given as goal

abbrev pub invariant-loop : goal.invariant-loop
invariant-loop l = IsRecorded l.r
