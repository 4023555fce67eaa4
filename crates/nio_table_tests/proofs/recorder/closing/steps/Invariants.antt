use Rattle.nio_record.specs.Recorded.{IsRecorded}
use Rattle.nio_table_tests.proofs.recorder.closing.steps.Given as goal

abbrev pub invariant-loop-act : goal.invariant-loop-act
invariant-loop-act l = IsRecorded l.r
