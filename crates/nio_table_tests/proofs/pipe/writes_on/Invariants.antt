use Rattle.nio_pipe.specs.Idle.{MayUse}
use Rattle.nio_channel.specs.Idle.{one}
use Rattle.nio_table_tests.proofs.pipe.writes_on.Given as goal

abbrev pub invariant-loop : goal.invariant-loop
invariant-loop g l = MayUse l.w l.q one l.sink.source l.sink.chan
