use Rattle.nio_channel.specs.Idle.{zero}
use Rattle.nio_pipe.specs.Idle.{MayUse}
use Rattle.nio_table_tests.proofs.pipe.are_answered.Given as goal

abbrev pub invariant-loop-call : goal.invariant-loop-call
invariant-loop-call l = MayUse l.w l.p zero l.pipe.source l.pipe.sink
