use Rattle.nio_pipe.specs.Idle.{MayUse}
use Rattle.nio_channel.specs.Idle.{zero}
use Rattle.nio_table_tests.proofs.pipe.reads_on.Given as goal

abbrev pub invariant-loop : goal.invariant-loop
invariant-loop g l = MayUse l.w l.p zero l.source.chan l.fn.other
