use Rattle.nio_pipe.specs.Ends.{IsSameSource}
use Rattle.nio_pipe.specs.Idle.{MayUse}
use Rattle.nio_table_tests.proofs.pipe.reads_all.Given as goal

abbrev pub invariant-loop : goal.invariant-loop
invariant-loop l = record {
  may : MayUse l.w l.p l.me l.source.chan l.other;
  same : IsSameSource l.fn.source l.source;
}
