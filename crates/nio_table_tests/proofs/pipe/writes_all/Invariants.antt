use Rattle.std.proofs.Common.{◌≤◌}
use Rattle.nio_pipe.specs.Ends.{IsSameSink}
use Rattle.nio_pipe.specs.Idle.{MayUse}
use Rattle.nio_table_tests.proofs.pipe.writes_all.Given as goal

abbrev pub invariant-loop : goal.invariant-loop
invariant-loop l = record {
  may : MayUse l.w l.p l.me l.sink.source l.sink.chan;
  same : IsSameSink l.fn.sink l.sink;
  few : l.sent ≤ 200000;
}
