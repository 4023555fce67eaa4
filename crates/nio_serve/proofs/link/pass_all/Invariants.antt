use Rattle.std.proofs.Common.{◌≡◌, [], IsTrue}
use Rattle.nio_relay.specs.Flow.{buffered}
use Rattle.nio_base.specs.Ops.{is_within}
use Rattle.nio_serve.specs.Passing.{BothSame, Passes}
use Rattle.nio_serve.proofs.Ways.{members}
use Rattle.nio_serve.proofs.link.pass_all.Given as goal

abbrev pub invariant-loop : goal.invariant-loop
invariant-loop g l = record {
  passes : Passes (members g.W.Polls g.W.Way) l.source l.sink l.fn.direction l.direction l.fn.net l.net;
  calm : BothSame (g.W.Way.faults l.fn.net) (g.W.Way.faults l.net) l.source l.sink;
  read : IsTrue (is_within 1 (g.W.Polls.ready l.net l.source.number));
  write : IsTrue (is_within 4 (g.W.Polls.ready l.net l.sink.number));
  none_buffered : buffered l.direction ≡ [];
}
