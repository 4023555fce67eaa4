use Rattle.std.proofs.Common.{◌≡◌, IsTrue}
use Rattle.nio_base.specs.Ops.{is_within}
use Rattle.nio_serve.specs.Nets.{Works}
use Rattle.nio_serve.specs.Relaying.{KeepsSink, SameSource}
use Rattle.nio_serve.proofs.Ways.{members}
use Rattle.nio_serve.proofs.link.write_all.Given as goal

abbrev pub invariant-loop : goal.invariant-loop
invariant-loop g l = record {
  sink : KeepsSink l.fn.incoming l.incoming (g.W.Way.link l.fn.net l.own) (g.W.Way.place l.fn.net l.own)
      (g.W.Way.link l.net l.own) (g.W.Way.place l.net l.own);
  source : SameSource l.fn.incoming l.incoming;
  work : Works (members g.W.Polls g.W.Way) l.own l.own l.fn.net l.net;
  stands : g.W.Way.place l.net l.own ≡ g.W.Way.place l.fn.net l.own;
  shut : l.incoming.shut ≡ l.fn.incoming.shut;
  read : IsTrue (is_within 1 (g.W.Polls.ready l.fn.net l.own.number)) → IsTrue (is_within 1 (g.W.Polls.ready l.net l.own.number));
  calm : g.W.Way.faults l.net l.own ≡ g.W.Way.faults l.fn.net l.own;
  ready : IsTrue (is_within 4 (g.W.Polls.ready l.net l.own.number));
}
