use Rattle.std.proofs.Common.{◌≡◌, IsTrue}
use Rattle.nio_base.specs.Ops.{is_within}
use Rattle.nio_serve.specs.Serving.{listener}
use Rattle.nio_reactor.specs.Accepting.{Accepts, Deals, IsAccepting}
use Rattle.nio_reactor.proofs.Nets.{members}
use Rattle.nio_reactor.proofs.accepting.accept_come.Given as goal

abbrev pub invariant-loop-next : goal.invariant-loop-next
invariant-loop-next g l = record {
  ready : IsTrue (is_within 16 (g.N.Poller.ready l.net listener.number));
  listens : g.N.Net.place l.net listener ≡ g.N.Net.place l.fn.net listener;
  accepting : IsAccepting (members g.N.Poller g.N.Net) l.next l.net;
  number : l.number ≡ l.next;
  accepted : Accepts (members g.N.Poller g.N.Net)
      l.fn.number l.number l.fn.net l.net;
  dealt : Deals l.fn.number l.number l.fn.lines l.lines;
}
