use Rattle.std.proofs.Common.{◌≡◌, ◌≤◌}
use Rattle.nio_board.specs.Board.{IsSameBoard}
use Rattle.nio_serve.specs.Serving.{listener}
use Rattle.nio_reactor.specs.Accepting.{Accepts, Deals, IsAccepting}
use Rattle.nio_reactor.proofs.Nets.{members}
use Rattle.nio_reactor.proofs.accepting.deal_all.Given as goal

abbrev pub invariant-loop : goal.invariant-loop
invariant-loop g l = record {
  listens : g.N.Net.place l.net listener ≡ g.N.Net.place l.fn.net listener;
  accepting : IsAccepting (members g.N.Poller g.N.Net) l.number l.net;
  within : l.number ≤ l.conns;
  accepted : Accepts (members g.N.Poller g.N.Net)
      l.fn.number l.number l.fn.net l.net;
  dealt : Deals l.fn.number l.number l.fn.lines l.lines;
  board : IsSameBoard l.fn.board l.board;
}
