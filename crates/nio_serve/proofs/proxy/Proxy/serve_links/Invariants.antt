use Rattle.std.proofs.Common.{◌≡◌, ◌≤◌}
use Rattle.nio_base.specs.declared.numbers.ChanNo.{ChanNo}
use Rattle.nio_board.specs.Board.{IsSameSeat}
use Rattle.nio_serve.specs.Serving.{listener}
use Rattle.nio_serve.specs.Watching.{WatchesAll}
use Rattle.nio_serve.specs.Slots.{Serving}
use Rattle.nio_serve.proofs.Ways.{members}
use Rattle.nio_serve.proofs.proxy.Proxy.serve_links.Given as goal

abbrev pub invariant-loop-index : goal.invariant-loop-index
invariant-loop-index g l = record {
  serving : Serving (members g.W.Polls g.W.Way) l.fn.net l.net l.fn.self.connections l.self.connections;
  listens : g.W.Way.place l.net listener ≡ g.W.Way.place l.fn.net listener;
  port : l.self.port ≡ l.fn.self.port;
  some : 1 ≤ l.unserved;
  ready : (c : ChanNo) → l.unserved ≤ c.0 → g.W.Polls.ready l.net c ≡ g.W.Polls.ready l.fn.net c;
  accepts : g.W.Polls.ready l.net listener.number ≡ g.W.Polls.ready l.fn.net listener.number;
  seat : IsSameSeat l.fn.self.board l.self.board;
  watched : WatchesAll l.self.board l.self.connections;
}
