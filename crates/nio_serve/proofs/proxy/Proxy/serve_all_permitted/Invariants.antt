use Rattle.std.proofs.Common.{◌≡◌}
use Rattle.nio_board.specs.Board.{IsSameSeat}
use Rattle.nio_serve.specs.Serving.{listener}
use Rattle.nio_serve.specs.Watching.{WatchesAll}
use Rattle.nio_serve.specs.Slots.{Serving}
use Rattle.nio_serve.proofs.Ways.{members}
use Rattle.nio_serve.proofs.proxy.Proxy.serve_all_permitted.Given as goal

abbrev pub invariant-loop : goal.invariant-loop
invariant-loop g l = record {
  serving : Serving (members g.W.Polls g.W.Way) l.fn.net l.net l.fn.self.connections l.self.connections;
  listens : g.W.Way.place l.net listener ≡ g.W.Way.place l.fn.net listener;
  port : l.self.port ≡ l.fn.self.port;
  seat : IsSameSeat l.fn.self.board l.self.board;
  watched : WatchesAll l.self.board l.self.connections;
}
