use Rattle.std.proofs.Common.{◌≡◌}
use Rattle.nio_board.specs.Board.{IsSameSeat}
use Rattle.nio_serve.specs.Serving.{listener}
use Rattle.nio_serve.specs.Watching.{WatchesAll}
use Rattle.nio_serve.specs.Slots.{ListensAt, Serving}
use Rattle.nio_serve.proofs.Ways.{members}
use Rattle.nio_serve.proofs.proxy.Proxy.serve.Given as goal

abbrev pub invariant-loop : goal.invariant-loop
invariant-loop g l = record {
  serving : Serving (members g.W.Polls g.W.Way) l.fn.net l.net l.fn.self.connections l.self.connections;
  listens : ListensAt l.self.port (g.W.Way.place l.net listener).standing;
  role : (g.W.Way.place l.net listener).role ≡ (g.W.Way.place l.fn.net listener).role;
  seat : IsSameSeat l.fn.self.board l.self.board;
  watched : WatchesAll l.self.board l.self.connections;
}
