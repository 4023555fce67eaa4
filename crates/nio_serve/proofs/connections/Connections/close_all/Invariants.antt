use Rattle.std.proofs.Common.{◌≡◌, ℕ, ◌<◌}
use Rattle.nio_serve.specs.Nets.{IsQuiet}
use Rattle.nio_serve.specs.Serving.{listener}
use Rattle.nio_serve.specs.Slots.{AreClosed}
use Rattle.nio_serve.proofs.Ways.{members}
use Rattle.nio_serve.proofs.connections.Connections.close_all.Given as goal

abbrev pub invariant-loop-number : goal.invariant-loop-number
invariant-loop-number g l = record {
  quiet : IsQuiet (members g.W.Polls g.W.Way) l.fn.net l.net;
  closed : (j s : ℕ) → j < l.number → AreClosed j s (g.W.Way.place l.net);
  listens : g.W.Way.place l.net listener ≡ g.W.Way.place l.fn.net listener;
}
