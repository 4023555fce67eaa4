use Rattle.std.proofs.Common.{◌∙◌, rules}
use Rattle.nio_serve.proofs.Slotting.{serving_then}
use Rattle.nio_serve.proofs.Watching.{seat_then}
use Rattle.nio_serve.proofs.Ways.{members}
use Rattle.nio_serve.proofs.proxy.Proxy.serve_all_permitted.Goals as goal

pub loop-preserved : goal.loop-preserved
loop-preserved g c = record {
  serving = serving_then (members g.W.Polls g.W.Way) _ _ _ _ _ _ c.loop.invariant.serving c.serve_permitted.ensures.serving;
  listens = c.serve_permitted.ensures.listens ∙ c.loop.invariant.listens;
  port = c.serve_permitted.ensures.port ∙ c.loop.invariant.port;
  seat = seat_then c.loop.invariant.seat c.serve_permitted.ensures.watching.seat;
  watched = search rules;
}
