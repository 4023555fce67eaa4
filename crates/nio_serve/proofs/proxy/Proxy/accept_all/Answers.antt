use Rattle.std.proofs.Common.{◌∙◌, rules}
use Rattle.nio_serve.proofs.Slotting.{serving_then}
use Rattle.nio_serve.proofs.Watching.{seat_then}
use Rattle.nio_serve.proofs.Ways.{members}
use Rattle.nio_serve.proofs.proxy.Proxy.accept_all.Goals as goal

pub returns-then-not-branch-clause-serving : goal.returns-then-not-branch-clause-serving
returns-then-not-branch-clause-serving g c =
    serving_then (members g.W.Polls g.W.Way) _ _ _ _ _ _ c.loop.invariant.serving c.accept_one.ensures.serving

pub loop-preserved : goal.loop-preserved
loop-preserved g c = record {
  serving = serving_then (members g.W.Polls g.W.Way) _ _ _ _ _ _ c.loop.invariant.serving c.accept_one.ensures.serving;
  listens = c.accept_one.ensures.listens ∙ c.loop.invariant.listens;
  port = c.accept_one.ensures.port ∙ c.loop.invariant.port;
  accepts = search rules;
  seat = seat_then c.loop.invariant.seat c.accept_one.ensures.watching.seat;
  watched = search rules;
}

pub returns-else-not-branch-clause-serving : goal.returns-else-not-branch-clause-serving
returns-else-not-branch-clause-serving g c =
    serving_then (members g.W.Polls g.W.Way) _ _ _ _ _ _ c.loop.invariant.serving c.accept_one.ensures.serving
