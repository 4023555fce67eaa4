use Rattle.nio_serve.proofs.Slotting.{serving_then}
use Rattle.nio_serve.proofs.Watching.{watching_then}
use Rattle.nio_serve.proofs.Ways.{members}
use Rattle.nio_serve.proofs.proxy.Proxy.serve_permitted.Goals as goal

pub returns-in-Ok-clause-serving : goal.returns-in-Ok-clause-serving
returns-in-Ok-clause-serving g c =
    serving_then (members g.W.Polls g.W.Way) _ _ _ _ _ _ c.begin.ensures.serving c.serve_slot.ensures.serving

pub returns-in-Ok-clause-watching : goal.returns-in-Ok-clause-watching
returns-in-Ok-clause-watching g c = watching_then c.begin.ensures.board.seat c.serve_slot.ensures.watching
