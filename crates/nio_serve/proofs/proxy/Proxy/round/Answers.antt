use Rattle.std.proofs.Common.{inl, inr}
use Rattle.nio_serve.proofs.Slotting.{serving_then}
use Rattle.nio_serve.proofs.Watching.{seat_then, watching_then}
use Rattle.nio_serve.proofs.Working.{rose_from}
use Rattle.nio_serve.proofs.Ways.{members}
use Rattle.nio_serve.proofs.proxy.Proxy.round.Goals as goal

pub returns-then-is_err-2-clause-serving : goal.returns-then-is_err-2-clause-serving
returns-then-is_err-2-clause-serving g c =
    serving_then (members g.W.Polls g.W.Way) _ _ _ _ _ _ c.prepare-prepared.ensures.serving c.select-selected.ensures.serving

pub returns-then-is_err-2-clause-cause : goal.returns-then-is_err-2-clause-cause
returns-then-is_err-2-clause-cause g c failed =
    inl (rose_from _ _ _ c.prepare-prepared.ensures.serving.polls (c.select-selected.ensures.cause failed))

pub returns-clause-serving : goal.returns-clause-serving
returns-clause-serving g c =
    serving_then (members g.W.Polls g.W.Way) _ _ _ _ _ _
    (serving_then (members g.W.Polls g.W.Way) _ _ _ _ _ _ c.prepare-prepared.ensures.serving c.select-selected.ensures.serving)
    c.serve_all.ensures.serving

pub returns-clause-cause : goal.returns-clause-cause
returns-clause-cause g c failed =
    let before = serving_then (members g.W.Polls g.W.Way) _ _ _ _ _ _ c.prepare-prepared.ensures.serving
    c.select-selected.ensures.serving in
    inr (rose_from _ _ _ (before.later _) (c.serve_all.ensures.cause failed))

pub returns-then-is_err-2-clause-watching : goal.returns-then-is_err-2-clause-watching
returns-then-is_err-2-clause-watching g c =
    watching_then c.prepare-prepared.ensures.watching.seat c.select-selected.ensures.watching

pub returns-clause-watching : goal.returns-clause-watching
returns-clause-watching g c =
    watching_then (seat_then c.prepare-prepared.ensures.watching.seat c.select-selected.ensures.watching.seat)
    c.serve_all.ensures.watching
