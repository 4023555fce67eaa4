use Rattle.std.proofs.Common.{arith}
use Rattle.nio_serve.proofs.Slotting.{serving_alone, serving_freed, serving_then}
use Rattle.nio_serve.proofs.Ways.{members}
use Rattle.nio_serve.proofs.proxy.Proxy.select.Goals as goal

pub returns-in-Ok-clause-serving : goal.returns-in-Ok-clause-serving
returns-in-Ok-clause-serving g c =
    let n = members g.W.Polls g.W.Way in
    let kept = c.select.ensures.kept in
    let faults = g.met.W.Way.kept_faults _ _ kept in
    let alone = serving_alone n _ _ _ c.requires.served (g.met.W.Way.kept_links _ _ kept)
    (λ k _. g.met.W.Way.kept_places _ _ kept k) (λ k _. faults k) (λ k. omega (arith, faults k))
    c.select.ensures.cause.later (g.met.W.Way.kept_accepted _ _ kept) in
    serving_then n c.args.net.now c.select.new.net c.select.new.net c.args.self.now.connections
    c.args.self.now.connections c.release.new.self alone
    (serving_freed n c.select.new.net c.args.self.now.connections c.release.new.self alone.served c.release.ensures)

pub returns-in-Err-Fault-clause-serving : goal.returns-in-Err-Fault-clause-serving
returns-in-Err-Fault-clause-serving g c =
    let n = members g.W.Polls g.W.Way in
    let kept = c.select.ensures.kept in
    let faults = g.met.W.Way.kept_faults _ _ kept in
    serving_alone n _ _ _ c.requires.served (g.met.W.Way.kept_links _ _ kept) (λ k _. g.met.W.Way.kept_places _ _ kept k)
    (λ k _. faults k) (λ k. omega (arith, faults k)) c.select.ensures.cause.later
    (g.met.W.Way.kept_accepted _ _ kept)

pub returns-in-Err-Memory-clause-serving : goal.returns-in-Err-Memory-clause-serving
returns-in-Err-Memory-clause-serving g c =
    let n = members g.W.Polls g.W.Way in
    let kept = c.select.ensures.kept in
    let faults = g.met.W.Way.kept_faults _ _ kept in
    serving_alone n _ _ _ c.requires.served (g.met.W.Way.kept_links _ _ kept) (λ k _. g.met.W.Way.kept_places _ _ kept k)
    (λ k _. faults k) (λ k. omega (arith, faults k)) c.select.ensures.cause.later
    (g.met.W.Way.kept_accepted _ _ kept)
