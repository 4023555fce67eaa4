use Rattle.std.proofs.Common.{refl, sym, subst}
use Rattle.nio_poller.proofs.Marks.{within_trans}
use Rattle.nio_board.specs.Board.{AreReady}
use Rattle.nio_reactor.proofs.Asked.{accepting_still}
use Rattle.nio_reactor.proofs.accepting.round.Goals as goal

pub returns-in-Err-Fault-clause-accepting : goal.returns-in-Err-Fault-clause-accepting
returns-in-Err-Fault-clause-accepting g c =
    accepting_still _ c.args.number.now c.args.net.now c.select.new.net c.requires.accepting
    (g.met.N.Net.kept_links _ _ c.select.ensures.kept) (λ k other. g.met.N.Net.kept_places _ _ c.select.ensures.kept k)

pub returns-in-Err-Memory-clause-accepting : goal.returns-in-Err-Memory-clause-accepting
returns-in-Err-Memory-clause-accepting g c =
    accepting_still _ c.args.number.now c.args.net.now c.select.new.net c.requires.accepting
    (g.met.N.Net.kept_links _ _ c.select.ensures.kept) (λ k other. g.met.N.Net.kept_places _ _ c.select.ensures.kept k)

pub accept_come-requires-clause-ready : goal.accept_come-requires-clause-ready
accept_come-requires-clause-ready g c κs within =
    within_trans 16 c.told_of.result _ (c.if-within.ensures.0 refl)
    (c.told_of.ensures (g.N.Poller.ready c.select.new.net)
    (subst (AreReady (g.N.Poller.ready c.select.new.net)) (sym c.deref.ensures.value) c.in-Ok.ensures.ready))

pub accept_come-requires-clause-accepting : goal.accept_come-requires-clause-accepting
accept_come-requires-clause-accepting g c κs within =
    accepting_still _ c.args.number.now c.args.net.now c.select.new.net c.requires.accepting
    (g.met.N.Net.kept_links _ _ c.select.ensures.kept) (λ k other. g.met.N.Net.kept_places _ _ c.select.ensures.kept k)

pub returns-else-within-clause-accepting : goal.returns-else-within-clause-accepting
returns-else-within-clause-accepting g c =
    accepting_still _ c.args.number.now c.args.net.now c.select.new.net c.requires.accepting
    (g.met.N.Net.kept_links _ _ c.select.ensures.kept) (λ k other. g.met.N.Net.kept_places _ _ c.select.ensures.kept k)
