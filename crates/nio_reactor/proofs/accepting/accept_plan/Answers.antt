use Rattle.std.proofs.Common.{◌≤◌, [], ◌∷◌, ◌++◌, inr, sym, ap, subst, ◌∙◌, arith}
use Rattle.nio_link.specs.Nets.{view_of}
use Rattle.nio_link.specs.declared.place.Place.{Place}
use Rattle.nio_serve.proofs.Promise.{fresh_still, listen_role}
use Rattle.nio_serve.proofs.Watching.{on_ok_any, seat_then}
use Rattle.nio_serve.proofs.Working.{vacant_after_close}
use Rattle.nio_serve.specs.Serving.{listener}
use Rattle.nio_reactor.proofs.Asked.{accepting_first, accepts_none, accepts_then, left}
use Rattle.nio_reactor.proofs.Concluding.{left_none}
use Rattle.nio_reactor.proofs.Nets.{members}
use Rattle.nio_reactor.specs.Accepting.{IsAccepting}
use Rattle.nio_reactor.proofs.accepting.accept_plan.Goals as goal

pub returns-then-is_err-clause-leaves : goal.returns-then-is_err-clause-leaves
returns-then-is_err-clause-leaves g c =
    left_none (members g.N.Poller g.N.Net) c.args.plan c.args.number.now c.args.net.now c.listen.new.self c.requires.none
    (fresh_still (view_of (members g.N.Poller g.N.Net) c.args.net.now)
    (view_of (members g.N.Poller g.N.Net) c.listen.new.self) listener c.args.plan.listen c.listen.result
    c.if-is_err.ensures.value c.listen.ensures c.requires.fresh) c.listen.ensures.links

pub deal_all-outcome-requires-clause-accepting : goal.deal_all-outcome-requires-clause-accepting
deal_all-outcome-requires-clause-accepting g c κs within =
    subst (λ n. IsAccepting (members g.N.Poller g.N.Net) n c.listen.new.self) (sym c.requires.none)
    (accepting_first (members g.N.Poller g.N.Net) c.args.net.now c.listen.new.self c.requires.fresh
    c.listen.ensures.links c.listen.ensures.places)

pub returns-clause-accepted : goal.returns-clause-accepted
returns-clause-accepted g c =
    let later : g.N.Net.faults c.deal_all-outcome.new.net listener ≤ g.N.Net.faults c.close.new.self listener
    = omega (arith, c.close.ensures.faults listener) in
    accepts_then _ c.args.number.now c.args.number.now c.deal_all-outcome.new.number c.args.net.now
    c.listen.new.self c.close.new.self
    (accepts_none _ c.args.number.now c.args.net.now c.listen.new.self c.listen.ensures.links
    c.listen.ensures.accepted c.listen.ensures.cause.later (omega (arith, c.listen.ensures.polls)))
    (accepts_then _ c.args.number.now c.deal_all-outcome.new.number c.deal_all-outcome.new.number
    c.listen.new.self c.deal_all-outcome.new.net c.close.new.self c.deal_all-outcome.ensures.accepted
    (accepts_none _ c.deal_all-outcome.new.number c.deal_all-outcome.new.net c.close.new.self
    c.close.ensures.links c.close.ensures.accepted later (omega (arith, c.close.ensures.polls))))

pub returns-clause-leaves : goal.returns-clause-leaves
returns-clause-leaves g c =
    left (members g.N.Poller g.N.Net) c.args.plan c.deal_all-outcome.new.number c.args.net.now
    c.deal_all-outcome.new.net c.close.new.self
    c.deal_all-outcome.ensures.accepting
    (λ k. c.deal_all-outcome.ensures.accepted.links k ∙ c.listen.ensures.links k) c.close.ensures.links
    (λ k other. c.close.ensures.places k other) (vacant_after_close _ _ c.close.ensures.place)
    (inr (ap (λ (p : Place). p.role) c.close.ensures.place
    ∙ (ap (λ (p : Place). p.role) c.deal_all-outcome.ensures.listens
    ∙ listen_role c.listen.result c.args.plan.listen _ _ c.if-is_err.ensures.value c.listen.ensures.place)))

pub returns-clause-seat : goal.returns-clause-seat
returns-clause-seat g c =
    seat_then c.watch.ensures.seat c.deal_all-outcome.ensures.board.seat

pub returns-clause-registered : goal.returns-clause-registered
returns-clause-registered g c =
    on_ok_any c.deal_all-outcome.result
    (c.deal_all-outcome.ensures.board.registered
    ∙ (c.in-Ok.ensures.more ∙ ap (λ l. l ++ listener ∷ []) c.requires.unregistered))
