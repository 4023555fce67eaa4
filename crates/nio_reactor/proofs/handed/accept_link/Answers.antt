use Rattle.std.proofs.Common.{refl, ap, ◌∙◌}
use Rattle.nio_link.proofs.Channels.{all_same, channel_is_or_not}
use Rattle.nio_link.specs.declared.place.Place.{Place}
use Rattle.nio_link.specs.declared.place.Standing.TheVariants as standing
use Rattle.nio_reactor.proofs.Asked.{accepting_one, accepting_still, came, next_free, not_come, on_err_any}
use Rattle.nio_reactor.proofs.Nets.{members}
use Rattle.nio_reactor.specs.Accepting.{client_at}
use Rattle.nio_reactor.proofs.handed.accept_link.Goals as goal

pub accept-requires : goal.accept-requires
accept-requires g c = record {
  ready = c.requires.ready;
  listens = c.requires.listens;
  free = next_free (members g.N.Poller g.N.Net) c.args.number c.args.net.now (client_at c.args.number)
      c.requires.accepting refl;
}

pub returns-in_err-accept-clause-failing : goal.returns-in_err-accept-clause-failing
returns-in_err-accept-clause-failing g c =
    on_err_any _
    (accepting_still (members g.N.Poller g.N.Net) c.args.number c.args.net.now c.accept.new.self c.requires.accepting
    c.accept.ensures.links
    (λ k other. all_same channel_is_or_not _ _ _ c.in_err-accept.ensures.place c.accept.ensures.places k))

pub returns-then-not-branch-clause-early : goal.returns-then-not-branch-clause-early
returns-then-not-branch-clause-early g c = λ no.
    accepting_still _ c.args.number _ _ c.requires.accepting c.accept.ensures.links
    (λ k other. all_same channel_is_or_not _ _ _
    (not_come c.in_ok-accept.field-0 _ _ c.if-not-branch.true c.in_ok-accept.ensures.place) c.accept.ensures.places k)

pub returns-clause-come : goal.returns-clause-come
returns-clause-come g c = λ yes.
    accepting_one _ c.args.number (client_at c.args.number) _ _ refl c.requires.accepting
    (λ k. c.take_out.ensures.links k ∙ c.accept.ensures.links k)
    (c.in-Some.ensures.place
    ∙ ap (λ (p : Place). let q : Place = record { role = p.role; standing = standing.Gone } in q)
    (came c.in_ok-accept.field-0 _ _ c.if-not-branch.false c.in_ok-accept.ensures.place))
    (λ k other. c.take_out.ensures.places k other ∙ c.accept.ensures.places k other)
