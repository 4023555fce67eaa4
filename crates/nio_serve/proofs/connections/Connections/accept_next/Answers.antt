use Rattle.std.proofs.Common.{◌≡◌, ◌∙◌, Option, false, ap, is_err, is_some, refl, subst, sym}
use Rattle.std.proofs.lemmas.Bool.{both_ways, false_from_ne_true}
use Rattle.nio_base.specs.declared.numbers.ChanId.{ChanId}
use Rattle.nio_link.specs.Links.{IsUnused}
use Rattle.nio_link.specs.Places.{IsFree}
use Rattle.nio_serve.specs.Changes.{Occupies}
use Rattle.nio_serve.specs.Serving.{target_of}
use Rattle.nio_serve.specs.declared.connections.Connections.{Connections}
use Rattle.nio_serve.specs.declared.relay.Relay.{Relay}
use Rattle.nio_serve.specs.declared.spare.Spare.{Spare}
use Rattle.nio_serve.proofs.Slotting.{next_few, next_of, serving_next, serving_unaccepted}
use Rattle.nio_serve.proofs.Watching.{board_none, watching_added, watching_dropped, watching_kept, where_done}
use Rattle.nio_serve.proofs.Ways.{members}
use Rattle.nio_serve.proofs.connections.Connections.accept_next.Goals as goal

-- which slot was taken doesn't hang on the spare buffers
occupies_of : (client : ChanId) (relay : Option Relay) (before : Connections) (spare : Spare) (now : Connections)
    → Occupies client relay (record before { spare = spare }) now → Occupies client relay before now
occupies_of client relay before spare now o = record {
  j = o.j;
  idle = o.idle;
  free = o.free;
  slot = o.slot;
  others = o.others;
  plan = record { conns = o.plan.conns; target = o.plan.target };
  more = o.more;
  clients = o.clients;
  ended = o.ended;
  faulted = o.faulted;
}

pub links_of-links-requires : goal.links_of-links-requires
links_of-links-requires g c =
    record { few = (next_few c.args.self.now c.in-Some.slot c.requires.served c.in-Some.ensures).0 }

pub accept-requires-clause-free : goal.accept-requires-clause-free
accept-requires-clause-free g c =
    let next = next_of (g.W.Way.link c.args.net.now) (g.W.Way.place c.args.net.now) c.args.self.now c.in-Some.slot
    c.index.result.now c.requires.served c.in-Some.ensures c.index.ensures in
    subst (λ (x : ChanId). IsFree (g.W.Way.place c.args.net.now) x) (sym c.links_of-links.ensures.client) next.free

pub take_on-relay-requires : goal.take_on-relay-requires
take_on-relay-requires g c =
    let next = next_of (g.W.Way.link c.args.net.now) (g.W.Way.place c.args.net.now) c.args.self.now c.in-Some.slot
    c.index.result.now c.requires.served c.in-Some.ensures c.index.ensures in
    let links = c.links_of-links.result in
    let accepts = c.in-Ok-true.ensures.begun c.in-Ok-true.field-0-test in
    record {
      new = c.open_relay-opened.ensures.new;
      apart = c.links_of-links.ensures.apart;
      client_unused = subst IsUnused (sym (accepts.links links.client))
          (subst (λ (x : ChanId). IsUnused (g.W.Way.link c.args.net.now x)) (sym c.links_of-links.ensures.client)
          next.untouched.client.no_bytes);
      target_unused = subst IsUnused (sym (accepts.links links.target))
          (subst (λ (x : ChanId). IsUnused (g.W.Way.link c.args.net.now x)) (sym c.links_of-links.ensures.target)
          next.untouched.target.no_bytes);
      accepted = c.in-Ok-true.ensures.accepted c.in-Ok-true.field-0-test;
      unasked = accepts.places links.target (λ same. c.links_of-links.ensures.apart.0 (sym same))
          ∙ ap (g.W.Way.place c.args.net.now) c.links_of-links.ensures.target ∙ next.untouched.target.unasked;
    }

pub returns-then-is_dropped-clause-serving : goal.returns-then-is_dropped-clause-serving
returns-then-is_dropped-clause-serving g c =
    let links = c.links_of-links.result in
    let taken = c.take_on-relay.ensures in
    serving_next (members g.W.Polls g.W.Way) c.in-Some.slot c.index.result.now links.client links.target
    c.take_on-relay.result c.args.net.now c.accept.new.net c.take_on-relay.new.net c.args.self.now c.occupy.new.self
    c.requires.served c.in-Some.ensures c.index.ensures c.links_of-links.ensures.client c.links_of-links.ensures.target
    c.requires.few (c.in-Ok-true.ensures.begun c.in-Ok-true.field-0-test) taken.begins taken.status taken.calm
    taken.accepted (occupies_of links.client c.take_on-relay.result c.args.self.now c.open_relay-opened.new.spare
    c.occupy.new.self c.occupy.ensures)

pub returns-then-is_dropped-clause-watching : goal.returns-then-is_dropped-clause-watching
returns-then-is_dropped-clause-watching g c =
    let links = c.links_of-links in
    watching_dropped _ c.args.self.now c.occupy.new.self links.result c.open_relay-opened.ensures.seat c.requires.watched
    c.occupy.ensures.clients (links.ensures.target ∙ ap target_of (sym links.ensures.client))
    c.open_relay-opened.ensures.within refl

pub returns-else-is_dropped-clause-serving : goal.returns-else-is_dropped-clause-serving
returns-else-is_dropped-clause-serving g c =
    let links = c.links_of-links.result in
    let taken = c.take_on-relay.ensures in
    serving_next (members g.W.Polls g.W.Way) c.in-Some.slot c.index.result.now links.client links.target
    c.take_on-relay.result c.args.net.now c.accept.new.net c.take_on-relay.new.net c.args.self.now c.occupy.new.self
    c.requires.served c.in-Some.ensures c.index.ensures c.links_of-links.ensures.client c.links_of-links.ensures.target
    c.requires.few (c.in-Ok-true.ensures.begun c.in-Ok-true.field-0-test) taken.begins taken.status taken.calm
    taken.accepted (occupies_of links.client c.take_on-relay.result c.args.self.now c.open_relay-opened.new.spare
    c.occupy.new.self c.occupy.ensures)

pub returns-else-is_dropped-clause-watching : goal.returns-else-is_dropped-clause-watching
returns-else-is_dropped-clause-watching g c =
    let links = c.links_of-links in
    let opened : is_err c.open_relay-opened.result ≡ false =
    false_from_ne_true (is_err c.open_relay-opened.result) (λ failed.
    both_ways (is_some c.take_on-relay.result) (c.take_on-relay.ensures.dropped.1 failed) c.if-is_dropped.ensures) in
    watching_added _ c.args.self.now c.occupy.new.self links.result c.open_relay-opened.ensures.seat c.requires.watched
    c.occupy.ensures.clients (links.ensures.target ∙ ap target_of (sym links.ensures.client))
    (where_done c.open_relay-opened.result opened c.open_relay-opened.ensures.watched)

pub returns-in-Err-clause-serving : goal.returns-in-Err-clause-serving
returns-in-Err-clause-serving g c =
    serving_unaccepted (members g.W.Polls g.W.Way) c.args.net.now c.accept.new.net c.args.self.now c.requires.served
    c.in-Err.ensures.failed

pub returns-in-Err-clause-watching : goal.returns-in-Err-clause-watching
returns-in-Err-clause-watching g c =
    watching_kept _ c.args.self.now c.args.self.now (board_none _) refl c.requires.watched
