use Rattle.std.proofs.Common.{◌∙◌, IsTrue, ap, arith, subst, sym}
use Rattle.nio_base.specs.Ops.{is_within}
use Rattle.nio_base.specs.declared.numbers.ChanId.{ChanId}
use Rattle.nio_serve.specs.Serving.{listener}
use Rattle.nio_serve.specs.Slots.{client_at, target_at}
use Rattle.nio_serve.proofs.Followed.{faulted_followed, roles_followed, status_followed}
use Rattle.nio_serve.proofs.Slotting.{fewer_counted, live_is, serial_read, serving_told, taken_of}
use Rattle.nio_serve.proofs.Statuses.{client_listener, serial_of, status_live, target_listener}
use Rattle.nio_serve.proofs.Ways.{members}
use Rattle.nio_serve.proofs.connections.Connections.serve.Goals as goal

pub serve-ended-requires-clause-ready : goal.serve-ended-requires-clause-ready
serve-ended-requires-clause-ready g c =
    let ready = g.W.Polls.ready c.args.net.now in
    let ops = c.args.told.ops in
    record {
      client = subst (λ (x : ChanId). IsTrue (is_within ops.client (ready x.number))) (sym c.links_of-links.ensures.client)
          c.requires.ready.client;
      target = subst (λ (x : ChanId). IsTrue (is_within ops.target (ready x.number))) (sym c.links_of-links.ensures.target)
          c.requires.ready.target;
    }

pub serve-ended-requires-clause-relaying : goal.serve-ended-requires-clause-relaying
serve-ended-requires-clause-relaying g c =
    let slot = c.args.told.slot in
    let links = c.links_of-links.result in
    let taken = taken_of slot c.in-Some.relay c.args.self.now c.take.new.self c.requires.served c.in-Some.ensures in
    let serial = serial_read slot c.in-Some.relay c.args.self.now c.take.new.self taken c.index.result.now c.index.ensures
    in
    let live = live_is (members g.W.Polls g.W.Way) slot c.in-Some.relay links.client links.target c.args.net.now
    c.args.self.now c.take.new.self c.requires.served taken
    (c.links_of-links.ensures.client ∙ ap (client_at slot) serial)
    (c.links_of-links.ensures.target ∙ ap (target_at slot) serial) in
    live.is_status.relaying

pub go_on-requires : goal.go_on-requires
go_on-requires g c =
    let slot = c.args.told.slot in
    let taken = taken_of slot c.in-Some.relay c.args.self.now c.take.new.self c.requires.served c.in-Some.ensures in
    let counts = fewer_counted slot (serial_of taken.slot) c.in-Some.relay c.requires.served
    (status_live c.args.self.now.slots.items slot taken.slot c.in-Some.relay taken.at taken.relay) in
    record {
      within = omega (arith, taken.within, taken.takes.others.length);
      few = omega (arith, counts.0, taken.takes.moved.ended);
      few_faulted = omega (arith, counts.1, taken.takes.moved.faulted);
    }

pub returns-clause-serving : goal.returns-clause-serving
returns-clause-serving g c =
    let n = members g.W.Polls g.W.Way in
    let slot = c.args.told.slot in
    let links = c.links_of-links.result in
    let taken = taken_of slot c.in-Some.relay c.args.self.now c.take.new.self c.requires.served c.in-Some.ensures in
    let serial = serial_read slot c.in-Some.relay c.args.self.now c.take.new.self taken c.index.result.now c.index.ensures
    in
    let told = c.serve-ended.ensures in
    let goes = c.go_on.ensures.goes in
    let relay = c.serve-ended.new.self in
    let followed = goes.followed in
    let ended = c.serve-ended.result in
    serving_told n slot c.in-Some.relay followed ended links.client links.target c.args.net.now c.serve-ended.new.net
    c.args.self.now c.take.new.self c.go_on.new.self c.requires.served taken
    (c.links_of-links.ensures.client ∙ ap (client_at slot) serial)
    (c.links_of-links.ensures.target ∙ ap (target_at slot) serial) goes.puts told.work
    (status_followed relay followed goes.there goes.back goes.stage ended _ _ _ _ told.status)
    (λ to r t roles. roles_followed relay followed goes.there goes.back goes.stage to ended r t (told.roles to r t roles))
    (λ f. told.faulty (sym (faulted_followed relay followed goes.there goes.back goes.stage ended) ∙ f))
    (λ f. told.calm (sym (faulted_followed relay followed goes.there goes.back goes.stage ended) ∙ f))

pub returns-clause-ready : goal.returns-clause-ready
returns-clause-ready g c = λ d not_client not_target.
    c.serve-ended.ensures.work.ready d
    (λ at. not_client (at ∙ ap (λ (x : ChanId). x.number) c.links_of-links.ensures.client))
    (λ at. not_target (at ∙ ap (λ (x : ChanId). x.number) c.links_of-links.ensures.target))

pub returns-clause-listens : goal.returns-clause-listens
returns-clause-listens g c =
    c.serve-ended.ensures.work.places listener
    (λ at. client_listener _ _ (sym (at ∙ c.links_of-links.ensures.client)))
    (λ at. target_listener _ _ (sym (at ∙ c.links_of-links.ensures.target)))
