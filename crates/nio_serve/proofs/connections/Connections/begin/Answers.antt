use Rattle.std.proofs.Common.{◌∙◌, ap, arith, subst, sym}
use Rattle.nio_base.specs.declared.numbers.Addr.{Addr}
use Rattle.nio_base.specs.declared.numbers.ChanId.{ChanId}
use Rattle.nio_link.specs.Places.{IsFree}
use Rattle.nio_serve.specs.Slots.{client_at, target_at}
use Rattle.nio_serve.specs.Statuses.{IsStatusOf, Live, status_after}
use Rattle.nio_serve.proofs.Followed.{faulted_followed, status_of_followed}
use Rattle.nio_serve.proofs.Slotting.{fewer_counted, live_is, serial_read, serving_begun, taken_of, target_free}
use Rattle.nio_serve.proofs.Statuses.{serial_of, status_live}
use Rattle.nio_serve.proofs.Ways.{members}
use Rattle.nio_serve.proofs.connections.Connections.begin.Goals as goal

pub begin-ended-requires-clause-free : goal.begin-ended-requires-clause-free
begin-ended-requires-clause-free g c accepted =
    let slot = c.args.slot in
    let taken = taken_of slot c.in-Some.relay c.args.self.now c.take.new.self c.requires.served c.in-Some.ensures in
    let serial = serial_read slot c.in-Some.relay c.args.self.now c.take.new.self taken c.index.result.now c.index.ensures
    in
    subst (λ (x : ChanId). IsFree (g.W.Way.place c.args.net.now) x)
    (sym (c.links_of-links.ensures.target ∙ ap (target_at slot) serial))
    (target_free (g.W.Way.link c.args.net.now) (g.W.Way.place c.args.net.now) c.args.self.now c.requires.served slot
    taken.slot c.in-Some.relay taken.at taken.relay accepted)

pub begin-ended-requires-clause-status : goal.begin-ended-requires-clause-status
begin-ended-requires-clause-status g c =
    let n = members g.W.Polls g.W.Way in
    let net = c.args.net.now in
    let slot = c.args.slot in
    let links = c.links_of-links.result in
    let taken = taken_of slot c.in-Some.relay c.args.self.now c.take.new.self c.requires.served c.in-Some.ensures in
    let serial = serial_read slot c.in-Some.relay c.args.self.now c.take.new.self taken c.index.result.now c.index.ensures
    in
    subst (λ (to : Addr). IsStatusOf to (Live c.in-Some.relay) (g.W.Way.link net links.client)
    (g.W.Way.link net links.target) (g.W.Way.place net links.client) (g.W.Way.place net links.target))
    (sym taken.takes.moved.none.plan.target)
    (live_is n slot c.in-Some.relay links.client links.target net c.args.self.now c.take.new.self c.requires.served taken
    (c.links_of-links.ensures.client ∙ ap (client_at slot) serial)
    (c.links_of-links.ensures.target ∙ ap (target_at slot) serial))

pub go_on-requires : goal.go_on-requires
go_on-requires g c =
    let slot = c.args.slot in
    let taken = taken_of slot c.in-Some.relay c.args.self.now c.take.new.self c.requires.served c.in-Some.ensures in
    let counts = fewer_counted slot (serial_of taken.slot) c.in-Some.relay c.requires.served
    (status_live c.args.self.now.slots.items slot taken.slot c.in-Some.relay taken.at taken.relay) in
    record {
      within = omega (arith, taken.within, taken.takes.others.length);
      few = omega (arith, counts.0, taken.takes.moved.ended);
      few_faulted = omega (arith, counts.1, taken.takes.moved.faulted);
    }

pub returns-clause-serving : goal.returns-clause-serving
returns-clause-serving g c =
    let n = members g.W.Polls g.W.Way in
    let net = c.begin-ended.new.net in
    let slot = c.args.slot in
    let links = c.links_of-links.result in
    let taken = taken_of slot c.in-Some.relay c.args.self.now c.take.new.self c.requires.served c.in-Some.ensures in
    let serial = serial_read slot c.in-Some.relay c.args.self.now c.take.new.self taken c.index.result.now c.index.ensures
    in
    let begun = c.begin-ended.ensures in
    let goes = c.go_on.ensures.goes in
    let relay = c.begin-ended.new.self in
    let followed = goes.followed in
    let ended = c.begin-ended.result in
    serving_begun n slot c.in-Some.relay followed ended links.client links.target c.args.net.now net c.args.self.now
    c.take.new.self c.go_on.new.self c.requires.served taken
    (c.links_of-links.ensures.client ∙ ap (client_at slot) serial)
    (c.links_of-links.ensures.target ∙ ap (target_at slot) serial) goes.puts begun.begins
    (subst (λ (to : Addr). IsStatusOf to (status_after followed ended) (g.W.Way.link net links.client)
    (g.W.Way.link net links.target) (g.W.Way.place net links.client) (g.W.Way.place net links.target))
    taken.takes.moved.none.plan.target
    (status_of_followed relay followed goes.there goes.back goes.stage c.take.new.self.target ended _ _ _ _ begun.status))
    (λ f. begun.faulty (sym (faulted_followed relay followed goes.there goes.back goes.stage ended) ∙ f))
    (λ f. begun.calm (sym (faulted_followed relay followed goes.there goes.back goes.stage ended) ∙ f)) begun.accepted
