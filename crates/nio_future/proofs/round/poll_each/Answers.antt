use Rattle.std.proofs.Common.{◌≡◌, [], List, reverse, ap, sym, ◌∙◌, subst}
use Rattle.nio_base.specs.declared.numbers.OpNo.{OpNo}
use Rattle.nio_future.specs.Desk.{held_at}
use Rattle.nio_future.specs.Round.{after_each, polling_of, with_ready}
use Rattle.nio_future.specs.Ticket.{Ticket}
use Rattle.nio_future.proofs.RoundLemmas.{ends, in-order, next-ticket, no-items, polls-one, IsPolling}
use Rattle.nio_future.proofs.round.poll_each.Goals as goal

pub poll_op-polled-requires : goal.poll_op-polled-requires
poll_op-polled-requires c =
    let h = c.loop-ticket.hand in
    let first = c.args.hand.now in
    next-ticket first.desk h.desk first.tickets.items c.pop.new.self.items h.still.items h.ready.items c.in-Some.ticket
    (subst (λ (ts : List Ticket). IsPolling first.desk h.desk first.tickets.items ts h.still.items h.ready.items)
    c.in-Some.ensures.items c.loop-ticket.invariant.polling)

pub loop-ticket-preserved : goal.loop-ticket-preserved
loop-ticket-preserved c =
    let h = c.loop-ticket.hand in
    let first = c.args.hand.now in
    let before = c.loop-ticket.invariant in
    let polled = c.poll_op-polled.ensures in
    let held : c.operation-held.result ≡ held_at h.desk c.in-Some.ticket.op.0 =
    c.operation-held.ensures ∙ ap (λ (op : OpNo). held_at h.desk op.0) c.op-op.ensures in
    let one = polls-one first.desk h.desk c.poll_op-polled.new.self first.tickets.items c.pop.new.self.items h.still.items
    h.ready.items c.in-Some.ticket c.operation-held.result c.poll_op-polled.result
    (subst (λ (ts : List Ticket). IsPolling first.desk h.desk first.tickets.items ts h.still.items h.ready.items)
    c.in-Some.ensures.items before.polling) held polled.answer polled.after (λ not. polled.pending.0 not) in
    let still = c.put_away.ensures.still in
    let ready = c.put_away.ensures.ready
    ∙ ap (λ (op : OpNo). with_ready op c.operation-held.result c.poll_op-polled.result h.ready.items) c.op-op.ensures in
    let order = in-order (polling_of h) c.poll_op-polled.new.self c.put_away.new.still.items c.put_away.new.ready.items
    h.tickets.items c.pop.new.self.items c.in-Some.ticket c.operation-held.result c.poll_op-polled.result
    c.in-Some.ensures.items held polled.answer polled.after still ready in
    record {
      polling = rw (still, ready) one;
      in_order = order ∙ before.in_order;
      kept = λ fact holds. polled.kept fact (before.kept fact holds);
      tickets_room = c.in-Some.ensures.capacity ∙ before.tickets_room;
      still_room = c.put_away.ensures.same_still ∙ before.still_room;
      ready_room = c.put_away.ensures.same_ready ∙ before.ready_room;
    }

pub returns-clause-polls : goal.returns-clause-polls
returns-clause-polls c =
    let h = c.loop-ticket.hand in
    let first = c.args.hand.now in
    let before = c.loop-ticket.invariant in
    let none = c.in_default.ensures.cases in
    let left : h.tickets.items ≡ [] = no-items h.tickets.items (sym h.tickets.ok.0 ∙ none.0) in
    let end = ends first.desk h.desk first.tickets.items h.tickets.items h.still.items h.ready.items before.polling left in
    record {
      same_group = before.polling.group;
      same_source = before.polling.source;
      same_places = before.polling.places;
      all_polled = no-items c.pop.new.self.items (sym c.pop.new.self.ok.0 ∙ none.1);
      in_order = ap (λ (ts : List Ticket). after_each (polling_of h) (reverse ts)) (sym left) ∙ before.in_order;
      tickets = end.tickets;
      pending = before.polling.pending;
      results = before.polling.results;
      each = end.each;
      count = end.count;
      held = before.polling.held;
      tickets_room = c.in_default.ensures.capacity ∙ before.tickets_room;
      still_room = before.still_room;
      ready_room = before.ready_room;
    }
