use Rattle.std.proofs.Common.{◌≡◌, ◌*◌, ◌<◌, ◌≤◌, ◌∙◌, ℕ, false, All, IfOk, IsOk, length, map, ap, slice_get, subst, sym, Some, arith}
use Rattle.std.proofs.lemmas.List.{length-map}
use Rattle.std.proofs.lemmas.Result.{IfOk-weaker}
use Rattle.nio_orderly.proofs.CallLists.{whole_is_orderly}
use Rattle.nio_words.specs.Passes.{seen}
use Rattle.nio_reactor.proofs.Accounting.{Shown, accounts_for, are_own, early_hand, handed_of}
use Rattle.nio_reactor.proofs.Accounting.{none_accounted, on_time, own_at, same_count, sent_all, within_at}
use Rattle.nio_reactor.proofs.Concluding.{apart_at, few_faults, fresh_lanes, none_done, on_ok, serves_of}
use Rattle.nio_reactor.proofs.Gathered.{Settled, answered_with, passes_after, seats_of, settled}
use Rattle.nio_reactor.proofs.Handing.{all_clients, clients_at, none_handed}
use Rattle.nio_reactor.proofs.Lists.{element}
use Rattle.nio_reactor.proofs.Nets.{members}
use Rattle.nio_reactor.proofs.Placed.{AreClients}
use Rattle.nio_reactor.specs.Dealing.{share, slots_of}
use Rattle.nio_reactor.specs.Handing.{AccountsForLinks, AreHanded, put_at}
use Rattle.nio_reactor.specs.Many.{ServesMany}
use Rattle.nio_reactor.specs.Placing.{table_for}
use Rattle.nio_reactor.specs.Receiving.{in_hand, is_early}
use Rattle.nio_reactor.specs.Working.{clients_of}
use Rattle.nio_reactor.specs.declared.many.ManyError.TheVariants.{Memory}
use Rattle.nio_reactor.proofs.many.serve_between.Given.{Over}
use Rattle.nio_reactor.proofs.many.serve_between.Goals as goal

pub returns-in_default-clause-serves : goal.returns-in_default-clause-serves
returns-in_default-clause-serves g c =
    none_done (members g.N.Poller g.N.Net) c.args.outgoing.plan c.args.net.now c.args.more.now.items c.staff.new.more.items
    c.in_default.ensures.same c.requires.fresh c.requires.nets

pub returns-in_default-clause-handed : goal.returns-in_default-clause-handed
returns-in_default-clause-handed g c =
    none_handed (members g.N.Poller g.N.Net) c.args.outgoing.plan.conns c.staff.new.more.items c.args.handed.now Memory

pub returns-in_default-clause-links : goal.returns-in_default-clause-links
returns-in_default-clause-links g c =
    none_accounted (members g.N.Poller g.N.Net) (g.N.Net.accepted c.args.net.now) c.args.more.now.items c.staff.new.more.items c.args.handed.now

pub serve_lanes-accepted-requires-clause-nets : goal.serve_lanes-accepted-requires-clause-nets
serve_lanes-accepted-requires-clause-nets g c κs within =
    fresh_lanes (members g.N.Poller g.N.Net) (λ x. x.lane.net) c.in-Ok.workers.items c.args.more.now.items
    c.in-Ok.ensures.nets c.requires.nets

pub serve_lanes-accepted-requires-clause-seats : goal.serve_lanes-accepted-requires-clause-seats
serve_lanes-accepted-requires-clause-seats g c κs within =
    seats_of _ (λ x. x.pass) _ _ c.in-Ok.ensures.passes c.requires.seats

pub conclude-outcome-requires-clause-faults : goal.conclude-outcome-requires-clause-faults
conclude-outcome-requires-clause-faults g c κs within =
    few_faults (members g.N.Poller g.N.Net) c.args.outgoing.plan (λ x. x.lane.net) (λ x. x.lane.put)
    (λ x. is_early x.lane.heard) (λ x. x.lane.outcome) _ _ c.serve_lanes-accepted.ensures.count
    c.serve_lanes-accepted.ensures.worked

pub give_back-requires-clause-passes : goal.give_back-requires-clause-passes
give_back-requires-clause-passes g c κs within =
    passes_after _ c.args.outgoing.plan (λ x. x.pass) (λ x. x.lane.put) (λ x. x.lane.outcome) _ _
    c.serve_lanes-accepted.ensures.count
    c.serve_lanes-accepted.ensures.leaves

pub give_back-requires-clause-own : goal.give_back-requires-clause-own
give_back-requires-clause-own g c κs within =
    are_own c.args.outgoing.plan (λ x. x.lane.line) (λ x. x.lane.worker) (λ x. x.lane.put) (λ x. x.lane.outcome) _ _
    c.serve_lanes-accepted.ensures.count c.serve_lanes-accepted.ensures.received

-- ---- at the end

workers_are : (g : Over) (c : goal.After-drop-outgoing-2 g) → length c.in-Ok.workers.items ≡ length c.args.more.now.items
workers_are g c = sym (length-map c.in-Ok.workers.items (λ x. x.lane.net)) ∙ ap length c.in-Ok.ensures.nets

lines_are : (g : Over) (c : goal.After-drop-outgoing-2 g) → length g.K.Lines.lines ≡ length c.args.more.now.items
lines_are g c =
    sym (ap length c.requires.lines_in) ∙ length-map c.args.outgoing.lines.items (λ e. e.line) ∙ c.requires.entries

shown_of : (g : Over) (c : goal.After-drop-outgoing-2 g)
    → Shown (λ x. x.lane.line) (λ x. x.lane.worker) (λ x. x.lane.put) (λ x. in_hand x.lane.heard)
    (λ x. is_early x.lane.heard) (λ x. x.lane.left) (length c.args.more.now.items) c.args.outgoing.plan.conns
    (slots_of (length c.args.more.now.items) c.args.outgoing.plan) c.serve_lanes-accepted.ensures.sent.count
    c.serve_lanes-accepted.new.workers.items c.serve_lanes-accepted.new.outgoing.lines.items
shown_of g c = record {
  numbers = λ x. x.lane.numbers;
  own = λ x. x.lane.own;
  count = λ x. x.lane.count ∙ ap (λ k. share k x.lane.worker g.K.Lines.conns) (lines_are g c)
      ∙ ap (share (length c.args.more.now.items) x.lane.worker) (sym c.requires.conns);
  within = λ x. subst (λ k. All (λ h. h.client.number.0 < 2 * k) x.lane.put)
      (x.lane.slots_are ∙ ap (λ k. share k x.lane.worker g.K.Lines.slots) (lines_are g c)
      ∙ ap (share (length c.args.more.now.items) x.lane.worker) (sym c.requires.slots)) x.lane.within;
  in_time = λ x is. (early_hand x.lane.heard is, x.lane.early is);
  lanes_are = c.serve_lanes-accepted.ensures.count ∙ workers_are g c;
  entries_are = c.serve_lanes-accepted.ensures.sent.lines ∙ c.requires.entries;
  sent = sent_all _ _ c.args.outgoing.lines.items c.serve_lanes-accepted.new.outgoing.lines.items
      (length c.args.more.now.items) c.serve_lanes-accepted.ensures.sent c.requires.sent c.requires.entries;
  settled = c.give_back.ensures.settled;
  its = are_own c.args.outgoing.plan (λ x. x.lane.line) (λ x. x.lane.worker) (λ x. x.lane.put) (λ x. x.lane.outcome)
      _ _ c.serve_lanes-accepted.ensures.count c.serve_lanes-accepted.ensures.received;
}

few_sent : (g : Over) (c : goal.After-drop-outgoing-2 g)
    → c.serve_lanes-accepted.ensures.sent.count ≤ c.args.outgoing.plan.conns
few_sent g c =
    subst (λ n. n ≤ c.args.outgoing.plan.conns)
    (same_count _ _ c.serve_lanes-accepted.ensures.accepted.count c.serve_lanes-accepted.ensures.sent.count
    c.serve_lanes-accepted.ensures.accepted.order c.serve_lanes-accepted.ensures.sent.accepted)
    c.serve_lanes-accepted.ensures.accepted.some

all_sent : (g : Over) (c : goal.After-drop-outgoing-2 g) → IsOk c.serve_lanes-accepted.result
    → c.serve_lanes-accepted.ensures.sent.count ≡ c.args.outgoing.plan.conns
all_sent g c ok =
    same_count _ _ c.serve_lanes-accepted.ensures.sent.count c.serve_lanes-accepted.ensures.accepted.count
    c.serve_lanes-accepted.ensures.sent.accepted c.serve_lanes-accepted.ensures.accepted.order
    ∙ on_ok c.serve_lanes-accepted.result ok c.serve_lanes-accepted.ensures.accepted.all

never_early : (g : Over) (c : goal.After-drop-outgoing-2 g) → IsOk c.serve_lanes-accepted.result → (v : ℕ) (x : _)
    → slice_get c.serve_lanes-accepted.new.workers.items v ≡ Some x → is_early x.lane.heard ≡ false
never_early g c ok = on_time (λ x. x.lane.line) (λ x. x.lane.worker) (λ x. x.lane.put) (λ x. in_hand x.lane.heard)
    (λ x. is_early x.lane.heard) (λ x. x.lane.left) _ _ _ _ _ _ (shown_of g c) (all_sent g c ok)

pub returns-clause-serves : goal.returns-clause-serves
returns-clause-serves g c =
    subst (ServesMany (members g.N.Poller g.N.Net) c.args.outgoing.plan c.args.net.now c.serve_lanes-accepted.new.net
    c.args.more.now.items c.give_back.new.more.items) (sym c.answer.ensures.served)
    (serves_of (members g.N.Poller g.N.Net) c.args.outgoing.plan (λ x. x.lane.net) (λ x. x.lane.put)
    (λ x. is_early x.lane.heard) (λ x. x.lane.outcome) _ _ _ _ c.in-Ok.ensures.nets c.give_back.ensures.nets
    c.serve_lanes-accepted.ensures.count c.serve_lanes-accepted.ensures.worked c.serve_lanes-accepted.result
    (never_early g c) _ _ _ c.serve_lanes-accepted.ensures.accepted c.conclude-outcome.ensures)

pub returns-clause-count : goal.returns-clause-count
returns-clause-count g c =
    ap length c.give_back.ensures.nets ∙ length-map c.serve_lanes-accepted.new.workers.items (λ x. x.lane.net)
    ∙ c.serve_lanes-accepted.ensures.count ∙ workers_are g c

pub returns-clause-handed : goal.returns-clause-handed
returns-clause-handed g c =
    subst (AreHanded (members g.N.Poller g.N.Net) c.args.outgoing.plan.conns c.give_back.new.more.items
    c.args.handed.now c.list_handovers.new.handed) (sym c.answer.ensures.served)
    (subst (λ l. AreHanded (members g.N.Poller g.N.Net) c.args.outgoing.plan.conns l c.args.handed.now
    c.list_handovers.new.handed c.conclude-outcome.result) (sym c.give_back.ensures.nets)
    (handed_of (λ x. x.lane.line) (λ x. x.lane.worker) (λ x. x.lane.put) (λ x. in_hand x.lane.heard)
    (λ x. is_early x.lane.heard) (λ x. x.lane.left) _ _ _ _ _ _ (shown_of g c) c.args.outgoing.plan
    (λ x. x.lane.outcome) c.in-Ok.workers.items (workers_are g c) c.serve_lanes-accepted.ensures.received
    (members g.N.Poller g.N.Net) (λ x. x.lane.net) c.serve_lanes-accepted.ensures.worked (few_sent g c)
    c.args.handed.now c.list_handovers.new.handed c.list_handovers.ensures c.serve_lanes-accepted.result
    c.conclude-outcome.result c.conclude-outcome.ensures))

pub returns-clause-links : goal.returns-clause-links
returns-clause-links g c =
    subst (AccountsForLinks (members g.N.Poller g.N.Net) (g.N.Net.accepted c.args.net.now)
    (g.N.Net.accepted c.serve_lanes-accepted.new.net) c.args.more.now.items c.give_back.new.more.items
    c.args.handed.now c.list_handovers.new.handed) (sym c.answer.ensures.served)
    (subst (λ l. AccountsForLinks (members g.N.Poller g.N.Net) (g.N.Net.accepted c.args.net.now)
    (g.N.Net.accepted c.serve_lanes-accepted.new.net) l c.give_back.new.more.items c.args.handed.now
    c.list_handovers.new.handed c.conclude-outcome.result) c.in-Ok.ensures.nets
    (subst (λ l. AccountsForLinks (members g.N.Poller g.N.Net) (g.N.Net.accepted c.args.net.now)
    (g.N.Net.accepted c.serve_lanes-accepted.new.net) (map (λ x. x.lane.net) c.in-Ok.workers.items) l
    c.args.handed.now c.list_handovers.new.handed c.conclude-outcome.result) (sym c.give_back.ensures.nets)
    (accounts_for (λ x. x.lane.line) (λ x. x.lane.worker) (λ x. x.lane.put) (λ x. in_hand x.lane.heard)
    (λ x. is_early x.lane.heard) (λ x. x.lane.left) _ _ _ _ _ _ (shown_of g c) c.args.outgoing.plan
    (λ x. x.lane.outcome) c.in-Ok.workers.items (workers_are g c) c.serve_lanes-accepted.ensures.received
    (members g.N.Poller g.N.Net) (λ x. x.lane.net) c.serve_lanes-accepted.ensures.worked (few_sent g c) _ _
    c.args.handed.now c.list_handovers.new.handed c.serve_lanes-accepted.ensures.sent.accepted
    c.list_handovers.ensures c.serve_lanes-accepted.result c.conclude-outcome.result c.conclude-outcome.ensures)))

-- the clients of each worker
clients_are : (g : Over) (c : goal.After-drop-outgoing-2 g) (v : ℕ) → v < length c.args.more.now.items
    → AreClients (length c.args.more.now.items) (slots_of (length c.args.more.now.items) c.args.outgoing.plan) v
    (clients_at (λ x. x.lane.put) c.serve_lanes-accepted.new.workers.items v)
clients_are g c v less =
    let b = element c.serve_lanes-accepted.new.workers.items v
    (subst (λ k. v < k) (sym (c.serve_lanes-accepted.ensures.count ∙ workers_are g c)) less) in
    subst (AreClients (length c.args.more.now.items) (slots_of (length c.args.more.now.items) c.args.outgoing.plan) v)
    (sym (ap (λ o. clients_of (put_at (λ x. x.lane.put) o)) b.1))
    (record {
      within = all_clients (λ k. k.number.0 < 2 * share (length c.args.more.now.items) v
          (slots_of (length c.args.more.now.items) c.args.outgoing.plan)) b.0.lane.put
          (within_at (λ x. x.lane.line) (λ x. x.lane.worker) (λ x. x.lane.put) (λ x. in_hand x.lane.heard)
          (λ x. is_early x.lane.heard) (λ x. x.lane.left) _ _ _ _ _ _ (shown_of g c) v b.0 b.1);
      apart = apart_at (members g.N.Poller g.N.Net) c.args.outgoing.plan (λ x. x.lane.net) (λ x. x.lane.put)
          (λ x. is_early x.lane.heard) (λ x. x.lane.outcome) c.in-Ok.workers.items _
          c.serve_lanes-accepted.ensures.count c.serve_lanes-accepted.ensures.worked v b.0 b.1;
    })

-- what the pass that is answered shows
settled_of : (g : Over) (c : goal.After-drop-outgoing-2 g)
    → IfOk c.answer.result (λ done. Settled (length c.args.more.now.items)
    (slots_of (length c.args.more.now.items) c.args.outgoing.plan) c.args.handed.now c.list_handovers.new.handed done.1)
settled_of g c =
    answered_with (Settled (length c.args.more.now.items)
    (slots_of (length c.args.more.now.items) c.args.outgoing.plan) c.args.handed.now c.list_handovers.new.handed)
    c.give_back.new.pass c.conclude-outcome.result c.answer.result c.answer.ensures.served c.answer.ensures.pass
    (settled c.args.words.now c.args.outgoing.plan (λ x. x.lane.put) (λ x. x.lane.outcome) (λ x. x.pass)
    (length c.args.more.now.items) c.requires.limits c.in-Ok.workers.items c.serve_lanes-accepted.new.workers.items
    (workers_are g c) c.serve_lanes-accepted.ensures.count c.serve_lanes-accepted.ensures.leaves
    c.serve_lanes-accepted.new.outgoing.pass c.give_back.new.pass c.give_back.ensures.pass c.give_back.ensures.own
    c.give_back.ensures.each c.serve_lanes-accepted.result c.serve_lanes-accepted.ensures.seat
    c.conclude-outcome.result c.conclude-outcome.ensures (omega (arith, c.requires.workers.0)) (clients_are g c)
    (own_at (λ x. x.lane.line) (λ x. x.lane.worker) (λ x. x.lane.put) (λ x. in_hand x.lane.heard)
    (λ x. is_early x.lane.heard) (λ x. x.lane.left) _ _ _ _ _ _ (shown_of g c)) c.args.handed.now
    c.list_handovers.new.handed c.list_handovers.ensures)

pub returns-clause-pass : goal.returns-clause-pass
returns-clause-pass g c = IfOk-weaker c.answer.result _ _ (λ done is. is.holds) (settled_of g c)

pub returns-clause-whole : goal.returns-clause-whole
returns-clause-whole g c = IfOk-weaker c.answer.result _ _ (λ done is. is.whole) (settled_of g c)

pub returns-clause-orderly : goal.returns-clause-orderly
returns-clause-orderly g c =
    IfOk-weaker c.answer.result _ _
    (λ done is. whole_is_orderly (table_for (length c.args.more.now.items)) (seen done.1) is.whole) (settled_of g c)

pub returns-clause-placed : goal.returns-clause-placed
returns-clause-placed g c = IfOk-weaker c.answer.result _ _ (λ done is. is.placed) (settled_of g c)
