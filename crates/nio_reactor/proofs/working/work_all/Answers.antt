use Rattle.std.proofs.Common.{◌≡◌, ◌+◌, false, length, arith, rules, subst, sym}
use Rattle.nio_reactor.proofs.Lists.{at_each, of_each}
use Rattle.nio_reactor.specs.Dealing.{share, slots_of}
use Rattle.nio_reactor.proofs.Nets.{members}
use Rattle.nio_reactor.specs.Placing.{caller, deal_of}
use Rattle.nio_reactor.specs.Receiving.{HasReceived, is_early}
use Rattle.nio_reactor.specs.Seats.{IsNewcomer, LeavesSeat, channels_for}
use Rattle.nio_link.specs.Nets.{view_of}
use Rattle.nio_serve.specs.Serving.{IsFresh}
use Rattle.nio_reactor.specs.Working.{HasWorked, clients_of}
use Rattle.nio_reactor.specs.declared.door.Door.TheVariants.{Unasked}
use Rattle.nio_reactor.proofs.working.work_all.Goals as goal

pub each_beside-requires-clause-accepts : goal.each_beside-requires-clause-accepts
each_beside-requires-clause-accepts g c κs within = λ i p few is. (
  (
    omega (arith, few, c.max-threads.ensures),
    omega (arith, c.requires.few, c.max-threads.ensures),
    c.requires.plan,
    at_each (λ x. IsFresh (view_of (members g.N.Poller g.N.Net) x.lane.net))
        c.args.workers.now i p.now c.requires.fresh few is,
    at_each (λ x. x.lane.door ≡ Unasked) c.args.workers.now i p.now c.requires.doors few is,
    at_each (λ x. is_early x.lane.heard ≡ false) c.args.workers.now i p.now c.requires.on_time few is,
    subst (λ x. IsNewcomer c.args.words.now x.pass (caller (i + 1))) (sym is) (c.requires.seats i p.now few),
  ),
  (
    search (rules, c.type_bounds.send-N.leaving, c.type_bounds.send-N.owned),
    search (rules, c.type_bounds.send-K.leaving, c.type_bounds.send-K.owned),
    search (rules, c.type_bounds.send-N-Link.leaving, c.type_bounds.send-N-Link.owned),
    search (rules, c.type_bounds.sync-R),
    search (rules, c.type_bounds.sync-G),
  ),
)

pub returns-clause-worked : goal.returns-clause-worked
returns-clause-worked g c v x less =
    let changed = (c.each_beside.ensures.changes v x less).1 in
    of_each (λ n a b. HasWorked (members g.N.Poller g.N.Net)
    c.args.plan.target (share n v c.args.plan.conns) a.lane.net b.lane.net b.lane.put (is_early b.lane.heard) b.lane.outcome)
    c.max-threads.result (length c.args.workers.now) changed.argument.now changed.after_call.now _ _
    (omega (arith, less, c.max-threads.ensures)) changed.argument_is changed.left changed.call.0

pub returns-clause-received : goal.returns-clause-received
returns-clause-received g c v x less =
    let changed = (c.each_beside.ensures.changes v x less).1 in
    of_each (λ n a b. HasReceived v (share n v c.args.plan.conns) b.lane.line b.lane.worker b.lane.put b.lane.outcome)
    c.max-threads.result (length c.args.workers.now) changed.argument.now changed.after_call.now _ _
    (omega (arith, less, c.max-threads.ensures)) changed.argument_is changed.left changed.call.1

pub returns-clause-leaves : goal.returns-clause-leaves
returns-clause-leaves g c v x less =
    let changed = (c.each_beside.ensures.changes v x less).1 in
    of_each (λ n a b. LeavesSeat c.args.words.now (v + 1) (deal_of n v (slots_of n c.args.plan))
    (channels_for (clients_of b.lane.put)) b.pass b.lane.outcome)
    c.max-threads.result (length c.args.workers.now) changed.argument.now changed.after_call.now _ _
    (omega (arith, less, c.max-threads.ensures)) changed.argument_is changed.left changed.call.2
