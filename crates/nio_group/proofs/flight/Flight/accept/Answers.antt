use Rattle.nio_group.proofs.FlightLemmas.{kept-push, queued-in_flight, queued-stage, not_queued-stage}
use Rattle.std.proofs.Common.{arith, add-zero}
use Rattle.nio_group.proofs.flight.Flight.accept.Goals as goal

pub push_back_reserved-requires : goal.push_back_reserved-requires
push_back_reserved-requires c =
    let kept = c.self.invariant in
    let within = rw (← c.self.view_is) at c.requires.room in
    omega (arith, kept.queue_length, kept.room, within, queued-in_flight c.self.inside.operations.operations)

pub invariant_of-self : goal.invariant_of-self
invariant_of-self c =
    let i = c.self.inside in
    let room = rw (← c.self.view_is) at c.requires.room in
    let pushed = rw (queued-stage c.args.operation c.in-Queued.field-0 c.in-Queued.is) at
    (kept-push i.operations i.queue.items i.queue.len i.queue.cap c.args.operation c.self.invariant room) in
    let put = c.push_back_reserved.ensures in
    rw (c.accept-number.ensures.accepts, put.items, put.capacity, put.len, c.accept-number.ensures.number) pushed

pub invariant_of-self-in_default : goal.invariant_of-self-in_default
invariant_of-self-in_default c =
    let i = c.self.inside in
    let room = rw (← c.self.view_is) at c.requires.room in
    let pushed = rw (not_queued-stage c.args.operation c.in_default.not-Queued, add-zero) at
    (kept-push i.operations i.queue.items i.queue.len i.queue.cap c.args.operation c.self.invariant room) in
    rw c.accept-number.ensures.accepts pushed
