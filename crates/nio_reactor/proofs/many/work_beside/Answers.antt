use Rattle.std.proofs.Common.{◌≡◌, false, All, length, subst, sym, arith}
use Rattle.std.proofs.lemmas.Grind.{common_steps}
use Rattle.nio_reactor.proofs.Lists.{slice_back}
use Rattle.nio_reactor.proofs.Nets.{members}
use Rattle.nio_reactor.specs.Receiving.{HaveReceived, is_early}
use Rattle.nio_reactor.specs.Seats.{HaveSeats, LeaveSeats}
use Rattle.nio_link.specs.Nets.{view_of}
use Rattle.nio_serve.specs.Serving.{IsFresh}
use Rattle.nio_reactor.specs.Working.{HaveWorked}
use Rattle.nio_reactor.specs.declared.door.Door.TheVariants.{Unasked}
use Rattle.nio_reactor.proofs.many.work_beside.Goals as goal

pub work_all-requires-clause-fresh : goal.work_all-requires-clause-fresh
work_all-requires-clause-fresh g c κs within =
    subst (All (λ x. IsFresh (view_of (members g.N.Poller g.N.Net) x.lane.net)))
    (sym c.as_mut_slice.ensures.value) c.requires.nets

pub work_all-requires-clause-doors : goal.work_all-requires-clause-doors
work_all-requires-clause-doors g c κs within =
    subst (All (λ x. x.lane.door ≡ Unasked)) (sym c.as_mut_slice.ensures.value) c.requires.doors

pub work_all-requires-clause-on_time : goal.work_all-requires-clause-on_time
work_all-requires-clause-on_time g c κs within =
    subst (All (λ x. is_early x.lane.heard ≡ false)) (sym c.as_mut_slice.ensures.value) c.requires.on_time

pub work_all-requires-clause-seats : goal.work_all-requires-clause-seats
work_all-requires-clause-seats g c κs within =
    subst (HaveSeats c.args.words.now (λ x. x.pass)) (sym c.as_mut_slice.ensures.value) c.requires.seats

pub returns-clause-worked : goal.returns-clause-worked
returns-clause-worked g c =
    let len_is : c.args.workers.now.len ≡ length c.args.workers.now.items
    = grind (arith, common_steps, c.as_mut_slice.ensures.len, c.as_mut_slice.ensures.value) in
    slice_back c.args.workers.now.items _ c.work_all.new.workers c.args.workers.now.len
    (HaveWorked (members g.N.Poller g.N.Net) c.args.plan (λ x. x.lane.net) (λ x. x.lane.put)
    (λ x. is_early x.lane.heard) (λ x. x.lane.outcome)) c.as_mut_slice.ensures.value len_is
    c.work_all.ensures.count c.work_all.ensures.worked

pub returns-clause-received : goal.returns-clause-received
returns-clause-received g c =
    let len_is : c.args.workers.now.len ≡ length c.args.workers.now.items
    = grind (arith, common_steps, c.as_mut_slice.ensures.len, c.as_mut_slice.ensures.value) in
    slice_back c.args.workers.now.items _ c.work_all.new.workers c.args.workers.now.len
    (HaveReceived c.args.plan (λ x. x.lane.line) (λ x. x.lane.worker) (λ x. x.lane.put) (λ x. x.lane.outcome)) c.as_mut_slice.ensures.value len_is
    c.work_all.ensures.count c.work_all.ensures.received

pub returns-clause-leaves : goal.returns-clause-leaves
returns-clause-leaves g c =
    let len_is : c.args.workers.now.len ≡ length c.args.workers.now.items
    = grind (arith, common_steps, c.as_mut_slice.ensures.len, c.as_mut_slice.ensures.value) in
    slice_back c.args.workers.now.items _ c.work_all.new.workers c.args.workers.now.len
    (LeaveSeats c.args.words.now c.args.plan (λ x. x.pass) (λ x. x.lane.put) (λ x. x.lane.outcome)) c.as_mut_slice.ensures.value len_is
    c.work_all.ensures.count c.work_all.ensures.leaves

pub returns-clause-count : goal.returns-clause-count
returns-clause-count g c =
    let len_is : c.args.workers.now.len ≡ length c.args.workers.now.items
    = grind (arith, common_steps, c.as_mut_slice.ensures.len, c.as_mut_slice.ensures.value) in
    slice_back c.args.workers.now.items _ c.work_all.new.workers c.args.workers.now.len
    (λ before now. length now ≡ length before) c.as_mut_slice.ensures.value len_is c.work_all.ensures.count
    c.work_all.ensures.count
