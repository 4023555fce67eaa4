use Rattle.std.proofs.Common.{◌++◌, refl, sym, ap}
use Rattle.std.proofs.lemmas.Result.{on_ok_weaker}
use Rattle.nio_link.specs.Nets.{view_of}
use Rattle.nio_reactor.proofs.Nets.{members}
use Rattle.nio_reactor.proofs.Received.{none_put, received_all, received_none, received_not, served_length}
use Rattle.nio_reactor.proofs.Seating.{left_idle, left_served, left_unseated}
use Rattle.nio_reactor.proofs.Worked.{worked, worked_none, worked_not}
use Rattle.nio_reactor.specs.Lanes.{lane_view}
use Rattle.nio_reactor.specs.Receiving.{in_hand, is_early}
use Rattle.nio_reactor.specs.Working.{clients_of}
use Rattle.nio_serve.specs.declared.serving.ServeError.TheVariants.{Memory}
use Rattle.nio_reactor.proofs.working.work_share.Goals as goal

pub returns-then-plan-eq0-clause-worked : goal.returns-then-plan-eq0-clause-worked
returns-then-plan-eq0-clause-worked g c =
    worked_none _ c.args.plan c.args.worker.now.lane.net c.args.worker.now.lane.put
    (is_early c.args.worker.now.lane.heard)
    (none_put 0 c.args.plan.conns c.args.worker.now.lane.worker c.args.worker.now.lane.door
    c.args.worker.now.lane.line c.args.worker.now.lane.put (in_hand c.args.worker.now.lane.heard) c.requires.door
    c.args.worker.now.lane.at_door c.args.worker.now.lane.numbers)
    c.requires.fresh _ c.if-plan-eq0.true refl

pub returns-then-plan-eq0-clause-received : goal.returns-then-plan-eq0-clause-received
returns-then-plan-eq0-clause-received g c =
    received_none _ c.args.plan.conns c.args.worker.now.lane.worker c.args.worker.now.lane.door
    c.args.worker.now.lane.line c.args.worker.now.lane.put (in_hand c.args.worker.now.lane.heard) c.requires.door
    c.args.worker.now.lane.at_door c.args.worker.now.lane.numbers (record { connections = 0; faults = 0 })
    c.if-plan-eq0.true

pub returns-then-plan-eq0-clause-leaves : goal.returns-then-plan-eq0-clause-leaves
returns-then-plan-eq0-clause-leaves g c =
    left_idle c.args.words.now _ c.args.deal (clients_of c.args.worker.now.lane.put) c.args.worker.now.pass _
    (ap clients_of
    (none_put 0 c.args.plan.conns c.args.worker.now.lane.worker c.args.worker.now.lane.door
    c.args.worker.now.lane.line c.args.worker.now.lane.put (in_hand c.args.worker.now.lane.heard) c.requires.door
    c.args.worker.now.lane.at_door c.args.worker.now.lane.numbers)) c.requires.newcomer

pub returns-in_default-clause-worked : goal.returns-in_default-clause-worked
returns-in_default-clause-worked g c =
    worked_not _ c.args.plan c.args.worker.now.lane.net c.args.worker.now.lane.put
    (is_early c.args.worker.now.lane.heard)
    (none_put 0 c.args.plan.conns c.args.worker.now.lane.worker c.args.worker.now.lane.door
    c.args.worker.now.lane.line c.args.worker.now.lane.put (in_hand c.args.worker.now.lane.heard) c.requires.door
    c.args.worker.now.lane.at_door c.args.worker.now.lane.numbers)
    c.requires.fresh

pub returns-in_default-clause-received : goal.returns-in_default-clause-received
returns-in_default-clause-received g c =
    received_not _ c.args.plan.conns c.args.worker.now.lane.worker c.args.worker.now.lane.door
    c.args.worker.now.lane.line c.args.worker.now.lane.put (in_hand c.args.worker.now.lane.heard) c.requires.door
    c.args.worker.now.lane.at_door c.args.worker.now.lane.numbers Memory

pub returns-in_default-clause-leaves : goal.returns-in_default-clause-leaves
returns-in_default-clause-leaves g c = left_unseated c.args.words.now _ c.args.deal _ c.take_seat.new.pass Memory
    c.in_default.ensures.none

pub returns-clause-worked : goal.returns-clause-worked
returns-clause-worked g c =
    worked (members g.N.Poller g.N.Net) c.args.plan c.args.worker.now.lane.net c.serve_on-outcome.new.net.net
    c.args.worker.now.lane.ready c.serve_on-outcome.new.net.ready c.args.worker.now.lane.door
    c.serve_on-outcome.new.net.door (is_early c.args.worker.now.lane.heard) (is_early c.serve_on-outcome.new.net.heard)
    (clients_of c.args.worker.now.lane.put) c.serve_on-outcome.new.net.put
    (ap clients_of
    (none_put 0 c.args.plan.conns c.args.worker.now.lane.worker c.args.worker.now.lane.door
    c.args.worker.now.lane.line c.args.worker.now.lane.put (in_hand c.args.worker.now.lane.heard) c.requires.door
    c.args.worker.now.lane.at_door c.args.worker.now.lane.numbers))
    c.serve_on-outcome.new.net.spare c.serve_on-outcome.result.0 c.requires.on_time c.serve_on-outcome.ensures.serves

pub returns-clause-received : goal.returns-clause-received
returns-clause-received g c =
    received_all c.args.plan
    (lane_view c.args.worker.now.lane.ready c.args.worker.now.lane.door (is_early c.args.worker.now.lane.heard)
    (clients_of c.args.worker.now.lane.put) (view_of (members g.N.Poller g.N.Net) c.args.worker.now.lane.net))
    (lane_view c.serve_on-outcome.new.net.ready c.serve_on-outcome.new.net.door
    (is_early c.serve_on-outcome.new.net.heard) (clients_of c.serve_on-outcome.new.net.put)
    (view_of (members g.N.Poller g.N.Net) c.serve_on-outcome.new.net.net))
    c.args.worker.now.lane.put c.serve_on-outcome.new.net.put c.serve_on-outcome.new.net.line
    c.serve_on-outcome.new.net.worker c.serve_on-outcome.new.net.door c.serve_on-outcome.result.0
    (none_put 0 c.args.plan.conns c.args.worker.now.lane.worker c.args.worker.now.lane.door
    c.args.worker.now.lane.line c.args.worker.now.lane.put (in_hand c.args.worker.now.lane.heard) c.requires.door
    c.args.worker.now.lane.at_door c.args.worker.now.lane.numbers)
    refl refl refl c.serve_on-outcome.ensures.serves c.serve_on-outcome.new.net.at_door

pub returns-clause-leaves : goal.returns-clause-leaves
returns-clause-leaves g c =
    let none = ap clients_of
    (none_put 0 c.args.plan.conns c.args.worker.now.lane.worker c.args.worker.now.lane.door
    c.args.worker.now.lane.line c.args.worker.now.lane.put (in_hand c.args.worker.now.lane.heard) c.requires.door
    c.args.worker.now.lane.at_door c.args.worker.now.lane.numbers) in
    left_served c.args.words.now _ c.args.deal (clients_of c.serve_on-outcome.new.net.put) c.args.plan.conns
    c.in-Some.board c.serve_on-outcome.result.1 c.leave_seat.new.pass c.serve_on-outcome.result.0 c.if-plan-eq0.false
    c.in-Some.ensures.seat c.serve_on-outcome.ensures.seat
    (served_length c.args.plan _ _ c.serve_on-outcome.result.0 none c.serve_on-outcome.ensures.serves)
    (on_ok_weaker c.serve_on-outcome.result.0
    (λ all. all (clients_of c.serve_on-outcome.new.net.put)
    (ap (λ l. l ++ clients_of c.serve_on-outcome.new.net.put) (sym none)))
    c.serve_on-outcome.ensures.registered) c.leave_seat.ensures.ready c.leave_seat.ensures.called
