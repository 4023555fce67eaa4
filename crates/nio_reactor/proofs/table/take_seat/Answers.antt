use Rattle.nio_reactor.proofs.Seating.{after_find_selector, handed_newcomer, seat_is, seated_idle}
use Rattle.nio_reactor.specs.Placing.{caller}
use Rattle.nio_reactor.proofs.table.take_seat.Goals as goal

pub over-requires-clause-idle : goal.over-requires-clause-idle
over-requires-clause-idle c =
    seated_idle c.args.words.now c.find_selector.new.p c.hand_over.new.p c.in-Ok.given (caller c.args.number)
    c.in_ok-selector.selector
    (after_find_selector c.args.words.now c.args.pass.now c.find_selector.new.p (caller c.args.number) c.args.number
    c.find_selector.result c.requires c.find_selector.ensures.call c.find_selector.ensures.ready)
    c.in-Ok.ensures c.in_ok-selector.ensures.found

pub over-requires-clause-called : goal.over-requires-clause-called
over-requires-clause-called c =
    (handed_newcomer c.args.words.now c.find_selector.new.p c.hand_over.new.p c.in-Ok.given (caller c.args.number)
    (after_find_selector c.args.words.now c.args.pass.now c.find_selector.new.p (caller c.args.number) c.args.number
    c.find_selector.result c.requires c.find_selector.ensures.call c.find_selector.ensures.ready)
    c.in-Ok.ensures).unregistered

pub returns-clause-seat : goal.returns-clause-seat
returns-clause-seat c =
    seat_is c.args.words.now c.args.number c.args.deal c.in_ok-selector.selector c.over.result _ c.over.ensures.words
    c.over.ensures.caller c.over.ensures.selector c.over.ensures.deal c.over.ensures.registered
    c.in_ok-selector.ensures.call.shape
