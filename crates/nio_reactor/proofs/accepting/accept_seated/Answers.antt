use Rattle.std.proofs.Common.{[], ◌∷◌, subst}
use Rattle.nio_board.specs.declared.deal.Deal.{Deal}
use Rattle.nio_serve.specs.Serving.{listener}
use Rattle.nio_reactor.proofs.Seating.{left_seat, left_unseated}
use Rattle.nio_reactor.specs.Seats.{LeavesSeat, acceptor_deal}
use Rattle.nio_reactor.specs.declared.many.ManyError.TheVariants.{Memory}
use Rattle.nio_reactor.proofs.accepting.accept_seated.Goals as goal

pub returns-in_default-clause-seat : goal.returns-in_default-clause-seat
returns-in_default-clause-seat g c =
    left_unseated c.args.words.now 0 acceptor_deal (listener ∷ []) c.take_seat.new.pass Memory c.in_default.ensures.none

pub returns-clause-seat : goal.returns-clause-seat
returns-clause-seat g c =
    subst (λ (deal : Deal). LeavesSeat c.args.words.now 0 deal (listener ∷ []) c.leave_seat.new.pass
    c.accept_plan-outcome.result) c.acceptor_share.ensures
    (left_seat c.args.words.now 0 c.acceptor_share.result (listener ∷ []) c.in-Some.board c.accept_plan-outcome.new.board
    c.leave_seat.new.pass c.accept_plan-outcome.result c.in-Some.ensures.seat c.accept_plan-outcome.ensures.seat
    c.accept_plan-outcome.ensures.registered c.leave_seat.ensures.ready c.leave_seat.ensures.called)
