use Rattle.std.proofs.Common.{List, subst, sym}
use Rattle.nio_base.specs.declared.numbers.ChanId.{ChanId}
use Rattle.nio_board.proofs.Calls.{new_station, rest_at_first}
use Rattle.nio_board.proofs.board.Board.over.Goals as goal
use Rattle.nio_board.specs.Board.{IsAtRest, board_of}

pub invariant_of-result : goal.invariant_of-result
invariant_of-result c =
    let new = new_station c.args.caller c.take-selector.result c.args.deal in
    subst (λ (those : List ChanId). IsAtRest
    (board_of c.args.words.now c.take-selector.new.p (record new { registered = those }))) (sym c.new.ensures)
    (rest_at_first c.args.selector c.take-selector.result c.args.deal c.take-selector.ensures.call
    c.take-selector.ensures.ready c.take-selector.ensures.number c.take-selector.ensures.empty
    c.take-selector.ensures.may c.requires.idle c.requires.called)
