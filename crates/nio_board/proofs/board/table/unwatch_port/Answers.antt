use Rattle.std.proofs.Common.{refl, subst}
use Rattle.nio_base.specs.declared.numbers.ChanId.{ChanId}
use Rattle.nio_board.proofs.BoardCalls.{made_both, made_nothing}
use Rattle.nio_board.proofs.board.table.unwatch_port.Goals as goal
use Rattle.nio_board.specs.Board.{board_of}
use Rattle.nio_board.specs.BoardCalls.{CancelsKey, ClosesChannel, HasMade, no_number}
use Rattle.nio_board.specs.Called.{table_channel}

pub returns-in-Some-clause-made : goal.returns-in-Some-clause-made
returns-in-Some-clause-made c =
    made_both (CancelsKey c.args.at.now.selector.number c.args.port.key)
    (ClosesChannel (table_channel c.args.at.now.deal c.args.port.chan)) refl c.cancel_key.ensures.made
    (subst (λ (x : ChanId). HasMade (board_of c.args.w.now c.cancel_key.new.p c.args.at.now)
    (board_of c.args.w.now c.close_made.new.p c.args.at.now) (ClosesChannel x)) c.in-Some.ensures
    c.close_made.ensures.made)

pub returns-in_default-clause-made : goal.returns-in_default-clause-made
returns-in_default-clause-made c =
    let none = ClosesChannel (table_channel c.args.at.now.deal c.args.port.chan) in
    made_both (CancelsKey c.args.at.now.selector.number c.args.port.key) none refl c.cancel_key.ensures.made
    (made_nothing (board_of c.args.w.now c.cancel_key.new.p c.args.at.now) none (no_number c.in_default.ensures))
