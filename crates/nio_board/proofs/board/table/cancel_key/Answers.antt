use Rattle.nio_board.proofs.BoardCalls.{cancels_key, cancel_finds_none}
use Rattle.nio_board.proofs.TableCalls.{rest_found, rest_cancelled}
use Rattle.nio_board.proofs.board.table.cancel_key.Goals as goal

pub cancel-requires-clause-unpinned : goal.cancel-requires-clause-unpinned
cancel-requires-clause-unpinned c =
    (rest_found _ _ _ c.find.ensures.call c.find.ensures.ready c.requires).idle.unpinned

pub returns-in-Some-clause-rest : goal.returns-in-Some-clause-rest
returns-in-Some-clause-rest c =
    rest_cancelled _ c.cancel.ensures.call c.cancel.ensures.ready c.cancel.ensures.unpinned
    (rest_found _ _ _ c.find.ensures.call c.find.ensures.ready c.requires)

pub returns-in_default-clause-rest : goal.returns-in_default-clause-rest
returns-in_default-clause-rest c = rest_found _ _ _ c.find.ensures.call c.find.ensures.ready c.requires

pub returns-in-Some-clause-made : goal.returns-in-Some-clause-made
returns-in-Some-clause-made c =
    cancels_key _ _ c.find.new.p _ c.args.at.now _ c.args.key c.in-Some.key c.number.ensures c.in-Some.is
    c.find.ensures.call c.cancel.ensures.call

pub returns-in_default-clause-made : goal.returns-in_default-clause-made
returns-in_default-clause-made c = cancel_finds_none _ _ _ c.args.at.now _ c.args.key c.number.ensures
    c.in_default.is c.find.ensures.call
