use Rattle.nio_board.proofs.BoardCalls.{sets_interest, set_finds_none, set_is_refused}
use Rattle.nio_board.proofs.TableCalls.{rest_found, rest_set}
use Rattle.nio_board.proofs.board.table.set_interest_of.Goals as goal

pub set_interest-requires-clause-unpinned : goal.set_interest-requires-clause-unpinned
set_interest-requires-clause-unpinned c =
    (rest_found _ _ _ c.find.ensures.call c.find.ensures.ready c.requires).idle.unpinned

pub returns-in-Ok-clause-rest : goal.returns-in-Ok-clause-rest
returns-in-Ok-clause-rest c =
    rest_set _ _ c.set_interest.ensures.call c.set_interest.ensures.ready c.set_interest.ensures.unpinned
    (rest_found _ _ _ c.find.ensures.call c.find.ensures.ready c.requires)

pub returns-in-Err-clause-rest : goal.returns-in-Err-clause-rest
returns-in-Err-clause-rest c =
    rest_set _ _ c.set_interest.ensures.call c.set_interest.ensures.ready c.set_interest.ensures.unpinned
    (rest_found _ _ _ c.find.ensures.call c.find.ensures.ready c.requires)

pub returns-in_default-clause-rest : goal.returns-in_default-clause-rest
returns-in_default-clause-rest c = rest_found _ _ _ c.find.ensures.call c.find.ensures.ready c.requires

pub returns-in-Ok-clause-made : goal.returns-in-Ok-clause-made
returns-in-Ok-clause-made c =
    sets_interest _ _ c.find.new.p _ c.args.at.now _ c.args.key c.args.ops c.in-Some.key c.number.ensures
    c.in-Some.is c.in-Ok.is c.find.ensures.call
    c.set_interest.ensures.call

pub returns-in-Err-clause-refused : goal.returns-in-Err-clause-refused
returns-in-Err-clause-refused c =
    set_is_refused _ _ c.find.new.p _ c.args.at.now _ c.args.key c.args.ops c.in-Some.key c.in-Err._refusal
    c.number.ensures c.in-Some.is c.in-Err.is
    c.find.ensures.call c.set_interest.ensures.call

pub returns-in_default-clause-refused : goal.returns-in_default-clause-refused
returns-in_default-clause-refused c =
    set_finds_none _ _ _ c.args.at.now _ c.args.key c.args.ops c.number.ensures c.in_default.is c.find.ensures.call
