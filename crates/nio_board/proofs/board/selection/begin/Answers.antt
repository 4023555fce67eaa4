use Rattle.std.proofs.Common.{ap}
use Rattle.nio_history.specs.declared.found.Mode.TheVariants.{Wait}
use Rattle.nio_select.specs.InHand.{selection_of}
use Rattle.nio_select.specs.Listed.{ok_seen}
use Rattle.nio_board.proofs.BoardCalls.{begins_selection, begin_is_refused}
use Rattle.nio_board.proofs.Calls.{may_select}
use Rattle.nio_board.proofs.TableCalls.{rest_begun, rest_refused_begin, same_board, selects_begun}
use Rattle.nio_board.proofs.board.selection.begin.Goals as goal

pub begin-requires-clause-may : goal.begin-requires-clause-may
begin-requires-clause-may c = may_select c.requires

pub returns-in-Ok-clause-rest : goal.returns-in-Ok-clause-rest
returns-in-Ok-clause-rest c =
    rest_begun Wait c.begin.new.self c.begin.ensures.call c.begin.ensures.ready c.requires
    (selection_of c.in-Ok.selection) (ap (ok_seen selection_of) c.in-Ok.is) c.in-Ok.ensures.lent.0

pub returns-in-Ok-clause-same : goal.returns-in-Ok-clause-same
returns-in-Ok-clause-same c = same_board c.begin.new.self (ap (λ s. s.number) c.in-Ok.ensures.lent.0)

pub returns-in-Ok-clause-begun : goal.returns-in-Ok-clause-begun
returns-in-Ok-clause-begun c =
    selects_begun Wait c.begin.new.self c.begin.ensures.call c.begin.ensures.ready c.requires
    (selection_of c.in-Ok.selection) (ap (ok_seen selection_of) c.in-Ok.is) c.in-Ok.ensures.lent.0
    c.in-Ok.ensures.begun

pub returns-in-Ok-clause-made : goal.returns-in-Ok-clause-made
returns-in-Ok-clause-made c =
    begins_selection _ _ _ c.args.at.now c.begin.new.self (selection_of c.in-Ok.selection)
    (ap (ok_seen selection_of) c.in-Ok.is) c.begin.ensures.call

pub returns-in-Err-clause-rest : goal.returns-in-Err-clause-rest
returns-in-Err-clause-rest c =
    rest_refused_begin Wait c.begin.new.self c.begin.ensures.call c.begin.ensures.ready c.requires c.in-Err._refusal
    (ap (ok_seen selection_of) c.in-Err.is) c.in-Err.ensures.refused.0

pub returns-in-Err-clause-same : goal.returns-in-Err-clause-same
returns-in-Err-clause-same c = same_board c.begin.new.self (ap (λ s. s.number) c.in-Err.ensures.refused.0)

pub returns-in-Err-clause-refused : goal.returns-in-Err-clause-refused
returns-in-Err-clause-refused c =
    begin_is_refused _ _ _ c.args.at.now c.begin.new.self c.in-Err._refusal (ap (ok_seen selection_of) c.in-Err.is)
    c.begin.ensures.call
