use Rattle.std.proofs.Common.{ap}
use Rattle.nio_select.specs.InHand.{selection_of}
use Rattle.nio_select.specs.InProgress.{poll_of, told_reply}
use Rattle.nio_board.proofs.BoardCalls.{tells_and_ends, tells_and_leaves}
use Rattle.nio_board.proofs.TableCalls.{rest_goes_on, rest_tells, selects_again}
use Rattle.nio_board.proofs.board.selection.tell.Goals as goal

pub returns-in-Done-clause-rest : goal.returns-in-Done-clause-rest
returns-in-Done-clause-rest c =
    rest_tells c.args.selection c.in-Done.list c.give_back.new.self (poll_of c.args.answer.now) c.in-Done._selected
    c.give_back.ensures (ap told_reply c.in-Done.is) c.told.ensures.call c.told.ensures.ready c.in-Done.ensures.done
    c.requires.begun c.requires.rest

pub returns-in-Done-clause-made : goal.returns-in-Done-clause-made
returns-in-Done-clause-made c =
    tells_and_ends _ _ _ c.args.at.now c.give_back.new.self (selection_of c.args.selection)
    (poll_of c.args.answer.now) c.in-Done._selected (ap told_reply c.in-Done.is) c.told.ensures.call

pub leave-requires-clause-rest : goal.leave-requires-clause-rest
leave-requires-clause-rest c =
    rest_goes_on (poll_of c.args.answer.now) (selection_of c.in-Again.next) (ap told_reply c.in-Again.is)
    c.told.ensures.call c.told.ensures.ready c.requires.rest c.requires.begun

pub leave-requires-clause-begun : goal.leave-requires-clause-begun
leave-requires-clause-begun c =
    selects_again (poll_of c.args.answer.now) (selection_of c.in-Again.next) (ap told_reply c.in-Again.is)
    c.told.ensures.call c.told.ensures.ready c.requires.rest c.requires.begun c.in-Again.ensures.goes_on.1

pub returns-in-Again-clause-made : goal.returns-in-Again-clause-made
returns-in-Again-clause-made c =
    tells_and_leaves _ _ c.told.new.p c.args.at.now (selection_of c.args.selection) (poll_of c.args.answer.now)
    (selection_of c.in-Again.next) (ap told_reply c.in-Again.is) c.told.ensures.call c.leave.ensures.made
