use Rattle.std.proofs.Common.{◌∙◌, ap}
use Rattle.nio_select.specs.InHand.{selection_of}
use Rattle.nio_board.proofs.BoardCalls.{leaves_selection}
use Rattle.nio_board.proofs.TableCalls.{its_selector, rest_leaves, same_board}
use Rattle.nio_board.proofs.board.selection.leave.Goals as goal

pub give_back-requires : goal.give_back-requires
give_back-requires c = record {
  lent = c.requires.begun.lent;
  its = its_selector c.args.selection c.leave-list.result c.leave-list.ensures.back.back c.requires.begun;
}

pub returns-clause-rest : goal.returns-clause-rest
returns-clause-rest c =
    rest_leaves c.args.selection c.leave-list.result c.give_back.new.self c.give_back.ensures
    c.leave-list.ensures.call
    c.leave-list.ensures.ready c.leave-list.ensures.back c.requires.begun c.requires.rest

pub returns-clause-same : goal.returns-clause-same
returns-clause-same c = same_board c.give_back.new.self (ap (λ s. s.number) c.give_back.ensures)

pub returns-clause-back : goal.returns-clause-back
returns-clause-back c = ap (λ s. s.list) c.give_back.ensures ∙ c.leave-list.ensures.back.back

pub returns-clause-made : goal.returns-clause-made
returns-clause-made c =
    leaves_selection _ _ _ c.args.at.now c.give_back.new.self (selection_of c.args.selection)
    c.leave-list.ensures.call
