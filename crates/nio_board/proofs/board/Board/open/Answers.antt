use Rattle.std.proofs.Common.{refl}
use Rattle.nio_orderly.specs.Made.{table_call}
use Rattle.nio_board.proofs.Calls.{did_unpinned, unregistered_after}
use Rattle.nio_board.proofs.board.Board.open.Goals as goal
use Rattle.nio_steps.proofs.PinBack.{no_pin_after}
use Rattle.nio_steps.proofs.PinLaws.{pins_are_given_back}
use Rattle.nio_steps.specs.TableCalls.{open_selector}

pub over-requires-clause-idle : goal.over-requires-clause-idle
over-requires-clause-idle c = record {
  ready = c.open_selector.ensures.ready;
  unpinned = no_pin_after (λ acts shape. pins_are_given_back.open_selector _ acts _ shape) c.open_selector.ensures.call
      c.requires.unpinned;
  selector = c.in-Ok.ensures.made;
}

pub over-requires-clause-called : goal.over-requires-clause-called
over-requires-clause-called c =
    unregistered_after (table_call open_selector _) (record { may_come = λ _. tt; registers_nothing = refl })
    (did_unpinned {p = c.args.pass} (table_call open_selector c.open_selector.result) (λ _ run. run)
    (pins_are_given_back.open_selector _) c.open_selector.ensures.call c.open_selector.ensures.ready
    c.requires.unpinned) c.requires.called
