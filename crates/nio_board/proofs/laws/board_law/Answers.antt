use Rattle.nio_board.proofs.Calls.{drawn_is_unregistered}
use Rattle.nio_board.proofs.laws.board_law.Goals as goal

pub returns : goal.returns
returns c = record { drawn = drawn_is_unregistered }
