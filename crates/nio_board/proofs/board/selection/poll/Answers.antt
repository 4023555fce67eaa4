use Rattle.std.proofs.Common.{refl}
use Rattle.nio_board.specs.Polling.{no_answer}
use Rattle.nio_board.proofs.board.selection.poll.Goals as goal

pub returns-in-Err-clause-failed : goal.returns-in-Err-clause-failed
returns-in-Err-clause-failed g c = no_answer _ refl
