use Rattle.nio_select.specs.InProgress.{poll_of}
use Rattle.nio_board.proofs.Polling.{has_failed, has_polled}
use Rattle.nio_board.specs.Polling.{not_listed}
use Rattle.nio_board.proofs.board.selection.poll_for.Goals as goal

pub returns-in-Err-resolve-clause-failed : goal.returns-in-Err-resolve-clause-failed
returns-in-Err-resolve-clause-failed g c =
    not_listed (poll_of c.in-Ok.answer) (has_polled c.poll.ensures.polls c.in-Ok.answer c.in-Ok.is c.in-Ok.ensures.ready)

pub returns-in-Err-clause-failed : goal.returns-in-Err-clause-failed
returns-in-Err-clause-failed g c = has_failed c.poll.ensures.polls c.in-Err.error c.in-Err.is
