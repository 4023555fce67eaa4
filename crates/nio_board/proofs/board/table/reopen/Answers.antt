use Rattle.std.proofs.Common.{◌∙◌, Ok, ap}
use Rattle.nio_board.proofs.BoardCalls.{before_isnt_found, fails_to_reopen, made_reopens, on_err_any}
use Rattle.nio_board.proofs.TableCalls.{rest_reopened}
use Rattle.nio_board.proofs.board.table.reopen.Goals as goal

pub returns-in_err-find_made-clause-failed : goal.returns-in_err-find_made-clause-failed
returns-in_err-find_made-clause-failed c =
    on_err_any c.from_residual.result (before_isnt_found c.args.before c.in_err-find_made.ensures.failed)

pub returns-in-Ok-clause-rest : goal.returns-in-Ok-clause-rest
returns-in-Ok-clause-rest c =
    rest_reopened _ c.reopen_channel.ensures.call c.reopen_channel.ensures.ready c.find_made.ensures.rest

pub returns-in-Ok-clause-taken : goal.returns-in-Ok-clause-taken
returns-in-Ok-clause-taken c =
    made_reopens _ _ c.find_made.new.p _ c.args.at.now c.args.before (c.in-Ok.is ∙ ap Ok c.in-Ok.ensures.next)
    c.in_ok-find_made.ensures.taken c.reopen_channel.ensures.call

pub returns-in-Err-clause-rest : goal.returns-in-Err-clause-rest
returns-in-Err-clause-rest c =
    rest_reopened _ c.reopen_channel.ensures.call c.reopen_channel.ensures.ready c.find_made.ensures.rest

pub returns-in-Err-clause-failed : goal.returns-in-Err-clause-failed
returns-in-Err-clause-failed c =
    fails_to_reopen _ _ c.find_made.new.p _ c.args.at.now c.args.before c.in-Err._refusal c.in-Err.is
    c.in_ok-find_made.ensures.taken c.reopen_channel.ensures.call
