use Rattle.std.proofs.Common.{arith}
use Rattle.nio_board.proofs.BoardCalls.{after_before, take_isnt_found, take_isnt_opened, take_isnt_reopened}
use Rattle.nio_board.proofs.BoardCalls.{takes_found, takes_opened, takes_reopened}
use Rattle.nio_board.proofs.board.table.take.Goals as goal

pub returns-then-chan-gt0-clause-taken : goal.returns-then-chan-gt0-clause-taken
returns-then-chan-gt0-clause-taken c =
    takes_reopened _ _ c.reopen.result c.args.at.now.deal c.args.kind _ c.args.chan
    (after_before c.args.chan (omega (arith, c.if-chan-gt0.true))) c.reopen.ensures.taken

pub returns-then-chan-gt0-clause-failed : goal.returns-then-chan-gt0-clause-failed
returns-then-chan-gt0-clause-failed c =
    take_isnt_reopened _ _ c.reopen.result c.args.at.now.deal c.args.kind _ c.args.chan
    (after_before c.args.chan (omega (arith, c.if-chan-gt0.true))) c.reopen.ensures.failed

pub returns-in-None-clause-taken : goal.returns-in-None-clause-taken
returns-in-None-clause-taken c =
    takes_opened _ _ c.open_first.result c.args.at.now.deal c.args.kind c.args.chan
    (omega (arith, c.if-chan-gt0.false)) c.in-None.is c.open_first.ensures.taken

pub returns-in-None-clause-failed : goal.returns-in-None-clause-failed
returns-in-None-clause-failed c =
    take_isnt_opened _ _ c.open_first.result c.args.at.now.deal c.args.kind c.args.chan
    (omega (arith, c.if-chan-gt0.false)) c.in-None.is c.open_first.ensures.failed

pub returns-in-Some-clause-taken : goal.returns-in-Some-clause-taken
returns-in-Some-clause-taken c =
    takes_found _ _ c.find_made.result c.args.at.now.deal _ c.args.kind c.args.chan
    (omega (arith, c.if-chan-gt0.false)) c.in-Some.is c.find_made.ensures.taken

pub returns-in-Some-clause-failed : goal.returns-in-Some-clause-failed
returns-in-Some-clause-failed c =
    take_isnt_found _ _ c.find_made.result c.args.at.now.deal _ c.args.kind c.args.chan
    (omega (arith, c.if-chan-gt0.false)) c.in-Some.is c.find_made.ensures.failed
