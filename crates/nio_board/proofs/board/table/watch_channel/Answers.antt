use Rattle.std.proofs.Common.{subst}
use Rattle.std.proofs.lemmas.Result.{IfOk-weaker, on_err_weaker}
use Rattle.nio_base.specs.declared.numbers.ChanId.{ChanId}
use Rattle.nio_board.proofs.BoardCalls.{made_nothing, watch_isnt_taken}
use Rattle.nio_board.specs.Board.{board_of}
use Rattle.nio_board.specs.BoardCalls.{FailsToTake, FailsToWatch, HasMade, WatchesChannel, take_no_number}
use Rattle.nio_board.specs.Called.{table_channel}
use Rattle.nio_board.proofs.board.table.watch_channel.Goals as goal

pub returns-in-Some-clause-watched : goal.returns-in-Some-clause-watched
returns-in-Some-clause-watched g c = c.watch_own.ensures.watched c.args.chan c.in-Some.ensures

pub returns-in-Some-clause-made : goal.returns-in-Some-clause-made
returns-in-Some-clause-made g c =
    let a = board_of c.args.w.now c.args.p.now c.args.at.now in
    let b = board_of c.args.w.now c.watch_own.new.p c.args.at.now in
    let at = c.args.at.now in
    IfOk-weaker c.watch_own.result
    (λ key. HasMade a b (WatchesChannel at.deal at.selector.number c.args.kind c.in-Some.own c.args.ops key))
    (λ key. HasMade a b
    (WatchesChannel at.deal at.selector.number c.args.kind (table_channel at.deal c.args.chan) c.args.ops key))
    (λ key made. subst
    (λ (x : ChanId). HasMade a b (WatchesChannel at.deal at.selector.number c.args.kind x c.args.ops key))
    c.in-Some.ensures made) c.watch_own.ensures.made

pub returns-in-Some-clause-failed : goal.returns-in-Some-clause-failed
returns-in-Some-clause-failed g c =
    let a = board_of c.args.w.now c.args.p.now c.args.at.now in
    let b = board_of c.args.w.now c.watch_own.new.p c.args.at.now in
    let at = c.args.at.now in
    on_err_weaker c.watch_own.result
    (λ failed. subst
    (λ (x : ChanId). HasMade a b (FailsToWatch at.deal at.selector.number c.args.kind x c.args.ops)) c.in-Some.ensures
    failed) c.watch_own.ensures.failed

pub returns-in-None-clause-failed : goal.returns-in-None-clause-failed
returns-in-None-clause-failed g c =
    let at = c.args.at.now in
    watch_isnt_taken at.deal at.selector.number c.args.kind (table_channel at.deal c.args.chan) c.args.ops
    (made_nothing (board_of c.args.w.now c.args.p.now at)
    (FailsToTake c.args.kind at.deal (table_channel at.deal c.args.chan)) (take_no_number c.in-None.ensures))
