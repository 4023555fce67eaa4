use Rattle.std.proofs.Common.{◌∙◌, sym, [], ◌∷◌}
use Rattle.std.proofs.lemmas.Result.{IfOk-weaker, on_err_weaker}
use Rattle.nio_history.proofs.PassViews.{channel_after}
use Rattle.nio_board.proofs.BoardCalls.{done_of, on_err_any, watch_isnt_registered, watch_isnt_taken}
use Rattle.nio_board.proofs.BoardCalls.{watch_stays_blocking, watches_channel}
use Rattle.nio_board.specs.Board.{board_of}
use Rattle.nio_board.specs.BoardCalls.{AreMade, HasMade, WatchesChannel, registers}
use Rattle.nio_board.proofs.TableCalls.{rest_closed, rest_unblocked}
use Rattle.nio_board.proofs.board.table.watch_own.Goals as goal

pub close_channel-requires-clause-channel : goal.close_channel-requires-clause-channel
close_channel-requires-clause-channel g c = channel_after c.set_blocking.ensures.call.acts c.in_ok-take.ensures.has

pub close_channel-requires-clause-unpinned : goal.close_channel-requires-clause-unpinned
close_channel-requires-clause-unpinned g c =
    (rest_unblocked _ _ c.set_blocking.ensures.call c.set_blocking.ensures.ready c.take.ensures.rest).idle.unpinned

pub returns-then-is_err-clause-refused : goal.returns-then-is_err-clause-refused
returns-then-is_err-clause-refused g c =
    rest_closed _ c.close_channel.ensures.call c.close_channel.ensures.ready c.close_channel.ensures.unpinned
    (rest_unblocked _ _ c.set_blocking.ensures.call c.set_blocking.ensures.ready c.take.ensures.rest)

pub register_made-requires-clause-rest : goal.register_made-requires-clause-rest
register_made-requires-clause-rest g c =
    rest_unblocked _ _ c.set_blocking.ensures.call c.set_blocking.ensures.ready c.take.ensures.rest

pub register_made-requires-clause-channel : goal.register_made-requires-clause-channel
register_made-requires-clause-channel g c = channel_after c.set_blocking.ensures.call.acts c.in_ok-take.ensures.has

pub returns-in_err-take-clause-failed : goal.returns-in_err-take-clause-failed
returns-in_err-take-clause-failed g c =
    on_err_any c.from_residual.result
    (watch_isnt_taken c.args.at.now.deal c.args.at.now.selector.number c.args.kind c.args.own c.args.ops
    c.in_err-take.ensures.failed)

pub returns-then-is_err-clause-failed : goal.returns-then-is_err-clause-failed
returns-then-is_err-clause-failed g c =
    watch_stays_blocking _ _ c.take.new.p c.set_blocking.new.p _ c.args.at.now c.args.kind c.args.own c.args.ops
    c.close_channel.result (sym c.is_err.ensures.value ∙ c.if-is_err.true) c.in_ok-take.ensures.taken
    c.set_blocking.ensures.call c.close_channel.ensures.call

pub returns-clause-made : goal.returns-clause-made
returns-clause-made g c =
    let unblocked = done_of c.set_blocking.result (sym c.is_err.ensures.value ∙ c.if-is_err.false) in
    IfOk-weaker c.register_made.result
    (λ key. AreMade (board_of c.args.w.now c.set_blocking.new.p c.args.at.now)
    (board_of c.args.w.now c.register_made.new.p c.args.at.now)
    (registers c.args.at.now.selector.number c.args.own c.args.ops key ∷ []))
    (λ key. HasMade (board_of c.args.w.now c.args.p.now c.args.at.now)
    (board_of c.args.w.now c.register_made.new.p c.args.at.now)
    (WatchesChannel c.args.at.now.deal c.args.at.now.selector.number c.args.kind c.args.own c.args.ops key))
    (λ key registered.
    watches_channel _ _ c.take.new.p c.set_blocking.new.p _ c.args.at.now c.args.kind c.args.own c.args.ops key
    unblocked c.in_ok-take.ensures.taken c.set_blocking.ensures.call registered) c.register_made.ensures.made

pub returns-clause-failed : goal.returns-clause-failed
returns-clause-failed g c =
    let unblocked = done_of c.set_blocking.result (sym c.is_err.ensures.value ∙ c.if-is_err.false) in
    on_err_weaker c.register_made.result
    (λ failed.
    watch_isnt_registered _ _ c.take.new.p c.set_blocking.new.p _ c.args.at.now c.args.kind c.args.own c.args.ops
    unblocked c.in_ok-take.ensures.taken c.set_blocking.ensures.call failed) c.register_made.ensures.failed
