use Rattle.std.proofs.Common.{Ok}
use Rattle.nio_history.proofs.PassViews.{channel_after}
use Rattle.nio_board.proofs.BoardCalls.{fails_to_register, made_registration}
use Rattle.nio_board.proofs.TableCalls.{rest_closed, rest_refused, rest_watched}
use Rattle.nio_board.proofs.board.table.register_made.Goals as goal

pub close_channel-requires-clause-channel : goal.close_channel-requires-clause-channel
close_channel-requires-clause-channel g c = channel_after c.register.ensures.call.acts c.requires.channel

pub returns-in-Ok-clause-watched : goal.returns-in-Ok-clause-watched
returns-in-Ok-clause-watched g c chan is =
    rest_watched _ _ chan _ _ c.in-Ok.key c.number.ensures c.in-Ok.is is c.register.ensures.call
    c.register.ensures.ready c.register.ensures.unpinned c.requires.rest

pub returns-in-Err-clause-refused : goal.returns-in-Err-clause-refused
returns-in-Err-clause-refused g c =
    rest_closed _ c.close_channel.ensures.call c.close_channel.ensures.ready c.close_channel.ensures.unpinned
    (rest_refused _ _ _ _ c.in-Err._refusal c.in-Err.is c.register.ensures.call c.register.ensures.ready
    c.register.ensures.unpinned c.requires.rest)

pub returns-in-Ok-clause-made : goal.returns-in-Ok-clause-made
returns-in-Ok-clause-made g c =
    made_registration _ _ _ c.args.at.now _ c.args.own c.args.ops (Ok c.in-Ok.key) c.number.ensures c.in-Ok.is
    c.register.ensures.call

pub returns-in-Err-clause-failed : goal.returns-in-Err-clause-failed
returns-in-Err-clause-failed g c =
    fails_to_register _ _ c.register.new.p _ c.args.at.now _ c.args.own c.args.ops c.in-Err._refusal
    c.close_channel.result c.number.ensures c.in-Err.is c.register.ensures.call c.close_channel.ensures.call
