use Rattle.nio_board.proofs.BoardCalls.{closes_channel, close_finds_none}
use Rattle.nio_board.proofs.TableCalls.{rest_closed, rest_found_channel}
use Rattle.nio_board.proofs.board.table.close_made.Goals as goal

pub close_channel-requires-clause-unpinned : goal.close_channel-requires-clause-unpinned
close_channel-requires-clause-unpinned c =
    (rest_found_channel _ _ c.find_channel.ensures.call c.find_channel.ensures.ready c.requires).idle.unpinned

pub returns-in-Some-clause-rest : goal.returns-in-Some-clause-rest
returns-in-Some-clause-rest c =
    rest_closed _ c.close_channel.ensures.call c.close_channel.ensures.ready c.close_channel.ensures.unpinned
    (rest_found_channel _ _ c.find_channel.ensures.call c.find_channel.ensures.ready c.requires)

pub returns-in_default-clause-rest : goal.returns-in_default-clause-rest
returns-in_default-clause-rest c =
    rest_found_channel _ _ c.find_channel.ensures.call c.find_channel.ensures.ready c.requires

pub returns-in-Some-clause-made : goal.returns-in-Some-clause-made
returns-in-Some-clause-made c =
    closes_channel _ _ c.find_channel.new.p _ c.args.at.now c.args.chan c.in-Some.made c.close_channel.result
    c.in-Some.is
    c.find_channel.ensures.call c.close_channel.ensures.call

pub returns-in_default-clause-made : goal.returns-in_default-clause-made
returns-in_default-clause-made c =
    close_finds_none _ _ _ c.args.at.now c.args.chan c.in_default.is c.find_channel.ensures.call
