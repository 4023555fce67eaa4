use Rattle.std.proofs.Common.{◌≡◌, ◌∙◌, Ok, ap, rules, sym}
use Rattle.nio_board.proofs.BoardCalls.{fails_to_open, is_other, made_open, opens_other}
use Rattle.nio_board.proofs.TableCalls.{rest_closed, rest_opened}
use Rattle.nio_board.proofs.board.table.open_first.Goals as goal

pub returns-in-Ok-clause-rest : goal.returns-in-Ok-clause-rest
returns-in-Ok-clause-rest c = rest_opened _ c.open_channel.ensures.call c.open_channel.ensures.ready c.requires

pub close_channel-requires-clause-unpinned : goal.close_channel-requires-clause-unpinned
close_channel-requires-clause-unpinned c =
    (rest_opened _ c.open_channel.ensures.call c.open_channel.ensures.ready c.requires).idle.unpinned

pub returns-in-Ok-2-clause-rest : goal.returns-in-Ok-2-clause-rest
returns-in-Ok-2-clause-rest c =
    rest_closed _ c.close_channel.ensures.call c.close_channel.ensures.ready c.close_channel.ensures.unpinned
    (rest_opened _ c.open_channel.ensures.call c.open_channel.ensures.ready c.requires)

pub returns-in-Err-clause-rest : goal.returns-in-Err-clause-rest
returns-in-Err-clause-rest c = rest_opened _ c.open_channel.ensures.call c.open_channel.ensures.ready c.requires

pub returns-in-Err-clause-failed : goal.returns-in-Err-clause-failed
returns-in-Err-clause-failed c =
    fails_to_open _ _ _ c.args.at.now c.args.kind c.args.chan c.in-Err._refusal c.in-Err.is
    c.open_channel.ensures.call

pub returns-in-Ok-clause-taken : goal.returns-in-Ok-clause-taken
returns-in-Ok-clause-taken c =
    let same : c.in-Ok.made ≡ c.args.chan = search rules in
    made_open _ _ _ c.args.at.now c.args.kind (Ok c.args.chan) (c.in-Ok.is ∙ ap Ok same)
    c.open_channel.ensures.call

pub returns-in-Ok-2-clause-failed : goal.returns-in-Ok-2-clause-failed
returns-in-Ok-2-clause-failed c =
    let other = is_other c.in-Ok.made c.args.chan (sym c.eq.ensures ∙ c.if-eq.false) in
    opens_other _ _ c.open_channel.new.p _ c.args.at.now c.args.kind c.args.chan c.in-Ok.made c.close_channel.result
    c.in-Ok.is other c.open_channel.ensures.call
    c.close_channel.ensures.call
