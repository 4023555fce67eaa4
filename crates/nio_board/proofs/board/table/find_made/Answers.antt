use Rattle.std.proofs.Common.{◌≡◌, ◌∙◌, Some, ap, rules, sym}
use Rattle.nio_board.proofs.BoardCalls.{fails_to_find, finds_other, is_other, made_find_channel}
use Rattle.nio_board.proofs.TableCalls.{rest_found_channel}
use Rattle.nio_board.proofs.board.table.find_made.Goals as goal

pub returns-in_default-clause-rest : goal.returns-in_default-clause-rest
returns-in_default-clause-rest c =
    rest_found_channel _ _ c.find_channel.ensures.call c.find_channel.ensures.ready c.requires

pub returns-in_default-clause-failed : goal.returns-in_default-clause-failed
returns-in_default-clause-failed c =
    fails_to_find _ _ _ c.args.at.now c.args.chan c.in_default.is c.find_channel.ensures.call

pub returns-then-eq-clause-rest : goal.returns-then-eq-clause-rest
returns-then-eq-clause-rest c =
    rest_found_channel _ _ c.find_channel.ensures.call c.find_channel.ensures.ready c.requires

pub returns-then-eq-clause-taken : goal.returns-then-eq-clause-taken
returns-then-eq-clause-taken c =
    let same : c.in-Some.made ≡ c.args.chan = search rules in
    made_find_channel _ _ _ c.args.at.now c.args.chan (Some c.args.chan) (c.in-Some.is ∙ ap Some same)
    c.find_channel.ensures.call

pub returns-else-eq-clause-rest : goal.returns-else-eq-clause-rest
returns-else-eq-clause-rest c =
    rest_found_channel _ _ c.find_channel.ensures.call c.find_channel.ensures.ready c.requires

pub returns-else-eq-clause-failed : goal.returns-else-eq-clause-failed
returns-else-eq-clause-failed c =
    let other = is_other c.in-Some.made c.args.chan (sym c.eq.ensures ∙ c.if-eq.false) in
    finds_other _ _ _ c.args.at.now c.args.chan c.in-Some.made c.in-Some.is other c.find_channel.ensures.call
