use Rattle.std.proofs.Common.{◌≡◌, true, false, arith}
use Rattle.std.proofs.lemmas.Grind.{common_steps}
use Rattle.nio_link.proofs.MemoryLaws.{past_found, past_none, past_other}
use Rattle.nio_link.specs.Places.{is_same_channel}
use Rattle.nio_link.proofs.memory.slot.past_link.Goals as goal

pub returns-then-is_same_channel : goal.returns-then-is_same_channel
returns-then-is_same_channel c =
    let same : is_same_channel c.index-last.result.now.channel c.args.chan ≡ true = grind (arith, common_steps) in
    past_found c.args.past.now.items c.args.chan c.loop-at.at c.index-last.result.now (search (arith))
    c.index-last.ensures c.loop-at.invariant same

pub loop-at-preserved : goal.loop-at-preserved
loop-at-preserved c =
    let other : is_same_channel c.index-last.result.now.channel c.args.chan ≡ false = grind (arith, common_steps) in
    past_other c.args.past.now.items c.args.chan c.loop-at.at c.index-last.result.now (search (arith))
    c.index-last.ensures c.loop-at.invariant other

pub returns : goal.returns
returns c = past_none c.args.past.now.items c.args.chan c.loop-at.at (search (arith)) c.loop-at.invariant
