use Rattle.std.proofs.Common.{◌≡◌, true, false, arith}
use Rattle.std.proofs.lemmas.Grind.{common_steps}
use Rattle.nio_link.proofs.Peers.{found, not_found, place_within}
use Rattle.nio_link.specs.MemoryLinks.{is_same_peer}
use Rattle.nio_link.proofs.memory.passing.place_of_target.Goals as goal

pub returns-then-is_same_peer : goal.returns-then-is_same_peer
returns-then-is_same_peer c =
    let same : is_same_peer c.index.result.now.peer c.args.peer ≡ true = grind (arith, common_steps) in
    found c.args.targets.now.items c.args.peer c.loop-at.at c.index.result.now c.loop-at.invariant c.index.ensures same

pub loop-at-preserved : goal.loop-at-preserved
loop-at-preserved c =
    let other : is_same_peer c.index.result.now.peer c.args.peer ≡ false = grind (arith, common_steps) in
    not_found c.args.targets.now.items c.args.peer c.loop-at.at c.index.result.now c.loop-at.invariant c.index.ensures
    (search (arith)) other

pub returns : goal.returns
returns c =
    let most = place_within c.args.targets.now.items c.args.peer in
    search (arith)
