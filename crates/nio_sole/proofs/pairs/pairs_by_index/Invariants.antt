use Rattle.std.proofs.Common.{◌≡◌, take}
use Rattle.nio_sole.specs.Told.{told_pairs}
use Rattle.nio_sole.proofs.pairs.pairs_by_index.Given as goal

abbrev pub invariant-loop-id : goal.invariant-loop-id
invariant-loop-id l = l.told.items ≡ told_pairs l.asked.keys (take l.id-index l.pairs)
