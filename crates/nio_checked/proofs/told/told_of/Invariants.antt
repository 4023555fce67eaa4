use Rattle.std.proofs.Common.{◌≡◌, take}
use Rattle.nio_steps.specs.SelectCalls.{told_at}
use Rattle.nio_checked.proofs.told.told_of.Given as goal

abbrev pub invariant-loop-pair : goal.invariant-loop-pair
invariant-loop-pair l = l.bits ≡ told_at (take l.pair-index l.pairs) l.index
