use Rattle.std.proofs.Common.{take}
use Rattle.nio_c.specs.Taking.{UnselectsEach}
use Rattle.nio_c.proofs.taking.unselect_each.Given as goal

abbrev pub invariant-loop-key : goal.invariant-loop-key
invariant-loop-key l = UnselectsEach (take l.key-index l.keys) l.initial.acting l.acting
