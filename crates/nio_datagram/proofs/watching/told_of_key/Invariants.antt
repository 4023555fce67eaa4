use Rattle.std.proofs.Common.{◌≡◌, take}
use Rattle.nio_steps.specs.SelectCalls.{told_at}
use Rattle.nio_datagram.proofs.watching.told_of_key.Given as goal

abbrev pub invariant-loop-one : goal.invariant-loop-one
invariant-loop-one l = l.ops ≡ told_at (take l.one-index l.pairs) l.index
