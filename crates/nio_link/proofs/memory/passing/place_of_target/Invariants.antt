use Rattle.std.proofs.Common.{◌≤◌}
use Rattle.nio_link.specs.MemoryNet.{target_place}
use Rattle.nio_link.proofs.memory.passing.place_of_target.Given as goal

abbrev pub invariant-loop-at : goal.invariant-loop-at
invariant-loop-at l = l.at ≤ target_place l.targets.items l.peer
