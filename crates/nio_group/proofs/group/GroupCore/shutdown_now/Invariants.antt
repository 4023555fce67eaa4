use Rattle.std.proofs.Common.{◌≡◌, length}
use Rattle.nio_group.specs.Steps.{closed_below}
use Rattle.nio_group.proofs.group.GroupCore.shutdown_now.Given as goal

abbrev pub invariant-loop-number : goal.invariant-loop-number
invariant-loop-number l =
    (l.self ≡ closed_below l.number l.initial.self) × (length l.self.channels ≡ length l.initial.self.channels)
