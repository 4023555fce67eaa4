use Rattle.std.proofs.Common.{◌≡◌, drop}
use Rattle.nio_group.specs.Making.{first_back}
use Rattle.nio_group.proofs.group.GroupCore.next_name.Given as goal

abbrev pub invariant-loop-number : goal.invariant-loop-number
invariant-loop-number l =
    first_back l.self.flight l.kind l.number (drop l.number l.self.channels)
    ≡ first_back l.self.flight l.kind 0 l.self.channels
