use Rattle.std.proofs.Common.{◌≡◌, ◌+◌, ◌≤◌, length}
use Rattle.nio_deadline.specs.Deadlines.{due}
use Rattle.nio_deadline.specs.Steps.{after_expire}
use Rattle.nio_deadline.proofs.timed.TimedCore.expire.Given as goal

abbrev pub invariant-loop-count : goal.invariant-loop-count
invariant-loop-count l =
    record {
      leads : after_expire l.initial.self l.now ≡ after_expire l.self l.now;
      counts : l.count + length (due l.now l.self.deadlines) ≡ length (due l.now l.initial.self.deadlines);
      few : l.count + length l.self.deadlines ≤ 65536;
    }

abbrev pub decreases-loop-count : goal.decreases-loop-count
decreases-loop-count l = length l.self.deadlines
