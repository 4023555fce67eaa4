use Rattle.std.proofs.Common.{◌≡◌}
use Rattle.nio_line.proofs.line.LineOut.receive.Given as goal

abbrev pub invariant-loop : goal.invariant-loop
invariant-loop g l = record {
  next : (goal.iterator-loop g).can_next l.iterator';
  finite : (goal.iterator-loop g).is_finite l.iterator';
  line : l.self ≡ l.initial.self;
}
