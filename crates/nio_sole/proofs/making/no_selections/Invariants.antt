use Rattle.std.proofs.Common.{◌≤◌}
use Rattle.std.specs.Vec.{vec_capacity}
use Rattle.nio_sole.specs.Drawn.{AreEmpty}
use Rattle.nio_sole.proofs.making.no_selections.Given as goal

abbrev pub invariant-loop : goal.invariant-loop
invariant-loop l = record { empty : AreEmpty l.places l.counter; room : l.count ≤ vec_capacity l.places }
