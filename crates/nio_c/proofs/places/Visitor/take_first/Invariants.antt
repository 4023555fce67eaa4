use Rattle.std.proofs.Common.{◌≡◌}
use Rattle.nio_words.specs.Passes.{limits_of}
use Rattle.nio_c.specs.Places.{found_none}
use Rattle.nio_c.proofs.places.Visitor.take_first.Given as goal

abbrev pub invariant-loop-place : goal.invariant-loop-place
invariant-loop-place l = (l.self ≡ record l.fn.self { visits = found_none l.place l.fn.self.visits })
    × (l.place-end ≡ (limits_of l.fn.self.table).callers)
