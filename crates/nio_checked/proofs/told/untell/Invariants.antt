use Rattle.std.proofs.Common.{◌≡◌, ◌++◌, map, take, drop}
use Rattle.nio_link.specs.Readiness.{without}
use Rattle.nio_checked.specs.Listed.{changed_at}
use Rattle.nio_checked.proofs.told.untell.Given as goal

abbrev pub invariant-loop-one : goal.invariant-loop-one
invariant-loop-one l =
    l.told ≡ map (changed_at l.chan (without l.op)) (take l.one-index l.initial.told) ++ drop l.one-index l.initial.told
