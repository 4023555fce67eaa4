use Rattle.std.proofs.Common.{◌≡◌, map, ◌++◌, drop, take}
use Rattle.nio_c.specs.Values.{key_of}
use Rattle.nio_c.proofs.lists.fill_keys.Given as goal

abbrev pub invariant-loop-i : goal.invariant-loop-i
invariant-loop-i l = l.into ≡ map key_of (take l.i l.keys) ++ drop l.i l.initial.into
