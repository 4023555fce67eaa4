use Rattle.std.proofs.Common.{◌≡◌, ◌≤◌, map, take, vec_capacity, vec_len}
use Rattle.nio_c.specs.Values.{as_told}
use Rattle.nio_c.proofs.kept.take_in.Given as goal

abbrev pub invariant-loop-pair : goal.invariant-loop-pair
invariant-loop-pair l = record {
  items : l.told.items ≡ map as_told (take l.pair-index l.found);
  len : vec_len l.told ≡ l.pair-index;
  room : vec_capacity l.initial.told ≤ vec_capacity l.told;
}
