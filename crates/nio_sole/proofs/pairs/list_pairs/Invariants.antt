use Rattle.std.proofs.Common.{◌≡◌, ◌≤◌, length, map}
use Rattle.std.specs.Vec.{vec_capacity}
use Rattle.nio_select.specs.Asked.{keys_to}
use Rattle.nio_serial.specs.Documented.{looked_pair}
use Rattle.nio_sole.proofs.pairs.list_pairs.Given as goal

abbrev pub invariant-loop-index : goal.invariant-loop-index
invariant-loop-index l = record {
  items : l.pairs.items ≡ map looked_pair (keys_to l.index l.asked.keys);
  room : length l.asked.keys ≤ vec_capacity l.pairs;
}
