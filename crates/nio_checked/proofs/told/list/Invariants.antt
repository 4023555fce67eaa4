use Rattle.std.proofs.Common.{◌≡◌, ◌≤◌, length}
use Rattle.std.specs.Vec.{vec_capacity}
use Rattle.nio_select.specs.Asked.{keys_to}
use Rattle.nio_checked.specs.Listed.{listed}
use Rattle.nio_checked.proofs.told.list.Given as goal

abbrev pub invariant-loop-index : goal.invariant-loop-index
invariant-loop-index l = record {
  told : l.told.items ≡ listed l.pairs (keys_to l.index l.asked.keys);
  room : length l.asked.keys ≤ vec_capacity l.told;
}
