use Rattle.std.proofs.Common.{◌≡◌, map, ◌++◌, drop, length}
use Rattle.nio_select.specs.Asked.{keys_to}
use Rattle.nio_c.specs.Values.{as_looked}
use Rattle.nio_c.proofs.lists.fill_asked.Given as goal

abbrev pub invariant-loop-index : goal.invariant-loop-index
invariant-loop-index l = record {
  count : l.count ≡ length (keys_to l.index l.asked.keys);
  into : l.into ≡ map as_looked (keys_to l.index l.asked.keys) ++ drop l.count l.initial.into;
}
