use Rattle.std.proofs.Common.{◌≡◌, ◌≤◌, vec_len}
use Rattle.nio_plain.specs.PlainState.{places, key_row, no_key, listed_below}
use Rattle.nio_plain.proofs.plain.sets.names.Given as goal

abbrev pub invariant-loop-index : goal.invariant-loop-index
invariant-loop-index l = record {
  listed : l.names.items ≡ listed_below (places key_row no_key l.keys) l.selected l.index;
  few : vec_len l.names ≤ l.index;
}
