use Rattle.std.proofs.Common.{◌≡◌, ◌<◌, ◌≤◌, vec_len}
use Rattle.std.specs.List.{All, AllPairs}
use Rattle.nio_plain.specs.PlainState.{places, key_row, no_key, looked_below}
use Rattle.nio_plain.proofs.plain.looking.valid_keys.Given as goal

abbrev pub invariant-loop-index : goal.invariant-loop-index
invariant-loop-index l = record {
  looked : l.looked.items ≡ looked_below (places key_row no_key l.keys) l.index;
  rising : AllPairs (λ p q. p.0.index < q.0.index) l.looked.items;
  below : All (λ p. p.0.index < l.index) l.looked.items;
  few : vec_len l.looked ≤ l.index;
}
