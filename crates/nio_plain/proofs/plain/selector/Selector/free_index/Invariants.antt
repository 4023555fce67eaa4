use Rattle.std.proofs.Common.{◌≡◌, ℕ, ◌<◌, false}
use Rattle.nio_plain.specs.PlainState.{places, key_row, no_key}
use Rattle.nio_plain.proofs.plain.selector.Selector.free_index.Given as goal

abbrev pub invariant-loop-index : goal.invariant-loop-index
invariant-loop-index l = (k : ℕ) → k < l.index → (places key_row no_key l.self.keys.items k).free ≡ false
