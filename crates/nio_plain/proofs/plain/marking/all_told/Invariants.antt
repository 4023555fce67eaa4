use Rattle.std.proofs.Common.{◌≡◌, ◌<◌, ℕ, length, take, vec_len, slice_index}
use Rattle.nio_plain.specs.Seq.Selections.{all_told}
use Rattle.nio_plain.proofs.plain.marking.all_told.Given as goal

abbrev pub invariant-loop-key : goal.invariant-loop-key
invariant-loop-key l = record {
  long : vec_len l.told ≡ length l.serials;
  told : (i : ℕ) → i < length l.serials
      → slice_index l.told.items i ≡ all_told (take l.key-index l.pairs)
      (record { index = i; serial = slice_index l.serials i });
}
