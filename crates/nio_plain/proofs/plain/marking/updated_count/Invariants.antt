use Rattle.std.proofs.Common.{◌≡◌, take, count_by, bit_and, slice_index}
use Rattle.nio_plain.specs.PlainState.{places, key_row, no_key}
use Rattle.nio_plain.specs.Seq.Selections.{is_updated}
use Rattle.nio_plain.proofs.plain.marking.updated_count.Given as goal

abbrev pub invariant-loop-key : goal.invariant-loop-key
invariant-loop-key l =
    l.count ≡ count_by
    (λ p. is_updated (places key_row no_key l.keys p.0.index).mark (bit_and (slice_index l.told p.0.index) p.1))
    (take l.key-index l.looked)
