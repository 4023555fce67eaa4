use Rattle.std.proofs.Common.{◌≡◌, take, vec_len, slice_index}
use Rattle.nio_plain.specs.PlainState.{selector_row, marked_keys}
use Rattle.nio_plain.proofs.plain.selector.Selector.mark.Given as goal

abbrev pub invariant-loop-id : goal.invariant-loop-id
invariant-loop-id l = record {
  marked : selector_row l.self
      ≡ record (selector_row
      l.initial.self) {
        keys = marked_keys (selector_row l.initial.self).keys (take l.id-index l.looked)
            (slice_index l.told);
      };
  long : vec_len l.self.keys ≡ vec_len l.initial.self.keys;
}
