use Rattle.std.proofs.Common.{◌≡◌, vec_len}
use Rattle.nio_plain.specs.PlainState.{selector_row, changed, swept_key}
use Rattle.nio_plain.proofs.plain.selector.Selector.sweep.Given as goal

abbrev pub invariant-loop-index : goal.invariant-loop-index
invariant-loop-index l = record {
  swept : selector_row l.self
      ≡ record (selector_row
      l.initial.self) { keys = changed (swept_key l.rules) (selector_row l.initial.self).keys l.index };
  long : vec_len l.self.keys ≡ vec_len l.initial.self.keys;
}
