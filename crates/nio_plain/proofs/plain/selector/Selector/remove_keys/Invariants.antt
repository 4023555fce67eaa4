use Rattle.std.proofs.Common.{◌≡◌, false, vec_len}
use Rattle.nio_plain.specs.PlainState.{selector_row, changed, removed_row}
use Rattle.nio_plain.proofs.plain.selector.Selector.remove_keys.Given as goal

abbrev pub invariant-loop-index : goal.invariant-loop-index
invariant-loop-index l = record {
  emptied : selector_row l.self
      ≡ record (selector_row
      l.initial.self) { keys = changed (removed_row (λ _. false)) (selector_row l.initial.self).keys l.index };
  long : vec_len l.self.keys ≡ vec_len l.initial.self.keys;
}
