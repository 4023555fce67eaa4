use Rattle.std.proofs.Common.{◌≡◌, take, vec_len}
use Rattle.nio_plain.specs.PlainState.{selector_row, swept_looked}
use Rattle.nio_plain.proofs.plain.selector.Selector.sweep_looked.Given as goal

abbrev pub invariant-loop-id : goal.invariant-loop-id
invariant-loop-id l = record {
  swept : selector_row l.self
      ≡ record (selector_row
      l.initial.self) { keys = swept_looked l.rules (selector_row l.initial.self).keys (take l.id-index l.looked) };
  long : vec_len l.self.keys ≡ vec_len l.initial.self.keys;
}
