use Rattle.std.proofs.Common.{◌≡◌, ℕ, ◌<◌, false, is_some}
use Rattle.nio_plain.specs.PlainState.{places, selector_row, no_selector, key_in}
use Rattle.nio_plain.proofs.plain.Plain.has_key.Given as goal

abbrev pub invariant-loop-selector : goal.invariant-loop-selector
invariant-loop-selector l =
    (k : ℕ) → k < l.selector-index
    → is_some (key_in (places selector_row no_selector l.self.selectors.items k) l.chan.0) ≡ false
