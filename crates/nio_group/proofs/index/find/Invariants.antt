use Rattle.std.proofs.Common.{◌≡◌, ℕ, ◌<◌, ◌≤◌, None, false, slice_index_or}
use Rattle.nio_group.specs.Index.{has_number}
use Rattle.nio_group.proofs.index.find.Given as goal

abbrev pub invariant-loop-at : goal.invariant-loop-at
invariant-loop-at l = (i : ℕ) → l.home ≤ i → i < l.at → has_number l.number (slice_index_or l.slots i None) ≡ false
