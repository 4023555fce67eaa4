use Rattle.std.proofs.Common.{◌≡◌, ℕ, ◌+◌, ◌-◌, ◌<◌, ◌≤◌, None, true, is_some, slice_index_or}
use Rattle.nio_group.proofs.index.vacant.Given as goal

abbrev pub invariant-loop-at : goal.invariant-loop-at
invariant-loop-at l =
    (l.home ≤ l.at) × (l.at < l.home + l.limit) ×
    ((i : ℕ) → l.home ≤ i → i < l.at → is_some (slice_index_or l.slots i None) ≡ true)

abbrev pub decreases-loop-at : goal.decreases-loop-at
decreases-loop-at l = l.home + l.limit - l.at
