-- How the operations of a group and the queue of its completions are kept.
use Rattle.std.specs.Prelude.{◌≡◌, ℕ, ◌≤◌, if◌then◌else◌, ◌==◌, List, is_some, count_by}
use Rattle.nio_group.specs.Stages.{is_queued}
use Rattle.nio_group.specs.Operations.{Accepted, operation_at}

pub record IsFlightKept (a : Accepted) (queue : List ℕ) (len capacity : ℕ) : Type 0 where
  -- the queue lists each queued number once, and no other number
  pub queued_once : (n : ℕ) → count_by (λ m. m == n) queue ≡ (if is_queued (operation_at a n) then 1 else 0)
  pub queue_length : len ≡ count_by is_queued a.operations
  pub within : count_by is_some a.operations ≤ a.limit
  pub room : a.limit ≤ capacity
