-- How a pipe whose ends are in one hand is kept: what was sent and received in traces, and what waits in a ring.
use Rattle.std.specs.Prelude.{◌≡◌, ℕ, ◌≤◌, List, ◌++◌, length}
use Rattle.circular_buffer.specs.Buffer.{Buffer}

pub record IsKept (sent received : List ℕ) (buffer : Buffer ℕ) : Type 0 where
  pub whole : sent ≡ received ++ buffer.items
  pub capacity : buffer.capacity ≡ 65536
  pub few_waiting : length buffer.items ≤ 65536
