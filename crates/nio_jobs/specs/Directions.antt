-- What is due in a direction of a connection, which goes from a stream to its peer, by the bytes that it holds: they
-- were read from the stream, and not yet written to the peer.
use Rattle.std.specs.Prelude.{ℕ, ◌+◌, ◌-◌, ◌<◌, ◌≤◌, ◌↔◌, ◌==◌, Bool, true, false, IsTrue, ◌||◌, if◌then◌else◌, nat_lt, min}

-- How many bytes a direction holds, and a read that is in flight may add, together at most: two buffers of the proxy.
-- So a read may fill a whole buffer while another one is held.
abbrev pub capacity : ℕ
capacity = 32768

-- how many it holds once n more were read, and once k were written
abbrev pub held_after_read : ℕ → ℕ → ℕ
held_after_read held n = min (held + n) capacity

abbrev pub held_after_write : ℕ → ℕ → ℕ
held_after_write held k = held - k

-- The lengths of the operations that are due then, where 0 says that none is. What was read is written, unless a write
-- is in flight; and as many bytes are read as there is room for.
abbrev pub write_after_read : ℕ → ℕ → ℕ
write_after_read held n = if held == 0 then n else 0

abbrev pub read_after_read : ℕ → ℕ → ℕ
read_after_read held n = capacity - (held + n)

-- The rest is written; and where the direction was full, as many bytes are read as there is room for now.
abbrev pub write_after_write : ℕ → ℕ → ℕ
write_after_write held k = held - k

abbrev pub read_after_write : ℕ → ℕ → ℕ
read_after_write held k = if held == capacity then k else 0

-- In a direction whose stream has not ended a read is in flight exactly where there is room, and a write exactly where
-- bytes are held.
pub record IsFlowing (held : ℕ) (reads writes : Bool) : Type 0 where
  pub reading : IsTrue reads ↔ (held < capacity)
  pub writing : IsTrue writes ↔ (0 < held)

-- So it begins, with one read and nothing held; and so it stays with what is due after each read and each write. What is
-- held, with what a due read may read, fits. And so an operation is in flight always.
pub record StaysFlowing : Type 0 where
  pub begins : IsFlowing 0 true false
  pub read : (held n : ℕ) (reads writes : Bool) → IsFlowing held reads writes → 1 ≤ n → held + n ≤ capacity
      → IsFlowing (held_after_read held n) (nat_lt 0 (read_after_read held n))
      (writes || nat_lt 0 (write_after_read held n))
  pub write : (held k : ℕ) (reads writes : Bool) → IsFlowing held reads writes → 1 ≤ k → k ≤ held → held ≤ capacity
      → IsFlowing (held_after_write held k) (reads || nat_lt 0 (read_after_write held k))
      (nat_lt 0 (write_after_write held k))
  pub read_fits : (held n : ℕ) → held + n ≤ capacity → held_after_read held n + read_after_read held n ≤ capacity
  pub write_fits : (held k : ℕ) → k ≤ held → held ≤ capacity
      → held_after_write held k + read_after_write held k ≤ capacity
  pub never_idle : (held : ℕ) (reads writes : Bool) → IsFlowing held reads writes → IsTrue (reads || writes)
