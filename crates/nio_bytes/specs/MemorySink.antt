-- A sink in memory, as its callers see it.
use Rattle.std.specs.Prelude.{ℕ, Bool, List}
use Rattle.nio_bytes.specs.Calls.{Calls}

pub record Bytes : Type 0 where
  -- the bytes taken so far
  pub taken : List ℕ
  -- whether they were passed on
  pub flushed : Bool
  -- how many bytes a write takes at most
  pub piece : ℕ
  -- how many bytes there is room for in all
  pub room : ℕ
  -- the writes and flushes so far
  pub calls : Calls
