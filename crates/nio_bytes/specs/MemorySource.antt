-- A source in memory, as its callers see it.
use Rattle.std.specs.Prelude.{ℕ, List}
use Rattle.nio_bytes.specs.Calls.{Calls}

pub record Bytes : Type 0 where
  -- the bytes still to come
  pub left : List ℕ
  -- how many of them a read gives at most
  pub piece : ℕ
  -- the reads so far
  pub reads : Calls
