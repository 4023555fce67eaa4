-- What contracts see of the streams of a proxy by jobs.
use Rattle.std.specs.Prelude.{ℕ, List}
use Rattle.nio_group.specs.Completion.{JobFields}

-- how many bytes the direction from each stream holds, and the jobs that nobody has taken yet
pub record StreamsState : Type 0 where
  pub held : List ℕ
  pub started : List JobFields
