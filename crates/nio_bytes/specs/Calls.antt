-- The calls of a source or sink in memory, some of which fail.
use Rattle.std.specs.Prelude.{ℕ, List, Contains}
use Rattle.nio_bytes.specs.Cause.{count_after}

pub record Calls : Type 0 where
  -- which calls fail, by their numbers from 0
  pub fail_at : List ℕ
  -- how many calls there were
  pub made : ℕ
  -- how many failed
  pub faults : ℕ

-- no call yet
abbrev pub no_calls : List ℕ → Calls
no_calls fail_at = record { fail_at = fail_at; made = 0; faults = 0 }

-- the next call is one of those that fail
abbrev pub FailsNext : Calls → Type 0
FailsNext c = Contains c.fail_at c.made

-- after a call that succeeded
abbrev pub after_success : Calls → Calls
after_success c = record c { made = count_after c.made }

-- after a call that failed
abbrev pub after_failure : Calls → Calls
after_failure c = record c { made = count_after c.made; faults = count_after c.faults }
