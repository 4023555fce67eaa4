-- Which indexes selections have still to put, read from moments.
use Rattle.std.specs.Prelude.{ℕ, ◌<◌, nat_lt, Bool}
use Rattle.nio_audit.specs.TableWords.{row, grid}
use Rattle.nio_audit.specs.declared.dues.Dues.{Dues}

unfoldable pub due_of : Dues → ℕ → ℕ → Bool
due_of d s i = nat_lt (row d.ended s) (grid d.removed s i)

-- all moments are before this one
pub record IsBefore (d : Dues) (now : ℕ) : Type 0 where
  pub ended : (s : ℕ) → row d.ended s < now
  pub removed : (s i : ℕ) → grid d.removed s i < now
