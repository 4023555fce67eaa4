-- The rows' first places that a table keeps.
use Rattle.std.specs.Prelude.{◌≡◌}
use Rattle.nio_base.specs.declared.limits.Limits.{Limits}
use Rattle.nio_words.specs.Places.{place}
use Rattle.nio_words.specs.declared.part.Part.TheVariants.{Gate, Key, Interest, Mark, Note, Free, Touched}
use Rattle.nio_words.specs.declared.part.Part.TheVariants.{Lister}
use Rattle.nio_words.specs.declared.row_starts.RowStarts.{RowStarts}

-- each is the place of the first word of its row
pub record AreRowStarts (l : Limits) (starts : RowStarts) : Type 0 where
  pub gates : starts.gates ≡ place l (Gate 0)
  pub stages : starts.stages ≡ place l (Key 0 0)
  pub interests : starts.interests ≡ place l (Interest 0 0)
  pub marks : starts.marks ≡ place l (Mark 0 0)
  pub notes : starts.notes ≡ place l (Note 0 0)
  pub frees : starts.frees ≡ place l (Free 0 0)
  pub touched : starts.touched ≡ place l (Touched 0 0)
  pub listers : starts.listers ≡ place l (Lister 0)
