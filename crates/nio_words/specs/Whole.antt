-- Who has seen everything.
use Rattle.std.specs.Prelude.{◌≡◌, ℕ, ◌<◌, false}
use mathlib.Core.Option.{some}
use lib.ListN.{get_elem?}
use Rattle.atomic_table.specs.Table.{State as Table}
use Rattle.nio_base.specs.declared.limits.Limits.{Limits}
use Rattle.nio_words.specs.Rule.{HasBit, IsKept}
use Rattle.nio_words.specs.declared.view.View.{View}

-- between any two steps, a pass that holds every number below the limit has seen the whole history
abbrev pub HoldersOfAllSeeAll : Type 0
HoldersOfAllSeeAll = (l : Limits) (s : Table (Unit {0}) View) (kept : IsKept l s) (i : ℕ) (v : View)
    → get_elem? s.views i ≡ some v → v.spent ≡ false → ((n : ℕ) → n < l.callers → HasBit v.numbers n)
    → v.seen ≡ kept.history
