-- What an array has, and how many changes are counted, once changes were written to it.
use Rattle.std.specs.Prelude.{ℕ, ◌+◌, ◌-◌, ◌^◌, if◌then◌else◌, min, nat_lt, List, [], ◌∷◌, length, slice_set}
use Rattle.nio_select.specs.declared.changes.KeyChange.{KeyChange}
use Rattle.nio_c.specs.Values.{as_changed}
use Rattle.nio_c.specs.declared.values.Changed.{Changed}
use Rattle.nio_c.specs.declared.writing.Writing.{Writing}

-- a change after so many others, where there is room
abbrev pub written_at : List Changed → ℕ → KeyChange → List Changed
written_at into count change = if nat_lt count (length into) then slice_set into count (as_changed change) else into

abbrev pub one_more : ℕ → ℕ
one_more count = min (count + 1) (2 ^ 64 - 1)

abbrev pub written : Writing → KeyChange → Writing
written w change = record w {
  into = record w.into { now = written_at w.into.now w.count change };
  count = one_more w.count;
}

-- these changes after so many others
abbrev pub written_on : List Changed → ℕ → List KeyChange → List Changed
written_on into count [] = into
written_on into count (change ∷ later) = written_on (written_at into count change) (one_more count) later

abbrev pub counted_on : ℕ → List KeyChange → ℕ
counted_on count [] = count
counted_on count (change ∷ later) = counted_on (one_more count) later
