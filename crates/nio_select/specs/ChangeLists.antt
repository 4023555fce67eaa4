-- A list of changes of keys that has room for so many.
use Rattle.std.specs.Prelude.{◌≡◌, ℕ, ◌+◌, ◌-◌, ◌^◌, if◌then◌else◌, nat_lt, min, List, [], ◌∷◌, ◌++◌, fold, length, take}
use Rattle.nio_select.specs.declared.changes.KeyChange.{KeyChange}

-- the changes that it has room for, and how many it took note of
pub record ListedChanges : Type 0 where
  pub changes : List KeyChange
  pub room : ℕ
  pub count : ℕ

abbrev pub no_changes : (room : ℕ) → ListedChanges
no_changes room = record { changes = []; room = room; count = 0 }

-- one more
abbrev pub with_change : ListedChanges → KeyChange → ListedChanges
with_change list change = record {
  changes = if nat_lt (length list.changes) list.room then list.changes ++ change ∷ [] else list.changes;
  room = list.room;
  count = min (list.count + 1) (2 ^ 64 - 1);
}

-- A list that took note of these changes has the first of them, as many as it has room for, and counts them all.
abbrev pub ChangesAreListed : Type 0
ChangesAreListed = (room : ℕ) (changes : List KeyChange) → fold with_change (no_changes room) changes
    ≡ record { changes = take room changes; room = room; count = min (length changes) (2 ^ 64 - 1) }
