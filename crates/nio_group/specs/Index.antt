-- What the index from operation numbers to keys holds.
use Rattle.std.specs.Prelude.{◌≡◌, ◌≢◌, ℕ, ◌+◌, ◌*◌, ◌/◌, ◌%◌, ◌^◌, ◌<◌, ◌≤◌, Bool, false, if◌then◌else◌, ◌==◌, List}
use Rattle.std.specs.Prelude.{[], ◌∷◌, Option, Some, None, is_some, count_by, slice_index_or, length}
use Rattle.nio_group.specs.declared.index.Entry.{Entry}

-- a table of entries, and how many it may have
pub record Index : Type 0 where
  pub slots : List (Option Entry)
  pub limit : ℕ

-- the slot has an entry of this number
abbrev pub has_number : ℕ → Option Entry → Bool
has_number n None = false
has_number n (Some e) = e.number == n

-- the key of the first entry of this number
abbrev pub key_in : ℕ → List (Option Entry) → Option ℕ
key_in n [] = None
key_in n (None ∷ rest) = key_in n rest
key_in n (Some e ∷ rest) = if e.number == n then Some e.key else key_in n rest

abbrev pub key_of : Index → ℕ → Option ℕ
key_of index n = key_in n index.slots

abbrev pub entries : Index → ℕ
entries index = count_by is_some index.slots

-- this number has this key or none, and every other number has what it had
pub record ChangesKey (old new : Index) (n : ℕ) (key : Option ℕ) : Type 0 where
  pub changed : key_of new n ≡ key
  pub others : (m : ℕ) → m ≢ n → key_of new m ≡ key_of old m

-- the slot at which the search for a number begins: Knuth's multiplicative hash, below twice the limit
unfoldable pub home_of : ℕ → ℕ → ℕ
home_of number limit = number * 11400714819323198485 % 2 ^ 64 / 2 ^ 32 % (2 * limit)

-- no number has two entries
abbrev pub IsOnce : List (Option Entry) → Type 0
IsOnce slots = (n : ℕ) → count_by (has_number n) slots ≤ 1

-- each entry is at most `reach` slots past its number's home
abbrev pub IsNear : List (Option Entry) → ℕ → ℕ → Type 0
IsNear slots limit reach =
    (i : ℕ) (e : Entry) → slice_index_or slots i None ≡ Some e
    → (home_of e.number limit ≤ i) × (i ≤ home_of e.number limit + reach)

pub record IsTable (slots : List (Option Entry)) (limit reach : ℕ) : Type 0 where
  pub some_limit : 1 ≤ limit
  pub few_limit : limit ≤ 65536
  pub size : length slots ≡ 3 * limit
  pub small_reach : reach < limit
  pub once : IsOnce slots
  pub near : IsNear slots limit reach
