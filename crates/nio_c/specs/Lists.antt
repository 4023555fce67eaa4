-- What the exports write that answer a list.
use Rattle.std.specs.Prelude.{ℕ, nat_le, if◌then◌else◌, length, map, drop, ◌++◌, List, Option, Some, None, Result, Ok}
use Rattle.std.specs.Prelude.{Err}
use Rattle.nio_steps.specs.declared.looked.LookedKey.{LookedKey}
use Rattle.nio_c.specs.Values.{as_looked}
use Rattle.nio_c.specs.declared.status.Status.{Status}
use Rattle.nio_c.specs.declared.status.Status.TheVariants as status
use Rattle.nio_c.specs.declared.values.Looked.{Looked}

-- the list at the front of an array that has room for it
abbrev pub filled : {A K : Type 0} → (A → K) → List A → List K → List K
filled as_c xs into = if nat_le (length xs) (length into) then map as_c xs ++ drop (length xs) into else into

abbrev pub listed : {A K E : Type 0} → (A → K) → Result (List A) E → List K → List K
listed as_c (Ok xs) into = filled as_c xs into
listed as_c (Err error) into = into

-- how long the list is
abbrev pub counted : {A E : Type 0} → Result (List A) E → ℕ → ℕ
counted (Ok xs) before = length xs
counted (Err error) before = before

-- whether there is room for the list in an array of this length
abbrev pub status_list : {A : Type 0} → ℕ → List A → Status
status_list room xs = if nat_le (length xs) room then status.Done else status.NoRoom

-- the same, or what the call refuses
abbrev pub list_status : {A E : Type 0} → ℕ → (E → Status) → Result (List A) E → Status
list_status room refusal (Ok xs) = status_list room xs
list_status room refusal (Err error) = refusal error

-- ---- the keys that a selection in progress asks for, where there is one

abbrev pub asked_into : Option (List LookedKey) → List Looked → List Looked
asked_into (Some keys) into = filled as_looked keys into
asked_into None into = into

abbrev pub asked_count : Option (List LookedKey) → ℕ → ℕ
asked_count (Some keys) before = length keys
asked_count None before = before

abbrev pub asked_status : ℕ → Option (List LookedKey) → Status
asked_status room (Some keys) = status_list room keys
asked_status room None = status.NotSelecting
