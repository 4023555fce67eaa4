-- The looked list of a selection: what it has of each index, how it is kept, and what changed in it.
use Rattle.std.specs.Prelude.{◌≡◌, ℕ, ◌*◌, ◌<◌, ◌≤◌, ◌^◌, ◌==◌, Bool, Option, Some, None, List}
use Rattle.std.specs.Prelude.{get_or, length, is_some, if◌then◌else◌, IsFalse, nat_lt, filter, option_map}
use Rattle.std.specs.List.{All, AllPairs, list_any}
use Rattle.nio_base.specs.declared.numbers.ChanNo.{ChanNo}
use Rattle.nio_base.specs.declared.numbers.SelNo.{SelNo}
use Rattle.nio_history.specs.Lists.{ListEntry, takes_bit}
use Rattle.nio_history.specs.OwnEvents.{has}
use Rattle.nio_history.specs.declared.act.Act.{Act}
use Rattle.nio_steps.specs.Lists.{listed_at}
use Rattle.nio_steps.specs.declared.looked.LookedKey.{LookedKey}
use Rattle.nio_select.specs.KeyKept.{keys_from}
use Rattle.nio_select.specs.declared.noted.Noted.{Noted}
use Rattle.nio_select.specs.declared.slot.Slot.{Slot}
use Rattle.nio_select.specs.declared.stamp.Stamp.{Stamp}

-- The keys that a selection asks for. The index of each is below `bound`. Where the selection goes by the selector's
-- list, `stamp` says which beginning made these keys, and `changed` has the indexes whose bits that beginning took.
-- `room` is the number of indexes for which `changed` has memory.
pub record Looked : Type 0 where
  pub keys : List LookedKey
  pub bound : ℕ
  pub changed : List ℕ
  pub room : ℕ
  pub stamp : Option Stamp

-- ---- what it has of an index

-- the key with this index that the list has
abbrev pub key_with : ℕ → ListEntry → LookedKey
key_with i e = record { index = i; serial = e.serial; channel = e.channel; interest = e.interest }

abbrev pub key_at : ℕ → List LookedKey → Option LookedKey
key_at i keys = option_map (key_with i) (listed_at keys i)

-- the keys with the indexes below n
abbrev pub keys_to : ℕ → List LookedKey → List LookedKey
keys_to n keys = filter (λ e. nat_lt e.index n) keys

-- the key, whose channel has the number that it is given
abbrev pub renumbered_key : (ChanNo → ChanNo) → LookedKey → LookedKey
renumbered_key by k = record k { channel = by k.channel }

-- ---- how it is kept

-- Beside each place stands what was told of its index, and a word says of which of 64 indexes anything was told: nothing
-- was, but while a selection is told.
pub record IsKept (slots : List (Option Slot)) (noted : Noted) (count : ℕ) : Type 0 where
  pub counted : count ≡ length (keys_from 0 slots)
  pub told_room : length slots ≤ length noted.told.items
  pub noted_room : length slots ≤ 64 * length noted.words.items
  pub few : length noted.words.items ≤ 2 ^ 25
  pub untold : (i : ℕ) → get_or noted.told.items i 0 ≡ 0
  pub unnoted : (j : ℕ) → get_or noted.words.items j 0 ≡ 0

-- ---- what changed

abbrev pub has_changed : List ℕ → ℕ → Bool
has_changed changed i = list_any (λ k. k == i) changed

-- they are the indexes whose bits these acts took
abbrev pub AreTaken : SelNo → List Act → List ℕ → Type 0
AreTaken s acts changed = (i : ℕ) → has_changed changed i ≡ has (takes_bit s.0 i) acts

-- the indexes rise, and each index that isn't among them has what it had before
pub record Changes (before now : List LookedKey) (changed : List ℕ) : Type 0 where
  pub rise : AllPairs (λ x y. x < y) changed
  pub others : (i : ℕ) → IsFalse (has_changed changed i) → listed_at now i ≡ listed_at before i

-- ---- the way that a selection goes

-- the selector's list, where the selection goes by it
abbrev pub known_of : Looked → Option (List LookedKey)
known_of asked = if is_some asked.stamp then Some asked.keys else None

-- all but the keys and what changed is the same
pub record IsBeside (old new : Looked) : Type 0 where
  pub bound : new.bound ≡ old.bound
  pub room : new.room ≡ old.room
  pub stamp : new.stamp ≡ old.stamp

-- their indexes rise
abbrev pub IsRising : List LookedKey → Type 0
IsRising keys = AllPairs (λ x y. x.index < y.index) keys

-- the indexes of these keys are below the limit
abbrev pub AreBelow : ℕ → List LookedKey → Type 0
AreBelow limit keys = All (λ entry. entry.index < limit) keys
