-- The keys that are kept at their places.
use Rattle.std.specs.Prelude.{ℕ, ◌+◌, Option, Some, None, List, [], ◌∷◌}
use Rattle.nio_steps.specs.declared.looked.LookedKey.{LookedKey}
use Rattle.nio_select.specs.declared.slot.Slot.{Slot}

-- the key that is kept at the place of index i
abbrev pub key_kept : ℕ → Slot → LookedKey
key_kept i slot = record { index = i; serial = slot.serial; channel = slot.channel; interest = slot.interest }

-- the keys that are kept from index i on
unfoldable pub keys_from : ℕ → List (Option Slot) → List LookedKey
keys_from i [] = []
keys_from i (None ∷ slots) = keys_from (i + 1) slots
keys_from i (Some slot ∷ slots) = key_kept i slot ∷ keys_from (i + 1) slots
