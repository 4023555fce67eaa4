-- How the looked list of a selection is kept.
use Rattle.std.specs.Prelude.{◌≡◌, ℕ, ◌++◌, Option, Some, None, List, replicate}
use Rattle.nio_base.specs.declared.numbers.ChanNo.{ChanNo}
use Rattle.nio_history.specs.Lists.{ListEntry}
use Rattle.nio_steps.specs.Looking.{enlisted, without_index}
use Rattle.nio_steps.specs.declared.looked.LookedKey.{LookedKey}
use Rattle.nio_select.specs.KeyKept.{key_kept}
use Rattle.nio_select.specs.declared.slot.Slot.{Slot}

abbrev pub entry_kept : Slot → ListEntry
entry_kept slot = record { serial = slot.serial; channel = slot.channel; interest = slot.interest }

-- the key of index i that is kept so
abbrev pub kept : ℕ → Option Slot → Option LookedKey
kept i None = None
kept i (Some slot) = Some (key_kept i slot)

abbrev pub renumbered_slot : (ChanNo → ChanNo) → Option Slot → Option Slot
renumbered_slot by None = None
renumbered_slot by (Some slot) = Some (record slot { channel = by slot.channel })

abbrev pub one_if_some : Option Slot → ℕ
one_if_some None = 0
one_if_some (Some slot) = 1

-- the keys, of which that of index i is kept so
abbrev pub keys_with : ℕ → Option Slot → List LookedKey → List LookedKey
keys_with i None keys = without_index i keys
keys_with i (Some slot) keys = enlisted (key_kept i slot) (without_index i keys)

-- some of this value were added
pub record IsLonger {T : Type 0} (old new : List T) (value : T) : Type 0 where
  pub more : ℕ
  pub is : new ≡ old ++ replicate more value
