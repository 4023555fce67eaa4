-- What was told of the indexes of a selector, and the marking of keys by it.
use Rattle.std.specs.Prelude.{◌≡◌, ℕ, ◌+◌, ◌/◌, ◌%◌, ◌<◌, ◌≤◌, Bool, Option, Some, None, IsTrue, IsFalse, List}
use Rattle.std.specs.Prelude.{get_or, length, bit_and, bit_or}
use Rattle.nio_base.specs.declared.numbers.SelNo.{SelNo}
use Rattle.nio_steps.specs.KeyCalls.{has_bit}
use Rattle.nio_steps.specs.Plan.{Plan, reply, ◌>>=◌}
use Rattle.nio_steps.specs.SelectCalls.{mark_told, told_at}
use Rattle.nio_select.specs.declared.noted.Noted.{Noted}
use Rattle.nio_select.specs.declared.slot.Slot.{Slot}

-- ---- what was told

abbrev pub told_of : Noted → ℕ → ℕ
told_of noted i = get_or noted.told.items i 0

-- whether anything was told of the index
abbrev pub is_noted : Noted → ℕ → Bool
is_noted noted i = has_bit (get_or noted.words.items (i / 64) 0) (i % 64)

-- there is room for as much
pub record IsAsLong (old new : Noted) : Type 0 where
  pub told : length new.told.items ≡ length old.told.items
  pub words : length new.words.items ≡ length old.words.items

-- this was told of index i too
pub record IsPutTo (i ops : ℕ) (old new : Noted) : Type 0 where
  pub room : IsAsLong old new
  pub here : told_of new i ≡ bit_or (told_of old i) ops
  pub others : (k : ℕ) → (k ≡ i → ⊥) → told_of new k ≡ told_of old k
  pub noted : IsTrue (is_noted new i)
  pub notes : (k : ℕ) → IsTrue (is_noted old k) → IsTrue (is_noted new k)

-- nothing is told of index i any more
pub record IsTakenFrom (i : ℕ) (old new : Noted) : Type 0 where
  pub room : IsAsLong old new
  pub none : told_of new i ≡ 0
  pub others : (k : ℕ) → (k ≡ i → ⊥) → told_of new k ≡ told_of old k
  pub words : new.words.items ≡ old.words.items

-- each index of which anything was told is noted
abbrev pub IsNoted : Noted → Type 0
IsNoted noted = (i : ℕ) → IsFalse (is_noted noted i) → told_of noted i ≡ 0

-- What these pairs tell of the indexes below the bound was told, and of no other index.
-- Each of which anything was told is noted.
pub record IsTold (pairs : List (ℕ × ℕ)) (bound : ℕ) (now : Noted) : Type 0 where
  pub below : (i : ℕ) → i < bound → told_of now i ≡ told_at pairs i
  pub above : (i : ℕ) → bound ≤ i → told_of now i ≡ 0
  pub noted : IsNoted now

-- nothing was told
pub record IsUntold (noted : Noted) : Type 0 where
  pub told : (i : ℕ) → told_of noted i ≡ 0
  pub words : (j : ℕ) → get_or noted.words.items j 0 ≡ 0

-- ---- marking

-- what of these operations the key is interested in
abbrev pub wanted : Option Slot → ℕ → ℕ
wanted None told = 0
wanted (Some slot) told = bit_and told slot.interest

-- marks the key of index i with what was told of it
abbrev pub mark_at : SelNo → List (Option Slot) → Noted → ℕ → ℕ → Plan ℕ
mark_at s slots noted i count = do
  marked ← mark_told s i (wanted (get_or slots i None) (told_of noted i))
  reply (count + marked)
