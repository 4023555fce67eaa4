-- What contracts see of a checked net.
use Rattle.std.specs.Prelude.{◌≡◌, ◌≢◌, ℕ, ◌<◌, nat_lt, Bool, true, false, not, ◌&&◌, Option, Some, None, Result, Ok, Err}
use Rattle.std.specs.Prelude.{List, if◌then◌else◌}
use Rattle.nio_base.specs.declared.numbers.ChanId.{ChanId}
use Rattle.nio_base.specs.declared.numbers.ChanNo.{ChanNo}
use Rattle.nio_link.specs.PlaceLogs.{occupant_at}
use Rattle.nio_link.specs.Places.{channel, never_asked, is_there, IsVacant}
use Rattle.nio_link.specs.declared.occupants.Occupant.{Occupant}
use Rattle.nio_link.specs.declared.net.Failed.{Failed}
use Rattle.nio_link.specs.declared.place.Place.{Place}
use Rattle.nio_link.specs.declared.place.Role.TheVariants as role
use Rattle.nio_checked.specs.Listed.{AreReady}
use Rattle.nio_checked.specs.declared.calls.NetError.{NetError}

pub record Checked (N : Type 0) : Type 0 where
  -- the net on which the calls are made
  pub net : N
  -- for how many numbers it is, from 0 on
  pub numbers : ℕ
  -- what the last poll told, as far as no call since has found that the channel isn't ready for it
  pub told : List (ChanNo × ℕ)
  -- how much of that list was given out
  pub given : ℕ
  -- whether there was no memory for that list at the last poll
  pub failed : Bool

-- what a channel is ready for: nothing where the last poll failed
abbrev pub ready_of : (ChanNo → ℕ) → (failed : Bool) → ChanNo → ℕ
ready_of ready true n = 0
ready_of ready false n = ready n

-- The channel of this serial has this place, where `last` is the last channel of its number that was asked to be
-- something. What was asked before stands no more, and no later channel was asked.
pub record IsLast (last : Occupant) (s : ℕ) (place : Place) : Type 0 where
  pub before : s < last.serial → IsVacant place.standing
  pub itself : s ≡ last.serial → (place.standing ≡ last.standing) × (place.role ≢ role.Nothing)
  pub after : last.serial < s → place ≡ never_asked

-- the same, where none may have been asked
abbrev pub IsKept : Option Occupant → ℕ → Place → Type 0
IsKept None s place = place ≡ never_asked
IsKept (Some last) s place = IsLast last s place

-- a channel of this serial can be asked to be something
abbrev pub can_serve : Option Occupant → ℕ → Bool
can_serve None s = true
can_serve (Some last) s = nat_lt last.serial s && not (is_there last.standing)

-- the channel of a number that stands, where its last does
abbrev pub standing_channel : ChanNo → Option Occupant → Option ChanId
standing_channel n None = None
standing_channel n (Some last) = if is_there last.standing then Some (channel n last.serial) else None

-- the last channel of each number is kept, and each listed channel is ready for what is listed with it
pub record IsChecked (readiness : ChanNo → ℕ) (place : ChanId → Place) (lasts : List (Option Occupant))
    (told : List (ChanNo × ℕ)) : Type 0 where
  pub kept : (c : ChanId) → IsKept (occupant_at lasts c.number) c.serial (place c)
  pub ready : AreReady readiness told

-- the net's answer, of which a failure is told as a fault
abbrev pub as_failed : {A : Type 0} → Result A NetError → Result A Failed
as_failed (Ok value) = Ok value
as_failed (Err error) = Err (record {})
