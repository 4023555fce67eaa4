-- A log of the changes of places, and what stands under each number by it.
use Rattle.std.specs.Prelude.{◌≡◌, ℕ, ◌==◌, if◌then◌else◌, Option, Some, None, IfSome, IsTrue, Ok, Err, List}
use Rattle.std.specs.Prelude.{◌-◌, ◌++◌, length, replicate}
use Rattle.std.specs.List.{slice_index_or}
use Rattle.nio_base.specs.declared.numbers.ChanId.{ChanId}
use Rattle.nio_base.specs.declared.numbers.ChanNo.{ChanNo}
use Rattle.nio_link.specs.Places.{is_there, places_after, IsLinked, IsVacant, IsVacantNumber}
use Rattle.nio_link.specs.declared.place.Change.{Change}
use Rattle.nio_link.specs.declared.place.Change.TheVariants as change
use Rattle.nio_link.specs.declared.place.Place.{Place}
use Rattle.nio_link.specs.declared.place.Standing.{Standing}
use Rattle.nio_link.specs.declared.place.Standing.TheVariants as standing
use Rattle.nio_link.specs.declared.occupants.Occupant.{Occupant}

pub record LogFields : Type 0 where
  -- the changes of places, the oldest first
  pub changes : List (ChanId × Change)
  -- what stands under each number, from 0 on
  pub occupants : List (Option Occupant)

-- what stands, where anything does
abbrev pub present : Standing → Standing
present standing.Nothing = standing.Nothing
present standing.Listening = standing.Listening
present standing.Connecting = standing.Connecting
present standing.Linked = standing.Linked
present standing.Shut = standing.Shut
present standing.Gone = standing.Nothing

abbrev pub occupant_at : List (Option Occupant) → ChanNo → Option Occupant
occupant_at occupants n = slice_index_or occupants n.0 None

-- how the channel of this serial stands, by what stands under its number
abbrev pub held_by : Option Occupant → ℕ → Standing
held_by None s = standing.Nothing
held_by (Some h) s = if h.serial == s then h.standing else standing.Nothing

-- the occupants are those that these places have
abbrev pub AreHeld : List (Option Occupant) → (ChanId → Place) → Type 0
AreHeld occupants place = (c : ChanId) → held_by (occupant_at occupants c.number) c.serial ≡ present (place c).standing

-- What stands under the numbers by these changes: what holds a number is there.
pub record IsLogged (occupants : List (Option Occupant)) (changes : List (ChanId × Change)) : Type 0 where
  pub held : AreHeld occupants (places_after changes)
  pub there : (n : ChanNo) → IfSome (occupant_at occupants n) (λ h. IsTrue (is_there h.standing))

-- ---- after a change

-- what stood, unless it is of this serial
abbrev pub without_occupant : ℕ → Option Occupant → Option Occupant
without_occupant s None = None
without_occupant s (Some h) = if h.serial == s then None else Some h

-- what stands under the number, once the channel of this serial stands so
abbrev pub occupant_after : ℕ → Standing → Option Occupant → Option Occupant
occupant_after s standing.Nothing before = without_occupant s before
occupant_after s standing.Listening before = Some (record { serial = s; standing = standing.Listening })
occupant_after s standing.Connecting before = Some (record { serial = s; standing = standing.Connecting })
occupant_after s standing.Linked before = Some (record { serial = s; standing = standing.Linked })
occupant_after s standing.Shut before = Some (record { serial = s; standing = standing.Shut })
occupant_after s standing.Gone before = without_occupant s before

-- nothing else stands there: the change can come to the channel; a link that couldn't be connected never stood there
abbrev pub IsAlone : Change → (ChanId → Place) → ChanId → Type 0
IsAlone (change.Listen at) place c = IsVacantNumber place c.number
IsAlone (change.Accept listener) place c = IsVacantNumber place c.number
IsAlone (change.Connect to (Ok made)) place c = IsVacantNumber place c.number
IsAlone (change.Connect to (Err failed)) place c = IsVacant (place c).standing
IsAlone change.FinishConnect place c = (place c).standing ≡ standing.Connecting
IsAlone change.ShutWrite place c = IsLinked (place c).standing
IsAlone change.Close place c = Unit {0}
IsAlone change.TakeOut place c = Unit {0}
IsAlone change.PutIn place c = IsVacantNumber place c.number

-- with room for the numbers below this one
abbrev pub grown_occupants : List (Option Occupant) → ℕ → List (Option Occupant)
grown_occupants occupants room = occupants ++ replicate (room - length occupants) None
