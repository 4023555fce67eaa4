-- Where a call is allowed, by what is kept of the net.
use Rattle.std.proofs.Common.{◌≡◌, ◌≢◌, ◌↔◌, ◌<◌, nat_lt, Bool, true, false, ◌&&◌, Option, List, length, refl, ap, sym, ◌∙◌}
use Rattle.std.proofs.Common.{ltb-true}
use Rattle.std.proofs.lemmas.Bool.{and_parts, and_from, lt-ltb}
use Rattle.nio_base.specs.declared.numbers.ChanId.{ChanId}
use Rattle.nio_link.specs.PlaceLogs.{held_by, occupant_at, present}
use Rattle.nio_link.specs.Places.{channel, is_there, IsFree, IsLinked}
use Rattle.nio_link.specs.declared.occupants.Occupant.{Occupant}
use Rattle.nio_link.specs.declared.place.Place.{Place}
use Rattle.nio_link.specs.declared.place.Standing.{Standing}
use Rattle.nio_checked.proofs.Keeping.{free_from, free_to, linked_as, present_there, standing_kept, there_as}
use Rattle.nio_checked.specs.Checked.{IsKept, can_serve}

-- a call that was refused wasn't allowed, and one that wasn't refused was
pub not_allowed : {A : Type 0} (answer : A) (P : Type 0) → (P → ⊥) → (answer ≢ answer) ↔ P
not_allowed answer P never = (λ differ. absurd (differ refl), λ p. absurd (never p))

pub was_allowed : {A : Type 0} (answer refusal : A) (P : Type 0) → answer ≢ refusal → P → (answer ≢ refusal) ↔ P
was_allowed answer refusal P differ p = (λ _. p, λ _. differ)

-- the last channel of each number is kept
abbrev pub AreKept : (ChanId → Place) → List (Option Occupant) → Type 0
AreKept place lasts = (c : ChanId) → IsKept (occupant_at lasts c.number) c.serial (place c)

module _ (place : ChanId → Place) (lasts : List (Option Occupant)) (kept : AreKept place lasts) (c : ChanId) where
  same_present : present (held_by (occupant_at lasts c.number) c.serial) ≡ present (place c).standing
  same_present = standing_kept (occupant_at lasts c.number) c.serial (place c) (kept c)

  -- what is there by what is kept, is there
  pub stands_from : (x : Standing) → is_there x ≡ true → held_by (occupant_at lasts c.number) c.serial ≡ x
      → (place c).standing ≡ x
  stands_from x there is =
      there_as (place c).standing x (sym same_present ∙ ap present is ∙ present_there x there) there

  pub stands_to : (x : Standing) → is_there x ≡ true → (place c).standing ≡ x
      → held_by (occupant_at lasts c.number) c.serial ≡ x
  stands_to x there is =
      there_as (held_by (occupant_at lasts c.number) c.serial) x (same_present ∙ ap present is ∙ present_there x there) there

  pub linked_from : IsLinked (held_by (occupant_at lasts c.number) c.serial) → IsLinked (place c).standing
  linked_from linked =
      linked_as (held_by (occupant_at lasts c.number) c.serial) (place c).standing same_present linked

  pub linked_to : IsLinked (place c).standing → IsLinked (held_by (occupant_at lasts c.number) c.serial)
  linked_to linked =
      linked_as (place c).standing (held_by (occupant_at lasts c.number) c.serial) (sym same_present) linked

  -- the number is one of the net's, and the channel can be asked to be something
  abbrev pub CanServe : Bool
  CanServe = nat_lt c.number.0 (length lasts) && can_serve (occupant_at lasts c.number) c.serial

  pub serves_from : CanServe ≡ true → (c.number.0 < length lasts) × IsFree place c
  serves_from can =
      let both = and_parts (nat_lt c.number.0 (length lasts)) (can_serve (occupant_at lasts c.number) c.serial) can in (
        ltb-true c.number.0 (length lasts) both.0,
        free_from place c.number (occupant_at lasts c.number) c.serial (λ s. kept (channel c.number s)) both.1,
      )

  pub serves_to : (c.number.0 < length lasts) × IsFree place c → CanServe ≡ true
  serves_to both =
      and_from (nat_lt c.number.0 (length lasts)) (can_serve (occupant_at lasts c.number) c.serial)
      (lt-ltb c.number.0 (length lasts) both.0)
      (free_to place c.number (occupant_at lasts c.number) c.serial (λ s. kept (channel c.number s)) both.1)

  pub serves_never : CanServe ≡ false → (c.number.0 < length lasts) × IsFree place c → ⊥
  serves_never cannot both = cc (sym (serves_to both) ∙ cannot)
