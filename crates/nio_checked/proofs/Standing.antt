-- Which channel of a number stands.
use Rattle.std.proofs.Common.{◌≡◌, ◌≢◌, ◌⊎◌, ◌↔◌, ℕ, Bool, true, false, if◌then◌else◌, IsTrue, Option, Some, None, List, refl}
use Rattle.std.proofs.Common.{inl, inr, ap, sym, ◌∙◌, subst, eq-eqb}
use Rattle.std.proofs.lemmas.Bool.{cases_eq, ne_eqb}
use Rattle.std.proofs.lemmas.Option.{none-some, same_Some}
use Rattle.nio_base.specs.declared.numbers.ChanId.{ChanId}
use Rattle.nio_base.specs.declared.numbers.ChanNo.{ChanNo}
use Rattle.nio_link.proofs.Channels.{channel_as}
use Rattle.nio_link.proofs.Present.{there_present}
use Rattle.nio_link.specs.PlaceLogs.{held_by, occupant_at}
use Rattle.nio_link.specs.Places.{channel, is_there}
use Rattle.nio_link.specs.declared.occupants.Occupant.{Occupant}
use Rattle.nio_link.specs.declared.place.Place.{Place}
use Rattle.nio_link.specs.declared.place.Standing.TheVariants as standing
use Rattle.nio_checked.proofs.Keeping.{standing_kept}
use Rattle.nio_checked.specs.Checked.{IsKept, standing_channel}

pub there_kept : (last : Option Occupant) (s : ℕ) (p : Place) → IsKept last s p
    → is_there (held_by last s) ≡ is_there p.standing
there_kept last s p kept =
    sym (there_present (held_by last s)) ∙ (ap is_there (standing_kept last s p kept) ∙ there_present p.standing)

-- what stands by its serial, where the last has that serial or another one
held_same : (last : Occupant) (s : ℕ) → last.serial ≡ s → held_by (Some last) s ≡ last.standing
held_same last s is = ap (λ (b : Bool). if b then last.standing else standing.Nothing) (eq-eqb last.serial s is)

held_none : (last : Occupant) (s : ℕ) → last.serial ≢ s → held_by (Some last) s ≡ standing.Nothing
held_none last s differ =
    ap (λ (b : Bool). if b then last.standing else standing.Nothing) (ne_eqb last.serial s differ)

abbrev chosen : ChanNo → Occupant → Bool → Option ChanId
chosen n last b = if b then Some (channel n last.serial) else None

stands_by : (n : ChanNo) (last : Option Occupant) (c : ChanId) → c.number ≡ n → is_there (held_by last c.serial) ≡ true
    → standing_channel n last ≡ Some c
stands_by n None c same there = absurd (cc there)
stands_by n (Some last) c same there = by_serial (cases_eq last.serial c.serial)
  where
    by_serial : (last.serial ≡ c.serial) ⊎ (last.serial ≢ c.serial) → standing_channel n (Some last) ≡ Some c
    by_serial (inl is) =
        ap (chosen n last) (sym (ap is_there (held_same last c.serial is)) ∙ there)
        ∙ ap Some (channel_as (channel n last.serial) c (sym same) is)
    by_serial (inr differ) = absurd (cc (sym there ∙ ap is_there (held_none last c.serial differ)))

stands_only : (n : ChanNo) (last : Option Occupant) (c : ChanId) → standing_channel n last ≡ Some c
    → (c.number ≡ n) × (is_there (held_by last c.serial) ≡ true)
stands_only n None c is = absurd (none-some c is)
stands_only n (Some last) c is = by_test (is_there last.standing) refl
  where
    by_test : (t : Bool) → is_there last.standing ≡ t → (c.number ≡ n) × (is_there (held_by (Some last) c.serial) ≡ true)
    by_test true there =
        subst (λ (d : ChanId). (d.number ≡ n) × (is_there (held_by (Some last) d.serial) ≡ true))
        (same_Some (channel n last.serial) c (sym (ap (chosen n last) there) ∙ is))
        (refl, ap is_there (held_same last last.serial refl) ∙ there)
    by_test false none = absurd (none-some c (sym (ap (chosen n last) none) ∙ is))

pub standing_channel_is : (place : ChanId → Place) (lasts : List (Option Occupant)) (n : ChanNo)
    → ((c : ChanId) → IsKept (occupant_at lasts c.number) c.serial (place c)) → (c : ChanId)
    → (standing_channel n (occupant_at lasts n) ≡ Some c) ↔ ((c.number ≡ n) × IsTrue (is_there (place c).standing))
standing_channel_is place lasts n kept c = (
  λ is.
      let only = stands_only n (occupant_at lasts n) c is in
      (only.0, sym (there_kept (occupant_at lasts n) c.serial (place c) (its only.0)) ∙ only.1),
  λ both. stands_by n (occupant_at lasts n) c both.0
      (there_kept (occupant_at lasts n) c.serial (place c) (its both.0) ∙ both.1),
)
  where
    its : c.number ≡ n → IsKept (occupant_at lasts n) c.serial (place c)
    its same = subst (λ (m : ChanNo). IsKept (occupant_at lasts m) c.serial (place c)) same (kept c)
