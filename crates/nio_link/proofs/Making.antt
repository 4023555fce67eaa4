-- What a number is ready for once something was made under it, and numbers that serve again.
use Rattle.std.proofs.Common.{◌≡◌, ◌≢◌, ℕ, ◌<◌, ◌≤◌, ◌⊎◌, inl, inr, Bool, false, List, [], ◌∷◌, ◌++◌, ap, sym, ◌∙◌, subst}
use Rattle.std.proofs.Common.{refl, arith}
use Rattle.std.proofs.lemmas.Bool.{cases_eq}
use Rattle.nio_base.specs.declared.numbers.ChanId.{ChanId}
use Rattle.nio_base.specs.declared.numbers.ChanNo.{ChanNo}
use Rattle.nio_link.proofs.Changes.{changed_here}
use Rattle.nio_link.specs.Links.{IsSameBut}
use Rattle.nio_link.specs.Places.{channel, is_there, place_after, places_after, never_asked, FreeAgain, IsFree}
use Rattle.nio_link.specs.Places.{IsVacant, IsVacantNumber}
use Rattle.nio_link.specs.Readiness.{ready_after_making}
use Rattle.nio_link.specs.declared.place.Change.{Change}
use Rattle.nio_link.specs.declared.place.Place.{Place}
use Rattle.nio_link.specs.declared.place.Standing.{Standing}
use Rattle.nio_link.specs.declared.place.Standing.TheVariants as standing

-- ---- what is vacant

pub vacant_there : (s : Standing) → IsVacant s → is_there s ≡ false
vacant_there standing.Nothing vacant = refl
vacant_there standing.Listening vacant = elim vacant [ ]
vacant_there standing.Connecting vacant = elim vacant [ ]
vacant_there standing.Linked vacant = elim vacant [ ]
vacant_there standing.Shut vacant = elim vacant [ ]
vacant_there standing.Gone vacant = refl

pub not_there : (s : Standing) → is_there s ≡ false → IsVacant s
not_there standing.Nothing is = tt
not_there standing.Listening is = absurd (cc is)
not_there standing.Connecting is = absurd (cc is)
not_there standing.Linked is = absurd (cc is)
not_there standing.Shut is = absurd (cc is)
not_there standing.Gone is = tt

listening_there : (s : Standing) → s ≡ standing.Listening → IsVacant s → ⊥
listening_there s is vacant =
    let here : IsVacant standing.Listening = subst (λ (t : Standing). IsVacant t) is vacant in elim here [ ]

-- nothing stands under a channel that is free
pub free_there : (place : ChanId → Place) (c : ChanId) → IsFree place c → is_there (place c).standing ≡ false
free_there place c free = vacant_there (place c).standing (free.vacant c.serial)

-- its number isn't a listener's
pub free_apart : (place : ChanId → Place) (listener c : ChanId) → IsFree place c
    → (place listener).standing ≡ standing.Listening → listener.number ≢ c.number
free_apart place listener c free listens same =
    let vacant : IsVacant (place (channel listener.number listener.serial)).standing =
    subst (λ (n : ChanNo). IsVacant (place (channel n listener.serial)).standing) (sym same)
    (free.vacant listener.serial) in
    listening_there (place listener).standing listens vacant

-- ---- readiness

-- what was told of a free channel's number stays where nothing was made
pub free_ready : (place : ChanId → Place) (c : ChanId) (ops : ℕ) → IsFree place c
    → ready_after_making (is_there (place c).standing) ops ≡ ops
free_ready place c ops free = ap (λ (b : Bool). ready_after_making b ops) (free_there place c free)

-- after a change, by how the channel stands then
pub ready_changed : (changes : List (ChanId × Change)) (c : ChanId) (change : Change) (ops : ℕ)
    → ready_after_making (is_there (places_after (changes ++ (c, change) ∷ []) c).standing) ops
    ≡ ready_after_making (is_there (place_after change (places_after changes c)).standing) ops
ready_changed changes c change ops =
    ap (λ (p : Place). ready_after_making (is_there p.standing) ops) (changed_here changes c change)

-- ---- a number serves again

again_later : (place now : ChanId → Place) (c d : ChanId) → IsFree place c → IsSameBut c place now
    → d.number ≡ c.number → c.serial < d.serial → (s : ℕ) → d.serial ≤ s → now (channel d.number s) ≡ never_asked
again_later place now c d free others number later s after =
    let other : channel d.number s ≢ c =
    λ same. let serial : s ≡ c.serial = ap (λ (k : ChanId). k.serial) same in absurd (omega arith) in
    let since : c.serial ≤ s = omega arith in
    others (channel d.number s) other ∙ ap (λ (n : ChanNo). place (channel n s)) number ∙ free.later s since

again_vacant : (place now : ChanId → Place) (c d : ChanId) → IsFree place c → IsSameBut c place now
    → IsVacant (now c).standing → d.number ≡ c.number → IsVacantNumber now d.number
again_vacant place now c d free others vacant number s = by_serial (cases_eq s c.serial)
  where
    at : IsVacant (now (channel c.number s)).standing → IsVacant (now (channel d.number s)).standing
    at is = subst (λ (n : ChanNo). IsVacant (now (channel n s)).standing) (sym number) is

    by_serial : (s ≡ c.serial) ⊎ (s ≢ c.serial) → IsVacant (now (channel d.number s)).standing
    by_serial (inl same) = at (subst (λ (m : ℕ). IsVacant (now (channel c.number m)).standing) (sym same) vacant)
    by_serial (inr differ) =
        at (subst (λ (p : Place). IsVacant p.standing)
        (sym (others (channel c.number s) (λ same. differ (ap (λ (k : ChanId). k.serial) same)))) (free.vacant s))

pub free_again : FreeAgain
free_again = λ place now c d free others vacant number later. record {
  later = again_later place now c d free others number later;
  vacant = again_vacant place now c d free others vacant number;
}
