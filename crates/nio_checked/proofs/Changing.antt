-- What is kept of a net and what is told of it, after each call.
use Rattle.std.proofs.Common.{◌≡◌, ◌≢◌, ℕ, nat_lt, Bool, true, false, ◌&&◌, Option, Some, List, length, set, refl}
use Rattle.std.proofs.Common.{ap, arith, sym, ◌∙◌, subst}
use Rattle.nio_base.specs.declared.numbers.ChanId.{ChanId}
use Rattle.nio_base.specs.declared.numbers.ChanNo.{ChanNo}
use Rattle.nio_link.proofs.Channels.{all_same, channel_is_or_not}
use Rattle.nio_link.proofs.Making.{free_there}
use Rattle.nio_link.specs.Links.{IsSameBut}
use Rattle.nio_link.specs.PlaceLogs.{held_by, occupant_at}
use Rattle.nio_link.specs.Places.{closed, is_there, place_after_close}
use Rattle.nio_link.specs.Readiness.{ready_after_close}
use Rattle.nio_link.specs.declared.occupants.Occupant.{Occupant}
use Rattle.nio_link.specs.declared.place.Place.{Place}
use Rattle.nio_link.specs.declared.place.Role.TheVariants as role
use Rattle.nio_link.specs.declared.place.Standing.{Standing}
use Rattle.nio_link.specs.declared.place.Standing.TheVariants as standing
use Rattle.nio_checked.proofs.Allowing.{AreKept, serves_from}
use Rattle.nio_checked.proofs.Keeping.{kept_last, kept_same, last_of, told_still}
use Rattle.nio_checked.proofs.Standing.{there_kept}
use Rattle.nio_checked.specs.Checked.{can_serve}
use Rattle.nio_checked.specs.Listed.{told_after}

module _ (place place' : ChanId → Place) (lasts now : List (Option Occupant)) (c : ChanId)
    (others : IsSameBut c place place') where
  -- the channel's place is as it was
  pub kept_still : place' c ≡ place c → AreKept place lasts → AreKept place' lasts
  kept_still here kept = kept_same place place' lasts (all_same channel_is_or_not c place place' here others) kept

  -- a channel that could be asked was asked to be something
  pub kept_made : (p : Place) → place' c ≡ p → p.role ≢ role.Nothing
      → (nat_lt c.number.0 (length lasts) && can_serve (occupant_at lasts c.number) c.serial) ≡ true
      → now ≡ set lasts c.number.0 (Some (record { serial = c.serial; standing = p.standing })) → AreKept place lasts
      → AreKept place' now
  kept_made p here asked can is kept =
      let both = serves_from place lasts kept c can in
      subst (AreKept place') (sym is) (kept_last place place' lasts c p.standing others both.0
      (ap (λ (q : Place). q.standing) here)
      (λ none. asked (sym (ap (λ (q : Place). q.role) here) ∙ none)) (λ s below. both.1.vacant s)
      (λ s above. both.1.later s (omega arith)) kept)

  -- something stood there by what is kept, and stands so now
  pub kept_moved : (was st : Standing) → held_by (occupant_at lasts c.number) c.serial ≡ was → is_there was ≡ true
      → place' c ≡ record (place c) { standing = st }
      → now ≡ set lasts c.number.0 (Some (record { serial = c.serial; standing = st })) → AreKept place lasts
      → AreKept place' now
  kept_moved was st at there here is kept =
      let last = last_of lasts place c was kept at there in
      subst (AreKept place') (sym is) (kept_last place place' lasts c st others last.0
      (ap (λ (q : Place). q.standing) here)
      (λ none. last.1.1.1 (sym (ap (λ (q : Place). q.role) here) ∙ none)) last.1.0 last.1.1.0 kept)

-- nothing stands under a channel that could be asked and wasn't
pub none_made : (place place' : ChanId → Place) (lasts : List (Option Occupant)) (c : ChanId) → AreKept place lasts
    → (nat_lt c.number.0 (length lasts) && can_serve (occupant_at lasts c.number) c.serial) ≡ true
    → place' c ≡ place c → is_there (place' c).standing ≡ false
none_made place place' lasts c kept can here =
    ap (λ (p : Place). is_there p.standing) here ∙ free_there place c (serves_from place lasts kept c can).1

-- ---- closing

-- what is there is gone then
closed_there : (st : Standing) → is_there st ≡ true → closed st ≡ standing.Gone
closed_there standing.Nothing there = absurd (cc there)
closed_there standing.Listening there = refl
closed_there standing.Connecting there = refl
closed_there standing.Linked there = refl
closed_there standing.Shut there = refl
closed_there standing.Gone there = refl

told_away : (st : Standing) (n : ChanNo) (told : List (ChanNo × ℕ)) → is_there st ≡ false
    → told ≡ told_after n (ready_after_close st) told
told_away standing.Nothing n told away = told_still n told
told_away standing.Listening n told away = absurd (cc away)
told_away standing.Connecting n told away = absurd (cc away)
told_away standing.Linked n told away = absurd (cc away)
told_away standing.Shut n told away = absurd (cc away)
told_away standing.Gone n told away = told_still n told

-- whether anything is there, by what is kept
is_there_kept : (place : ChanId → Place) (lasts : List (Option Occupant)) (c : ChanId) (b : Bool) → AreKept place lasts
    → is_there (held_by (occupant_at lasts c.number) c.serial) ≡ b → is_there (place c).standing ≡ b
is_there_kept place lasts c b kept is = sym (there_kept (occupant_at lasts c.number) c.serial (place c) (kept c)) ∙ is

pub kept_closed : (place place' : ChanId → Place) (lasts now : List (Option Occupant)) (c : ChanId) → AreKept place lasts
    → is_there (held_by (occupant_at lasts c.number) c.serial) ≡ true → IsSameBut c place place'
    → place' c ≡ place_after_close (place c)
    → now ≡ set lasts c.number.0 (Some (record { serial = c.serial; standing = standing.Gone })) → AreKept place' now
kept_closed place place' lasts now c kept there others here is =
    let gone : closed (place c).standing ≡ standing.Gone =
    closed_there (place c).standing (is_there_kept place lasts c true kept there) in
    kept_moved place place' lasts now c others (held_by (occupant_at lasts c.number) c.serial) standing.Gone refl there
    (here ∙ ap (λ (st : Standing). let p : Place = record (place c) { standing = st } in p) gone) is kept

pub told_kept_away : (place : ChanId → Place) (lasts : List (Option Occupant)) (told : List (ChanNo × ℕ)) (c : ChanId)
    → AreKept place lasts → is_there (held_by (occupant_at lasts c.number) c.serial) ≡ false
    → told ≡ told_after c.number (ready_after_close (place c).standing) told
told_kept_away place lasts told c kept away =
    told_away (place c).standing c.number told (is_there_kept place lasts c false kept away)
