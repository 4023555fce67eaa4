-- What is kept of a net stands after each call.
use Rattle.std.proofs.Common.{◌≡◌, ◌≢◌, ◌⊎◌, ℕ, ◌<◌, ◌≤◌, ◌==◌, nat_lt, Bool, true, false, not, if◌then◌else◌, Option}
use Rattle.std.proofs.Common.{Some, None, IsTrue, List, length, get_or, set, ◌-◌, bit_and, refl, ap, sym, ◌∙◌, subst, arith}
use Rattle.std.proofs.Common.{eqb-true, eq-eqb, inl, inr, ltb-true}
use Rattle.std.proofs.lemmas.Bool.{cases_eq, cases_lt, and_parts, and_from, lt-ltb, ne_eqb}
use Rattle.std.proofs.lemmas.List.Elements.{All-map}
use Rattle.std.proofs.lemmas.Nat.Bits.{bit_at_and, same_from_bits}
use Rattle.std.proofs.lemmas.List.{get_or-set_other, get_or-set_same, get_or_past}
use Rattle.std.proofs.lemmas.List.Folds.{map_fixed}
use Rattle.std.specs.Int.Bits.{and_zero_l, and_zero_r}
use Rattle.nio_base.specs.declared.numbers.ChanId.{ChanId}
use Rattle.nio_base.specs.declared.numbers.ChanNo.{ChanNo}
use Rattle.nio_link.proofs.Channels.{all_same, is_or_not, number_differs}
use Rattle.nio_link.proofs.Making.{not_there, vacant_there}
use Rattle.nio_link.proofs.Present.{vacant_present}
use Rattle.nio_link.specs.Links.{IsSameBut}
use Rattle.nio_link.specs.PlaceLogs.{held_by, occupant_at, present}
use Rattle.nio_link.specs.Places.{channel, is_there, never_asked, IsFree, IsLinked, IsVacant}
use Rattle.nio_link.specs.Readiness.{ready_after_making, without}
use Rattle.nio_link.specs.declared.occupants.Occupant.{Occupant}
use Rattle.nio_link.specs.declared.place.Place.{Place}
use Rattle.nio_link.specs.declared.place.Role.TheVariants as role
use Rattle.nio_link.specs.declared.place.Standing.{Standing}
use Rattle.nio_link.specs.declared.place.Standing.TheVariants as standing
use Rattle.nio_poller.proofs.Marks.{within_trans}
use Rattle.nio_base.specs.Ops.{is_within}
use Rattle.nio_checked.specs.Checked.{IsKept, IsLast, can_serve}
use Rattle.nio_checked.specs.Listed.{AreReady, IsTold, changed_at, told_after}

-- ---- what stands by what is kept

-- what stands under a channel is what is kept of it
pub standing_kept : (last : Option Occupant) (s : ℕ) (p : Place) → IsKept last s p
    → present (held_by last s) ≡ present p.standing
standing_kept None s p kept = sym (ap (λ (q : Place). present q.standing) kept)
standing_kept (Some last) s p kept = by_order (cases_eq last.serial s) (cases_lt last.serial s)
  where
    none : (last.serial ≢ s) → held_by (Some last) s ≡ standing.Nothing
    none differ = ap (λ (b : Bool). if b then last.standing else standing.Nothing) (ne_eqb last.serial s differ)

    by_order : (last.serial ≡ s) ⊎ (last.serial ≢ s) → (last.serial < s) ⊎ (s ≤ last.serial)
        → present (held_by (Some last) s) ≡ present p.standing
    by_order (inl same) order =
        ap (λ (b : Bool). present (if b then last.standing else standing.Nothing)) (eq-eqb last.serial s same)
        ∙ sym (ap present (kept.itself (sym same)).0)
    by_order (inr differ) (inl below) =
        ap present (none differ) ∙ sym (ap (λ (q : Place). present q.standing) (kept.after below))
    by_order (inr differ) (inr above) =
        ap present (none differ) ∙ sym (vacant_present p.standing (kept.before (omega (arith, above, differ))))

-- what is there is what it is
pub there_as : (st x : Standing) → present st ≡ x → is_there x ≡ true → st ≡ x
there_as standing.Nothing x is there = absurd (cc (ap is_there is ∙ there))
there_as standing.Listening x is there = is
there_as standing.Connecting x is there = is
there_as standing.Linked x is there = is
there_as standing.Shut x is there = is
there_as standing.Gone x is there = absurd (cc (ap is_there is ∙ there))

-- what is there is present as it is
pub present_there : (st : Standing) → is_there st ≡ true → present st ≡ st
present_there standing.Nothing there = absurd (cc there)
present_there standing.Listening there = refl
present_there standing.Connecting there = refl
present_there standing.Linked there = refl
present_there standing.Shut there = refl
present_there standing.Gone there = absurd (cc there)

linked_there : (st : Standing) → IsLinked st → present st ≡ st
linked_there standing.Nothing linked = elim linked [ ]
linked_there standing.Listening linked = elim linked [ ]
linked_there standing.Connecting linked = elim linked [ ]
linked_there standing.Linked linked = refl
linked_there standing.Shut linked = refl
linked_there standing.Gone linked = elim linked [ ]

linked_is_there : (st : Standing) → IsLinked st → is_there st ≡ true
linked_is_there standing.Nothing linked = elim linked [ ]
linked_is_there standing.Listening linked = elim linked [ ]
linked_is_there standing.Connecting linked = elim linked [ ]
linked_is_there standing.Linked linked = refl
linked_is_there standing.Shut linked = refl
linked_is_there standing.Gone linked = elim linked [ ]

-- of two that are present alike, one is linked where the other is
pub linked_as : (a b : Standing) → present a ≡ present b → IsLinked a → IsLinked b
linked_as a b same linked =
    subst IsLinked (sym (there_as b a (sym same ∙ linked_there a linked) (linked_is_there a linked))) linked

-- ---- whether a channel can serve

not_true : (b : Bool) → not b ≡ true → b ≡ false
not_true true is = absurd (cc is)
not_true false is = refl

module _ (place : ChanId → Place) (n : ChanNo) where
  -- what is kept of a number, at each of its channels
  abbrev AreKept : Option Occupant → Type 0
  AreKept last = (s : ℕ) → IsKept last s (place (channel n s))

  pub free_from : (last : Option Occupant) (s : ℕ) → AreKept last → can_serve last s ≡ true
      → IsFree place (channel n s)
  free_from None s kept can = record {
    later = λ k after. kept k;
    vacant = λ k. subst (λ (p : Place). IsVacant p.standing) (sym (kept k)) tt;
  }
  free_from (Some last) s kept can =
      let both = and_parts (nat_lt last.serial s) (not (is_there last.standing)) can in
      let below : last.serial < s = ltb-true last.serial s both.0 in
      let gone : IsVacant last.standing =
      not_there last.standing (not_true (is_there last.standing) both.1) in record {
        later = λ k after. (kept k).after (omega (arith, below, after));
        vacant = λ k. by_order k (cases_eq k last.serial) (cases_lt last.serial k) gone;
      }
    where
      by_order : (k : ℕ) → (k ≡ last.serial) ⊎ (k ≢ last.serial) → (last.serial < k) ⊎ (k ≤ last.serial)
          → IsVacant last.standing → IsVacant (place (channel n k)).standing
      by_order k (inl same) order gone = subst IsVacant (sym ((kept k).itself same).0) gone
      by_order k (inr differ) (inl after) gone =
          subst (λ (p : Place). IsVacant p.standing) (sym ((kept k).after after)) tt
      by_order k (inr differ) (inr before) gone = (kept k).before (omega (arith, before, differ))

  pub free_to : (last : Option Occupant) (s : ℕ) → AreKept last → IsFree place (channel n s) → can_serve last s ≡ true
  free_to None s kept free = refl
  free_to (Some last) s kept free =
      let at = (kept last.serial).itself refl in
      and_from (nat_lt last.serial s) (not (is_there last.standing)) (below at (cases_lt last.serial s))
      (ap not (vacant_there last.standing (subst IsVacant at.0 (free.vacant last.serial))))
    where
      below : ((place (channel n last.serial)).standing ≡ last.standing)
          × ((place (channel n last.serial)).role ≢ role.Nothing) → (last.serial < s) ⊎ (s ≤ last.serial)
          → nat_lt last.serial s ≡ true
      below at (inl before) = lt-ltb last.serial s before
      below at (inr after) =
          absurd (at.1 (ap (λ (p : Place). p.role) (free.later last.serial after)))

-- ---- after a call on a channel

module _ (place place' : ChanId → Place) (lasts : List (Option Occupant)) where
  pub kept_same : ((c : ChanId) → place' c ≡ place c)
      → ((c : ChanId) → IsKept (occupant_at lasts c.number) c.serial (place c)) → (c : ChanId)
      → IsKept (occupant_at lasts c.number) c.serial (place' c)
  kept_same same kept c =
      subst (λ (p : Place). IsKept (occupant_at lasts c.number) c.serial p) (sym (same c)) (kept c)

  -- the channel is now the last of its number, and stands so
  module _ (chan : ChanId) (st : Standing) (others : IsSameBut chan place place')
      (within : chan.number.0 < length lasts) (here : (place' chan).standing ≡ st)
      (asked : (place' chan).role ≢ role.Nothing)
      (before : (s : ℕ) → s < chan.serial → IsVacant (place (channel chan.number s)).standing)
      (after : (s : ℕ) → chan.serial < s → place (channel chan.number s) ≡ never_asked)
      (kept : (c : ChanId) → IsKept (occupant_at lasts c.number) c.serial (place c)) where
    abbrev now : List (Option Occupant)
    now = set lasts chan.number.0 (Some (record { serial = chan.serial; standing = st }))

    last_here : (s : ℕ) → IsLast (record { serial = chan.serial; standing = st }) s (place' (channel chan.number s))
    last_here s = record {
      before = λ below. subst (λ (p : Place). IsVacant p.standing)
          (sym (others (channel chan.number s) (apart (λ same. omega (arith, below, same))))) (before s below);
      itself = λ same. subst
          (λ (k : ℕ). ((place' (channel chan.number k)).standing ≡ st) × ((place' (channel chan.number k)).role ≢ role.Nothing))
          (sym same) (here, asked);
      after = λ above. others (channel chan.number s) (apart (λ same. omega (arith, above, same))) ∙ after s above;
    }
      where
        apart : (s ≢ chan.serial) → channel chan.number s ≢ chan
        apart differ same = differ (ap (λ (c : ChanId). c.serial) same)

    pub kept_last : (c : ChanId) → IsKept (occupant_at now c.number) c.serial (place' c)
    kept_last c = elim (is_or_not c.number chan.number) [
      | inl same ↦ subst (λ (n : ChanNo). IsKept (occupant_at now n) c.serial (place' (channel n c.serial))) (sym same)
          (subst (λ (o : Option Occupant). IsKept o c.serial (place' (channel chan.number c.serial)))
          (sym (get_or-set_same lasts chan.number.0 (Some (record { serial = chan.serial; standing = st })) None within))
          (last_here c.serial))
      | inr differ ↦ subst (λ (o : Option Occupant). IsKept o c.serial (place' c))
          (sym (get_or-set_other lasts chan.number.0 c.number.0
          (Some (record { serial = chan.serial; standing = st })) None (number_differs c.number chan.number differ)))
          (subst (λ (p : Place). IsKept (occupant_at lasts c.number) c.serial p)
          (sym (others c (λ same. differ (ap (λ (k : ChanId). k.number) same)))) (kept c))
    ]

-- where something stands by what is kept, the channel is the last of its number, which is within
pub last_of : (lasts : List (Option Occupant)) (place : ChanId → Place) (chan : ChanId) (st : Standing)
    → ((c : ChanId) → IsKept (occupant_at lasts c.number) c.serial (place c))
    → held_by (occupant_at lasts chan.number) chan.serial ≡ st → is_there st ≡ true
    → (chan.number.0 < length lasts)
    × (((s : ℕ) → s < chan.serial → IsVacant (place (channel chan.number s)).standing)
    × (((s : ℕ) → chan.serial < s → place (channel chan.number s) ≡ never_asked) × ((place chan).role ≢ role.Nothing)))
last_of lasts place chan st kept is there = by_last (occupant_at lasts chan.number) refl
  where
    by_last : (o : Option Occupant) → occupant_at lasts chan.number ≡ o
        → (chan.number.0 < length lasts)
        × (((s : ℕ) → s < chan.serial → IsVacant (place (channel chan.number s)).standing)
        × (((s : ℕ) → chan.serial < s → place (channel chan.number s) ≡ never_asked) × ((place chan).role ≢ role.Nothing)))
    by_last None at =
        let nothing : standing.Nothing ≡ st = sym (ap (λ (o : Option Occupant). held_by o chan.serial) at) ∙ is in
        absurd (cc (ap is_there nothing ∙ there))
    by_last (Some h) at = by_serial (cases_eq h.serial chan.serial)
      where
        each : (s : ℕ) → IsLast h s (place (channel chan.number s))
        each s = subst (λ (o : Option Occupant). IsKept o s (place (channel chan.number s))) at (kept (channel chan.number s))

        within : chan.number.0 < length lasts
        within = elim (cases_lt chan.number.0 (length lasts)) [
          | inl inside ↦ inside
          | inr past ↦ let clash : None ≡ Some h = sym (get_or_past lasts chan.number.0 None past) ∙ at in absurd (cc clash)
        ]

        by_serial : (h.serial ≡ chan.serial) ⊎ (h.serial ≢ chan.serial)
            → (chan.number.0 < length lasts)
            × (((s : ℕ) → s < chan.serial → IsVacant (place (channel chan.number s)).standing)
            × (((s : ℕ) → chan.serial < s → place (channel chan.number s) ≡ never_asked)
            × ((place chan).role ≢ role.Nothing)))
        by_serial (inl same) = (
          within,
          (
            λ s below. (each s).before (omega (arith, below, same)),
            (λ s above. (each s).after (omega (arith, above, same)), ((each chan.serial).itself (sym same)).1),
          ),
        )
        by_serial (inr differ) =
            let nothing : standing.Nothing ≡ st =
            sym (ap (λ (o : Option Occupant). held_by o chan.serial) at
            ∙ ap (λ (b : Bool). if b then h.standing else standing.Nothing) (ne_eqb h.serial chan.serial differ)) ∙ is in
            absurd (cc (ap is_there nothing ∙ there))

-- a set without every operation is empty
pub all_taken : (ops : ℕ) → without 255 ops ≡ 0
all_taken ops = and_zero_r ops

-- ---- readiness

pub ready_same : (ready ready' : ChanNo → ℕ) (told : List (ChanNo × ℕ)) → ((c : ChanNo) → ready' c ≡ ready c)
    → AreReady ready told → AreReady ready' told
ready_same ready ready' told same all k d below =
    subst (λ ops. IsTrue (is_within (get_or told k d).1 ops)) (sym (same (get_or told k d).0)) (all k d below)

-- what is told of a channel it is ready for
pub told_ready : (ready : ChanNo → ℕ) (told : List (ChanNo × ℕ)) (c : ChanNo) (op : ℕ) → AreReady ready told
    → IsTold told c op → IsTrue (is_within op (ready c))
told_ready ready told c op all (k, x, below, there, is) =
    let listed : IsTrue (is_within x.1 (ready x.0)) = subst
    (λ (y : ChanNo × ℕ). IsTrue (is_within y.1 (ready y.0))) there (all k x below) in
    subst (λ (y : ChanNo). IsTrue (is_within op (ready y))) is.0
    (within_trans op x.1 (ready x.0) (eqb-true (bit_and op x.1) op is.1) listed)

part_without : (op a b : ℕ) → IsTrue (is_within a b) → IsTrue (is_within (without op a) (without op b))
part_without op a b part =
    let p : bit_and a b ≡ a = eqb-true (bit_and a b) a part in
    let m : ℕ = 255 - op in
    eq-eqb (bit_and (bit_and a m) (bit_and b m)) (bit_and a m)
    (same_from_bits (bit_and (bit_and a m) (bit_and b m)) (bit_and (bit_and a b) m) (λ i. simp bit_at_and (omega arith))
    ∙ ap (λ n. bit_and n m) p)

-- what is listed with a channel goes as its readiness does
pub ready_after : (ready ready' : ChanNo → ℕ) (told : List (ChanNo × ℕ)) (chan : ChanNo) (op : ℕ)
    → ready' chan ≡ without op (ready chan) → IsSameBut chan ready ready' → AreReady ready told
    → AreReady ready' (told_after chan (without op) told)
ready_after ready ready' told chan op here others all =
    All-map (λ (x : ChanNo × ℕ). IsTrue (is_within x.1 (ready' x.0))) (changed_at chan (without op)) told
    (λ k d below. each (get_or told k d) (all k d below))
  where
    each : (x : ChanNo × ℕ) → IsTrue (is_within x.1 (ready x.0))
        → IsTrue (is_within (if x.0.0 == chan.0 then without op x.1 else x.1) (ready' x.0))
    each x part = elim (is_or_not x.0 chan) [
      | inl same ↦
          let now : ready' x.0 ≡ without op (ready x.0) =
          subst (λ (c : ChanNo). ready' c ≡ without op (ready c)) (sym same) here in
          ap (λ (b : Bool). is_within (if b then without op x.1 else x.1) (ready' x.0))
          (eq-eqb x.0.0 chan.0 (ap (λ (c : ChanNo). c.0) same))
          ∙ subst (λ ops. IsTrue (is_within (without op x.1) ops)) (sym now) (part_without op x.1 (ready x.0) part)
      | inr apart ↦
          ap (λ (b : Bool). is_within (if b then without op x.1 else x.1) (ready' x.0))
          (ne_eqb x.0.0 chan.0 (number_differs x.0 chan apart))
          ∙ subst (λ ops. IsTrue (is_within x.1 ops)) (sym (others x.0 apart)) part
    ]

-- a channel that is ready for nothing any more is listed so
pub ready_none : (ready ready' : ChanNo → ℕ) (told : List (ChanNo × ℕ)) (chan : ChanNo) → IsSameBut chan ready ready'
    → AreReady ready told → AreReady ready' (told_after chan (λ _. 0) told)
ready_none ready ready' told chan others all =
    All-map (λ (x : ChanNo × ℕ). IsTrue (is_within x.1 (ready' x.0))) (changed_at chan (λ _. 0)) told
    (λ k d below. each (get_or told k d) (all k d below))
  where
    each : (x : ChanNo × ℕ) → IsTrue (is_within x.1 (ready x.0))
        → IsTrue (is_within (if x.0.0 == chan.0 then 0 else x.1) (ready' x.0))
    each x part = elim (is_or_not x.0 chan) [
      | inl same ↦
          ap (λ (b : Bool). is_within (if b then 0 else x.1) (ready' x.0))
          (eq-eqb x.0.0 chan.0 (ap (λ (c : ChanNo). c.0) same)) ∙ ap (λ (n : ℕ). n == 0) (and_zero_l (ready' x.0))
      | inr apart ↦
          ap (λ (b : Bool). is_within (if b then 0 else x.1) (ready' x.0))
          (ne_eqb x.0.0 chan.0 (number_differs x.0 chan apart))
          ∙ subst (λ ops. IsTrue (is_within x.1 ops)) (sym (others x.0 apart)) part
    ]

-- a call that leaves the readiness of its channel leaves the list
pub told_still : (chan : ChanNo) (told : List (ChanNo × ℕ)) → told ≡ told_after chan (λ ops. ops) told
told_still chan told =
    sym (map_fixed (changed_at chan (λ ops. ops)) told (λ k d below. by_test (get_or told k d)
    ((get_or told k d).0.0 == chan.0)))
  where
    by_test : (x : ChanNo × ℕ) (b : Bool) → (x.0, if b then x.1 else x.1) ≡ x
    by_test x true = refl
    by_test x false = refl

-- ---- what was made, or wasn't

-- of two numbers whose readiness may change one stays as it was
pub same_but_one : (ready ready' : ChanNo → ℕ) (own other : ChanNo) → ready' other ≡ ready other
    → ((n : ChanNo) → n ≢ other → n ≢ own → ready' n ≡ ready n) → IsSameBut own ready ready'
same_but_one ready ready' own other here others n differ = elim (is_or_not n other) [
  | inl same ↦ ap ready' same ∙ here ∙ ap ready (sym same)
  | inr apart ↦ others n apart differ
]

-- where nothing was made, the list stays right
pub ready_unmade : (ready ready' : ChanNo → ℕ) (told : List (ChanNo × ℕ)) (chan : ChanNo) (st : Standing)
    → is_there st ≡ false → ready' chan ≡ ready_after_making (is_there st) (ready chan)
    → IsSameBut chan ready ready' → AreReady ready told → AreReady ready' told
ready_unmade ready ready' told chan st none here others all =
    ready_same ready ready' told (all_same is_or_not chan ready ready'
    (here ∙ ap (λ (b : Bool). ready_after_making b (ready chan)) none) others) all

-- where nothing was made, the list stays; else nothing is told of what was made
pub told_unmade : (chan : ChanNo) (told : List (ChanNo × ℕ)) (st : Standing) → is_there st ≡ false
    → told ≡ told_after chan (ready_after_making (is_there st)) told
told_unmade chan told st none =
    told_still chan told ∙ sym (ap (λ (b : Bool). told_after chan (ready_after_making b) told) none)

pub told_made : (chan : ChanNo) (told told' : List (ChanNo × ℕ)) (st : Standing) → is_there st ≡ true
    → told' ≡ told_after chan (λ _. 0) told → told' ≡ told_after chan (ready_after_making (is_there st)) told
told_made chan told told' st there is =
    is ∙ sym (ap (λ (b : Bool). told_after chan (ready_after_making b) told) there)
