-- What stands under the numbers of a net, as changes make it.
use Rattle.std.proofs.Common.{◌≡◌, ◌≢◌, ℕ, ◌<◌, ◌≤◌, ◌⊎◌, inl, inr, ◌==◌, Bool, true, false, if◌then◌else◌, Option, Some}
use Rattle.std.proofs.Common.{None, Ok, Err, IfSome, IsTrue, List, [], ◌∷◌, ◌++◌, length, slice_set, refl, ap, sym, ◌∙◌, eqb-true}
use Rattle.std.proofs.Common.{eq-eqb, arith, subst, get_or-set_other, get_or-set_same, ◌-◌}
use Rattle.std.proofs.lemmas.Bool.{cases_lt, ne_eqb}
use Rattle.std.proofs.lemmas.List.{set_past, get_or_past}
use Rattle.nio_base.specs.declared.numbers.ChanId.{ChanId}
use Rattle.nio_base.specs.declared.numbers.ChanNo.{ChanNo}
use Rattle.nio_link.proofs.Changes.{changed_here, changed_else}
use Rattle.nio_link.proofs.Channels.{channel_is_or_not, channel_as, is_or_not, number_differs}
use Rattle.nio_link.proofs.Growing.{goes_on}
use Rattle.nio_link.specs.PlaceLogs.{AreHeld, IsAlone, grown_occupants, held_by, occupant_after, occupant_at}
use Rattle.nio_link.specs.PlaceLogs.{present, without_occupant, IsLogged}
use Rattle.nio_link.specs.Places.{channel, is_standing, is_connecting, is_listening, is_there, place_after, places_after}
use Rattle.nio_link.specs.Places.{standing_after}
use Rattle.nio_link.specs.Places.{IsVacant, IsVacantNumber, IsLinked}
use Rattle.nio_link.specs.declared.place.Change.{Change}
use Rattle.nio_link.specs.declared.place.Change.TheVariants as change
use Rattle.nio_link.specs.declared.place.Place.{Place}
use Rattle.nio_link.specs.declared.place.Standing.{Standing}
use Rattle.nio_link.specs.declared.place.Standing.TheVariants as standing
use Rattle.nio_link.specs.declared.occupants.Occupant.{Occupant}

-- ---- what is present

pub standing_present : (s : Standing) → is_standing (present s) ≡ is_standing s
standing_present standing.Nothing = refl
standing_present standing.Listening = refl
standing_present standing.Connecting = refl
standing_present standing.Linked = refl
standing_present standing.Shut = refl
standing_present standing.Gone = refl

pub connecting_present : (s : Standing) → is_connecting (present s) ≡ is_connecting s
connecting_present standing.Nothing = refl
connecting_present standing.Listening = refl
connecting_present standing.Connecting = refl
connecting_present standing.Linked = refl
connecting_present standing.Shut = refl
connecting_present standing.Gone = refl

pub listening_present : (s : Standing) → is_listening (present s) ≡ is_listening s
listening_present standing.Nothing = refl
listening_present standing.Listening = refl
listening_present standing.Connecting = refl
listening_present standing.Linked = refl
listening_present standing.Shut = refl
listening_present standing.Gone = refl

pub there_present : (s : Standing) → is_there (present s) ≡ is_there s
there_present standing.Nothing = refl
there_present standing.Listening = refl
there_present standing.Connecting = refl
there_present standing.Linked = refl
there_present standing.Shut = refl
there_present standing.Gone = refl

pub vacant_present : (s : Standing) → IsVacant s → present s ≡ standing.Nothing
vacant_present standing.Nothing vacant = refl
vacant_present standing.Listening vacant = elim vacant [ ]
vacant_present standing.Connecting vacant = elim vacant [ ]
vacant_present standing.Linked vacant = elim vacant [ ]
vacant_present standing.Shut vacant = elim vacant [ ]
vacant_present standing.Gone vacant = refl

pub present_vacant : (s : Standing) → present s ≡ standing.Nothing → IsVacant s
present_vacant standing.Nothing is = tt
present_vacant standing.Listening is = absurd (cc is)
present_vacant standing.Connecting is = absurd (cc is)
present_vacant standing.Linked is = absurd (cc is)
present_vacant standing.Shut is = absurd (cc is)
present_vacant standing.Gone is = tt

linked_present : (s : Standing) → IsLinked s → present s ≢ standing.Nothing
linked_present standing.Nothing linked is = elim linked [ ]
linked_present standing.Listening linked is = elim linked [ ]
linked_present standing.Connecting linked is = elim linked [ ]
linked_present standing.Linked linked is = absurd (cc is)
linked_present standing.Shut linked is = absurd (cc is)
linked_present standing.Gone linked is = elim linked [ ]

connecting_there : (s : Standing) → s ≡ standing.Connecting → present s ≢ standing.Nothing
connecting_there s is none =
    let clash : standing.Connecting ≡ standing.Nothing = sym (ap present is) ∙ none in absurd (cc clash)

closed_present : (p : Place) → present (place_after change.Close p).standing ≡ standing.Nothing
closed_present p = by_standing p.standing
  where
    by_standing : (s : Standing) → present (place_after change.Close (record p { standing = s })).standing ≡ standing.Nothing
    by_standing standing.Nothing = refl
    by_standing standing.Listening = refl
    by_standing standing.Connecting = refl
    by_standing standing.Linked = refl
    by_standing standing.Shut = refl
    by_standing standing.Gone = refl

present_after : (change : Change) (p : Place) → present (place_after change p).standing ≡ standing_after change
present_after (change.Listen at) p = refl
present_after (change.Accept listener) p = refl
present_after (change.Connect to (Ok true)) p = refl
present_after (change.Connect to (Ok false)) p = refl
present_after (change.Connect to (Err failed)) p = refl
present_after change.FinishConnect p = refl
present_after change.ShutWrite p = refl
present_after change.Close p = closed_present p
present_after change.TakeOut p = refl
present_after change.PutIn p = refl

-- ---- one number

held_itself : (s : ℕ) (st : Standing) → held_by (Some (record { serial = s; standing = st })) s ≡ st
held_itself s st = ap (λ (b : Bool). if b then st else standing.Nothing) (eq-eqb s s refl)

without_own : (s : ℕ) (before : Option Occupant) → held_by (without_occupant s before) s ≡ standing.Nothing
without_own s None = refl
without_own s (Some h) = by_test (h.serial == s) refl
  where
    by_test : (b : Bool) → (h.serial == s) ≡ b → held_by (if b then None else Some h) s ≡ standing.Nothing
    by_test true is = refl
    by_test false is = ap (λ (b : Bool). if b then h.standing else standing.Nothing) is

without_other : (s k : ℕ) (before : Option Occupant) → k ≢ s → held_by (without_occupant s before) k ≡ held_by before k
without_other s k None differ = refl
without_other s k (Some h) differ = by_test (h.serial == s) refl
  where
    by_test : (b : Bool) → (h.serial == s) ≡ b → held_by (if b then None else Some h) k ≡ held_by (Some h) k
    by_test true is =
        let at : h.serial ≡ s = eqb-true h.serial s is in
        sym (ap (λ (b : Bool). if b then h.standing else standing.Nothing)
        (ne_eqb h.serial k (λ same. differ (sym same ∙ at))))
    by_test false is = refl

own : (s : ℕ) (st : Standing) (before : Option Occupant) → held_by (occupant_after s st before) s ≡ present st
own s standing.Nothing before = without_own s before
own s standing.Listening before = held_itself s standing.Listening
own s standing.Connecting before = held_itself s standing.Connecting
own s standing.Linked before = held_itself s standing.Linked
own s standing.Shut before = held_itself s standing.Shut
own s standing.Gone before = without_own s before

apart : (s k : ℕ) (st : Standing) → k ≢ s → standing.Nothing ≡ held_by (Some (record { serial = s; standing = st })) k
apart s k st differ =
    sym (ap (λ (b : Bool). if b then st else standing.Nothing) (ne_eqb s k (λ same. differ (sym same))))

other : (s k : ℕ) (st : Standing) (before : Option Occupant) → k ≢ s
    → (is_there st ≡ true → held_by before k ≡ standing.Nothing)
    → held_by (occupant_after s st before) k ≡ held_by before k
other s k standing.Nothing before differ alone = without_other s k before differ
other s k standing.Listening before differ alone = sym (alone refl ∙ apart s k standing.Listening differ)
other s k standing.Connecting before differ alone = sym (alone refl ∙ apart s k standing.Connecting differ)
other s k standing.Linked before differ alone = sym (alone refl ∙ apart s k standing.Linked differ)
other s k standing.Shut before differ alone = sym (alone refl ∙ apart s k standing.Shut differ)
other s k standing.Gone before differ alone = without_other s k before differ

-- where the channel of one serial stands, that of no other does
one_alone : (s k : ℕ) (before : Option Occupant) → held_by before s ≢ standing.Nothing → k ≢ s
    → held_by before k ≡ standing.Nothing
one_alone s k None some differ = refl
one_alone s k (Some h) some differ = by_test (h.serial == s) refl
  where
    by_test : (b : Bool) → (h.serial == s) ≡ b → held_by (Some h) k ≡ standing.Nothing
    by_test true is =
        let at : h.serial ≡ s = eqb-true h.serial s is in
        ap (λ (b : Bool). if b then h.standing else standing.Nothing)
        (ne_eqb h.serial k (λ same. differ (sym same ∙ at)))
    by_test false is = absurd (some (ap (λ (b : Bool). if b then h.standing else standing.Nothing) is))

without_there : (s : ℕ) (before : Option Occupant) → IfSome before (λ h. IsTrue (is_there h.standing))
    → IfSome (without_occupant s before) (λ h. IsTrue (is_there h.standing))
without_there s None is = tt
without_there s (Some h) is = by_test (h.serial == s)
  where
    by_test : (b : Bool) → IfSome (if b then None else Some h) (λ x. IsTrue (is_there x.standing))
    by_test true = tt
    by_test false = is

-- ---- all numbers

module _ (occupants : List (Option Occupant)) (place : ChanId → Place) (held : AreHeld occupants place) (c : ChanId) where
  vacant_alone : IsVacantNumber place c.number → (k : ℕ) → held_by (occupant_at occupants c.number) k ≡ standing.Nothing
  vacant_alone vacant k =
      held (channel c.number k) ∙ vacant_present (place (channel c.number k)).standing (vacant k)

  standing_alone : present (place c).standing ≢ standing.Nothing → (k : ℕ) → k ≢ c.serial
      → held_by (occupant_at occupants c.number) k ≡ standing.Nothing
  standing_alone some k differ =
      one_alone c.serial k (occupant_at occupants c.number) (λ is. some (sym (held c) ∙ is)) differ

  -- what a change needs says that nothing else stands there
  pub alone_after : (change : Change) → IsAlone change place c → (k : ℕ) → k ≢ c.serial
      → is_there (standing_after change) ≡ true → held_by (occupant_at occupants c.number) k ≡ standing.Nothing
  alone_after (change.Listen at) alone k differ there = vacant_alone alone k
  alone_after (change.Accept listener) alone k differ there = vacant_alone alone k
  alone_after (change.Connect to (Ok made)) alone k differ there = vacant_alone alone k
  alone_after (change.Connect to (Err failed)) alone k differ there = absurd (cc there)
  alone_after change.FinishConnect alone k differ there =
      standing_alone (connecting_there (place c).standing alone) k differ
  alone_after change.ShutWrite alone k differ there =
      standing_alone (linked_present (place c).standing alone) k differ
  alone_after change.Close alone k differ there = absurd (cc there)
  alone_after change.TakeOut alone k differ there = absurd (cc there)
  alone_after change.PutIn alone k differ there = vacant_alone alone k

-- a change that makes nothing stand leaves nothing there
none_after : (change : Change) → (IsTrue (is_there (standing_after change)) → ⊥) → standing_after change ≡ standing.Nothing
none_after (change.Listen at) never = absurd (never refl)
none_after (change.Accept listener) never = absurd (never refl)
none_after (change.Connect to (Ok true)) never = absurd (never refl)
none_after (change.Connect to (Ok false)) never = absurd (never refl)
none_after (change.Connect to (Err failed)) never = refl
none_after change.FinishConnect never = absurd (never refl)
none_after change.ShutWrite never = absurd (never refl)
none_after change.Close never = refl
none_after change.TakeOut never = refl
none_after change.PutIn never = absurd (never refl)

present_standing : (change : Change) → present (standing_after change) ≡ standing_after change
present_standing (change.Listen at) = refl
present_standing (change.Accept listener) = refl
present_standing (change.Connect to (Ok true)) = refl
present_standing (change.Connect to (Ok false)) = refl
present_standing (change.Connect to (Err failed)) = refl
present_standing change.FinishConnect = refl
present_standing change.ShutWrite = refl
present_standing change.Close = refl
present_standing change.TakeOut = refl
present_standing change.PutIn = refl

module _ (occupants : List (Option Occupant)) (changes : List (ChanId × Change)) (c : ChanId) (change : Change)
    (held : AreHeld occupants (places_after changes)) (alone : IsAlone change (places_after changes) c)
    (room : IsTrue (is_there (standing_after change)) → c.number.0 < length occupants) where
  abbrev next : List (Option Occupant)
  next = slice_set occupants c.number.0 (occupant_after c.serial (standing_after change) (occupant_at occupants c.number))

  -- the channel itself
  held_here : held_by (occupant_at next c.number) c.serial ≡ standing_after change
  held_here = by_place (cases_lt c.number.0 (length occupants))
    where
      by_place : (c.number.0 < length occupants) ⊎ (length occupants ≤ c.number.0)
          → held_by (occupant_at next c.number) c.serial ≡ standing_after change
      by_place (inl within) =
          ap (λ (h : Option Occupant). held_by h c.serial)
          (get_or-set_same occupants c.number.0
          (occupant_after c.serial (standing_after change) (occupant_at occupants c.number)) None within)
          ∙ own c.serial (standing_after change) (occupant_at occupants c.number) ∙ present_standing change
      by_place (inr past) =
          let same : next ≡ occupants = set_past occupants c.number.0
          (occupant_after c.serial (standing_after change) (occupant_at occupants c.number)) past in
          ap (λ (hs : List (Option Occupant)). held_by (occupant_at hs c.number) c.serial) same
          ∙ ap (λ (h : Option Occupant). held_by h c.serial) (get_or_past occupants c.number.0 None past)
          ∙ sym (none_after change (λ makes. omega (arith, room makes, past)))

  -- another channel of its number
  held_beside : (k : ℕ) → k ≢ c.serial → held_by (occupant_at next c.number) k ≡ held_by (occupant_at occupants c.number) k
  held_beside k differ = by_place (cases_lt c.number.0 (length occupants))
    where
      by_place : (c.number.0 < length occupants) ⊎ (length occupants ≤ c.number.0)
          → held_by (occupant_at next c.number) k ≡ held_by (occupant_at occupants c.number) k
      by_place (inl within) =
          ap (λ (h : Option Occupant). held_by h k)
          (get_or-set_same occupants c.number.0
          (occupant_after c.serial (standing_after change) (occupant_at occupants c.number)) None within)
          ∙ other c.serial k (standing_after change) (occupant_at occupants c.number) differ
          (alone_after occupants (places_after changes) held c change alone k differ)
      by_place (inr past) =
          ap (λ (hs : List (Option Occupant)). held_by (occupant_at hs c.number) k)
          (set_past occupants c.number.0 (occupant_after c.serial (standing_after change) (occupant_at occupants c.number)) past)

  held_all : AreHeld next (places_after (changes ++ (c, change) ∷ []))
  held_all k = elim (channel_is_or_not k c) [
    | inl same ↦ subst (λ (x : ChanId). held_by (occupant_at next x.number) x.serial
        ≡ present (places_after (changes ++ (c, change) ∷ []) x).standing) (sym same)
        (held_here ∙ sym (ap (λ (p : Place). present p.standing) (changed_here changes c change)
        ∙ present_after change (places_after changes c)))
    | inr differ ↦ elim (is_or_not k.number c.number) [
      | inl number ↦
          ap (λ (n : ChanNo). held_by (occupant_at next n) k.serial) number
          ∙ held_beside k.serial (λ serial. differ (channel_as k c number serial))
          ∙ ap (λ (n : ChanNo). held_by (occupant_at occupants n) k.serial) (sym number) ∙ held k
          ∙ sym (ap (λ (p : Place). present p.standing) (changed_else changes c change k differ))
      | inr number ↦
          ap (λ (h : Option Occupant). held_by h k.serial)
          (get_or-set_other occupants c.number.0 k.number.0
          (occupant_after c.serial (standing_after change) (occupant_at occupants c.number)) None
          (number_differs k.number c.number number)) ∙ held k
          ∙ sym (ap (λ (p : Place). present p.standing) (changed_else changes c change k differ))
    ]
  ]

-- what holds a number is there still
pub occupant_there : (s : ℕ) (st : Standing) (before : Option Occupant) → IfSome before (λ h. IsTrue (is_there h.standing))
    → IfSome (occupant_after s st before) (λ h. IsTrue (is_there h.standing))
occupant_there s standing.Nothing before is = without_there s before is
occupant_there s standing.Listening before is = refl
occupant_there s standing.Connecting before is = refl
occupant_there s standing.Linked before is = refl
occupant_there s standing.Shut before is = refl
occupant_there s standing.Gone before is = without_there s before is

there_all : (occupants : List (Option Occupant)) (c : ChanNo) (next : Option Occupant)
    → ((n : ChanNo) → IfSome (occupant_at occupants n) (λ h. IsTrue (is_there h.standing)))
    → IfSome next (λ h. IsTrue (is_there h.standing)) → (n : ChanNo)
    → IfSome (occupant_at (slice_set occupants c.0 next) n) (λ h. IsTrue (is_there h.standing))
there_all occupants c next there is n = elim (is_or_not n c) [
  | inl same ↦ by_place (cases_lt c.0 (length occupants)) same
  | inr differ ↦ subst (λ (o : Option Occupant). IfSome o (λ h. IsTrue (is_there h.standing)))
      (sym (get_or-set_other occupants c.0 n.0 next None (number_differs n c differ))) (there n)
]
  where
    by_place : (c.0 < length occupants) ⊎ (length occupants ≤ c.0) → n ≡ c
        → IfSome (occupant_at (slice_set occupants c.0 next) n) (λ h. IsTrue (is_there h.standing))
    by_place (inl within) same =
        subst (λ (k : ChanNo). IfSome (occupant_at (slice_set occupants c.0 next) k) (λ h. IsTrue (is_there h.standing)))
        (sym same) (subst (λ (o : Option Occupant). IfSome o (λ h. IsTrue (is_there h.standing)))
        (sym (get_or-set_same occupants c.0 next None within)) is)
    by_place (inr past) same =
        subst (λ (hs : List (Option Occupant)). IfSome (occupant_at hs n) (λ h. IsTrue (is_there h.standing)))
        (sym (set_past occupants c.0 next past)) (there n)

-- the occupants and the changes after a change
pub logged_after : (occupants now : List (Option Occupant)) (changes later : List (ChanId × Change)) (c : ChanId)
    (change : Change) → IsLogged occupants changes → IsAlone change (places_after changes) c
    → (IsTrue (is_there (standing_after change)) → c.number.0 < length occupants)
    → now ≡ slice_set occupants c.number.0
    (occupant_after c.serial (standing_after change) (occupant_at occupants c.number))
    → later ≡ changes ++ (c, change) ∷ [] → IsLogged now later
logged_after occupants now changes later c change logged alone room is more =
    rw (is, more) (record {
      held = held_all occupants changes c change logged.held alone room;
      there = there_all occupants c.number (occupant_after c.serial (standing_after change) (occupant_at occupants c.number))
          logged.there (occupant_there c.serial (standing_after change) (occupant_at occupants c.number)
          (logged.there c.number));
    })

-- ---- more room

pub logged_grown : (occupants : List (Option Occupant)) (changes : List (ChanId × Change)) (n : ℕ)
    → IsLogged occupants changes → IsLogged (grown_occupants occupants n) changes
logged_grown occupants changes n logged = record {
  held = λ c. ap (λ (h : Option Occupant). held_by h c.serial) (goes_on None occupants (n - length occupants) c.number.0)
      ∙ logged.held c;
  there = λ k. subst (λ (o : Option Occupant). IfSome o (λ h. IsTrue (is_there h.standing)))
      (sym (goes_on None occupants (n - length occupants) k.0)) (logged.there k);
}

-- a number of which nothing is kept is vacant
pub none_vacant : (occupants : List (Option Occupant)) (changes : List (ChanId × Change)) (n : ChanNo)
    → IsLogged occupants changes → occupant_at occupants n ≡ None → IsVacantNumber (places_after changes) n
none_vacant occupants changes n logged is s =
    present_vacant (places_after changes (channel n s)).standing
    (sym (logged.held (channel n s)) ∙ ap (λ (h : Option Occupant). held_by h s) is)

there_some : (s : Standing) → IsTrue (is_there s) → s ≢ standing.Nothing
there_some s there is = let clash : false ≡ true = sym (ap is_there is) ∙ there in absurd (cc clash)

-- one of which something is kept isn't
pub some_there : (occupants : List (Option Occupant)) (changes : List (ChanId × Change)) (n : ChanNo) (h : Occupant)
    → IsLogged occupants changes → occupant_at occupants n ≡ Some h → IsVacantNumber (places_after changes) n → ⊥
some_there occupants changes n h logged is vacant =
    let there : IsTrue (is_there h.standing) =
    subst (λ (o : Option Occupant). IfSome o (λ x. IsTrue (is_there x.standing))) is (logged.there n) in
    let kept : held_by (Some h) h.serial ≡ present (places_after changes (channel n h.serial)).standing =
    ap (λ (o : Option Occupant). held_by o h.serial) (sym is) ∙ logged.held (channel n h.serial) in
    there_some h.standing there
    (sym (held_itself h.serial h.standing) ∙ kept
    ∙ vacant_present (places_after changes (channel n h.serial)).standing (vacant h.serial))

-- at first nothing stands
pub logged_first : (n : ℕ) → IsLogged (grown_occupants [] n) []
logged_first n = logged_grown [] [] n (record { held = λ c. refl; there = λ k. tt })
