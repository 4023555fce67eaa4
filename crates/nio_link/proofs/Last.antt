-- The last links of the numbers of a net in memory, as calls change them.
use Rattle.std.proofs.Common.{◌≡◌, ◌≢◌, ℕ, ◌-◌, ◌<◌, ◌≤◌, ◌⊎◌, inl, inr, ◌==◌, nat_lt, Bool, true, false, ◌&&◌, if◌then◌else◌}
use Rattle.std.proofs.Common.{Option, Some, None, option_map, is_none, IfSome, IsSome, IsTrue, List, [], ◌∷◌, ◌++◌, length, replicate, Ok, Err}
use Rattle.std.proofs.Common.{slice_set, refl, ap, sym, ◌∙◌, subst, arith}
use Rattle.std.proofs.lemmas.Bool.{cases_eq, cases_lt}
use Rattle.std.proofs.lemmas.Grind.{common_steps}
use Rattle.nio_base.specs.declared.numbers.ChanId.{ChanId}
use Rattle.nio_base.specs.declared.numbers.ChanNo.{ChanNo}
use Rattle.nio_link.proofs.Changes.{changed_here, changed_else}
use Rattle.nio_link.proofs.Channels.{channel_is_or_not, is_or_not}
use Rattle.nio_link.proofs.Growing.{goes_on}
use Rattle.nio_link.proofs.MemoryLaws.{link_slot, other_link, own_link, slot_else, slot_here}
use Rattle.nio_link.specs.MemoryLinks.{LinkState}
use Rattle.nio_link.specs.MemoryNet.{AreLast, NetState, has_number, is_free}
use Rattle.nio_link.specs.PlaceLogs.{occupant_at}
use Rattle.nio_link.specs.Places.{channel, is_link, is_standing, place_after, places_after, stands, IsFree}
use Rattle.nio_link.specs.Places.{IsLinked, IsVacant, IsVacantNumber}
use Rattle.nio_link.specs.Slots.{comes_after, grown, if_linked, last_serial, link_at, link_of, placed, slot_at}
use Rattle.nio_link.specs.declared.memory.slot.Slot.{Slot}
use Rattle.nio_link.specs.declared.memory.slot.Slot.TheVariants as slot
use Rattle.nio_link.specs.declared.place.Change.{Change}
use Rattle.nio_link.specs.declared.place.Change.TheVariants as change
use Rattle.nio_link.specs.declared.place.Place.{Place}
use Rattle.nio_link.specs.declared.place.Role.TheVariants as role
use Rattle.nio_link.specs.declared.place.Standing.{Standing}
use Rattle.nio_link.specs.declared.place.Standing.TheVariants as standing

-- ---- roles

-- what was asked to be something stays so
role_after : (change : Change) (p : Place) → p.role ≢ role.Nothing → (place_after change p).role ≢ role.Nothing
role_after (change.Listen at) p some is = absurd (cc is)
role_after (change.Accept listener) p some is = absurd (cc is)
role_after (change.Connect to (Ok true)) p some is = absurd (cc is)
role_after (change.Connect to (Ok false)) p some is = absurd (cc is)
role_after (change.Connect to (Err failed)) p some is = absurd (cc is)
role_after change.FinishConnect p some is = some is
role_after change.ShutWrite p some is = some is
role_after change.Close p some is = some is
role_after change.TakeOut p some is = some is
role_after change.PutIn p some is = absurd (cc is)

abbrev HasRole : (ChanId → Place) → ChanId → Type 0
HasRole place k = (place k).role ≢ role.Nothing

abbrev HasLink : (ChanId → Place) → ChanId → Type 0
HasLink place k = IsTrue (is_link (place k).standing)

vacant_link : (s : Standing) → IsVacant s → IsTrue (is_link s) → ⊥
vacant_link standing.Nothing vacant link = absurd (cc link)
vacant_link standing.Listening vacant link = elim vacant [ ]
vacant_link standing.Connecting vacant link = elim vacant [ ]
vacant_link standing.Linked vacant link = elim vacant [ ]
vacant_link standing.Shut vacant link = elim vacant [ ]
vacant_link standing.Gone vacant link = absurd (cc link)

module _ (changes : List (ChanId × Change)) (c : ChanId) (change : Change) where
  abbrev later : ChanId → Place
  later = places_after (changes ++ (c, change) ∷ [])

  -- what the place of the channel is
  pub at_place : (P : Place → Type 0) → P (place_after change (places_after changes c)) → P (later c)
  at_place P is = subst P (sym (changed_here changes c change)) is

  was_place : (P : Place → Type 0) → P (later c) → P (place_after change (places_after changes c))
  was_place P is = subst P (changed_here changes c change) is

  -- what the place of another channel is
  else_place : (P : Place → Type 0) (k : ChanId) → k ≢ c → P (places_after changes k) → P (later k)
  else_place P k differ is = subst P (sym (changed_else changes c change k differ)) is

  was_else : (P : Place → Type 0) (k : ChanId) → k ≢ c → P (later k) → P (places_after changes k)
  was_else P k differ is = subst P (changed_else changes c change k differ) is

  role_kept : (k : ChanId) → HasRole (places_after changes) k → HasRole later k
  role_kept k some = elim (channel_is_or_not k c) [
    | inl same ↦ subst (λ (x : ChanId). HasRole later x) (sym same)
        (at_place (λ p. p.role ≢ role.Nothing)
        (role_after change (places_after changes c) (subst (λ (x : ChanId). HasRole (places_after changes) x) same some)))
    | inr differ ↦ else_place (λ p. p.role ≢ role.Nothing) k differ some
  ]

  link_was : (IsTrue (is_link (place_after change (places_after changes c)).standing)
      → IsTrue (is_link (places_after changes c).standing)) → (k : ChanId) → HasLink later k
      → HasLink (places_after changes) k
  link_was keeps k link = elim (channel_is_or_not k c) [
    | inl same ↦ subst (λ (x : ChanId). HasLink (places_after changes) x) (sym same)
        (keeps (was_place (λ p. IsTrue (is_link p.standing)) (subst (λ (x : ChanId). HasLink later x) same link)))
    | inr differ ↦ was_else (λ p. IsTrue (is_link p.standing)) k differ link
  ]

-- ---- one slot

mapped : (o : Option ℕ) (P Q : ℕ → Type 0) → ((s : ℕ) → P s → Q s) → IfSome o P → IfSome o Q
mapped None P Q more is = tt
mapped (Some s) P Q more is = more s is

-- the last link of one number is another, or its places are others
module _ (slots : List Slot) (place later : ChanId → Place) (c : ChanNo) (x : Slot) where
  pub last_set : c.0 < length slots → IfSome (last_serial x) (λ s. HasRole later (channel c s))
      → ((k : ChanId) → HasRole place k → HasRole later k)
      → ((s : ℕ) → HasLink later (channel c s) → IsSome (link_of x s))
      → ((k : ChanId) → k.number ≢ c → HasLink later k → HasLink place k)
      → AreLast slots place → AreLast (slice_set slots c.0 x) later
  last_set within named roles here elsewhere last = record {
    asked = λ n. elim (is_or_not n c) [
      | inl same ↦ subst
          (λ (m : ChanNo). IfSome (last_serial (slot_at (slice_set slots c.0 x) m)) (λ s. HasRole later (channel m s)))
          (sym same)
          (subst (λ (y : Slot). IfSome (last_serial y) (λ s. HasRole later (channel c s)))
          (sym (slot_here slots c x within)) named)
      | inr differ ↦ subst (λ (y : Slot). IfSome (last_serial y) (λ s. HasRole later (channel n s)))
          (sym (slot_else slots c n x differ))
          (mapped (last_serial (slot_at slots n)) (λ s. HasRole place (channel n s)) (λ s. HasRole later (channel n s))
          (λ s. roles (channel n s)) (last.asked n))
    ];
    there = λ k link. elim (is_or_not k.number c) [
      | inl same ↦ subst (λ (n : ChanNo). IsSome (link_of (slot_at (slice_set slots c.0 x) n) k.serial)) (sym same)
          (subst (λ (y : Slot). IsSome (link_of y k.serial)) (sym (slot_here slots c x within))
          (here k.serial (subst (λ (n : ChanNo). HasLink later (channel n k.serial)) same link)))
      | inr differ ↦ subst (λ (y : Slot). IsSome (link_of y k.serial)) (sym (slot_else slots c k.number x differ))
          (last.there k (elsewhere k differ link))
    ];
  }

-- where only places changed
pub last_logged : (slots : List Slot) (changes : List (ChanId × Change)) (c : ChanId) (change : Change)
    → (IsTrue (is_link (place_after change (places_after changes c)).standing)
    → IsTrue (is_link (places_after changes c).standing)) → AreLast slots (places_after changes)
    → AreLast slots (places_after (changes ++ (c, change) ∷ []))
last_logged slots changes c change keeps last = record {
  asked = λ n. mapped (last_serial (slot_at slots n)) (λ s. HasRole (places_after changes) (channel n s))
      (λ s. HasRole (places_after (changes ++ (c, change) ∷ [])) (channel n s))
      (λ s. role_kept changes c change (channel n s)) (last.asked n);
  there = λ k link. last.there k (link_was changes c change keeps k link);
}

some_link : (m s : ℕ) (l x : LinkState) → IsSome (link_of (slot.Link m l) s) → IsSome (link_of (slot.Link m x) s)
some_link m s l x = by_test (m == s)
  where
    by_test : (b : Bool) → IsSome (if b then Some l else None) → IsSome (if b then Some x else None)
    by_test true is = refl
    by_test false is = absurd (cc is)

-- the link there was changed
pub last_placed : (slots : List Slot) (place : ChanId → Place) (c : ChanId) (o : Option LinkState)
    (change : LinkState → LinkState) → ((l : LinkState) → o ≡ Some l → link_at slots c ≡ Some l)
    → c.number.0 < length slots ⊎ o ≡ None → AreLast slots place → AreLast (placed c slots (option_map change o)) place
last_placed slots place c None change there within last = last
last_placed slots place c (Some l) change there (inr none) last = absurd (cc none)
last_placed slots place c (Some l) change there (inl within) last =
    let at : slot_at slots c.number ≡ slot.Link c.serial l =
    link_slot (slot_at slots c.number) c.serial l (there l refl) in
    last_set slots place place c.number (slot.Link c.serial (change l)) within
    (subst (λ (y : Slot). IfSome (last_serial y) (λ s. HasRole place (channel c.number s))) at (last.asked c.number))
    (λ k some. some)
    (λ s link. some_link c.serial s l (change l)
    (subst (λ (y : Slot). IsSome (link_of y s)) at (last.there (channel c.number s) link)))
    (λ k differ link. link) last

module _ (slots : List Slot) (changes : List (ChanId × Change)) (c : ChanId) (change : Change) where
  other_serial : (s : ℕ) → s ≢ c.serial → channel c.number s ≢ c
  other_serial s differ same = differ (ap (λ (k : ChanId). k.serial) same)

  other_number : (k : ChanId) → k.number ≢ c.number → k ≢ c
  other_number k differ same = differ (ap (λ (x : ChanId). x.number) same)

  -- a link was put under a channel whose number was vacant
  pub last_put : (l : LinkState) → c.number.0 < length slots → IsVacantNumber (places_after changes) c.number
      → (place_after change (places_after changes c)).role ≢ role.Nothing → AreLast slots (places_after changes)
      → AreLast (slice_set slots c.number.0 (slot.Link c.serial l)) (places_after (changes ++ (c, change) ∷ []))
  last_put l within vacant named last =
      last_set slots (places_after changes) (places_after (changes ++ (c, change) ∷ [])) c.number
      (slot.Link c.serial l) within (at_place changes c change (λ p. p.role ≢ role.Nothing) named)
      (role_kept changes c change) (λ s link. by_serial s link (cases_eq s c.serial))
      (λ k differ link. was_else changes c change (λ p. IsTrue (is_link p.standing)) k (other_number k differ) link) last
    where
      by_serial : (s : ℕ) → HasLink (places_after (changes ++ (c, change) ∷ [])) (channel c.number s)
          → (s ≡ c.serial) ⊎ (s ≢ c.serial) → IsSome (link_of (slot.Link c.serial l) s)
      by_serial s link (inl same) =
          subst (λ (m : ℕ). IsSome (link_of (slot.Link c.serial l) m)) (sym same)
          (subst (λ (o : Option LinkState). IsSome o) (sym (own_link c.serial l)) refl)
      by_serial s link (inr differ) =
          absurd (vacant_link (places_after changes (channel c.number s)).standing (vacant s)
          (was_else changes c change (λ p. IsTrue (is_link p.standing)) (channel c.number s) (other_serial s differ) link))

  -- the link there was taken out
  pub last_taken : (l : LinkState) → link_at slots c ≡ Some l → c.number.0 < length slots
      → (is_link (place_after change (places_after changes c)).standing ≡ false) → AreLast slots (places_after changes)
      → AreLast (slice_set slots c.number.0 (slot.TakenOut c.serial)) (places_after (changes ++ (c, change) ∷ []))
  last_taken l is within gone last =
      last_set slots (places_after changes) (places_after (changes ++ (c, change) ∷ [])) c.number
      (slot.TakenOut c.serial) within
      (role_kept changes c change c
      (subst (λ (y : Slot). IfSome (last_serial y) (λ s. HasRole (places_after changes) (channel c.number s))) at
      (last.asked c.number)))
      (role_kept changes c change) (λ s link. by_serial s link (cases_eq s c.serial))
      (λ k differ link. was_else changes c change (λ p. IsTrue (is_link p.standing)) k (other_number k differ) link) last
    where
      at : slot_at slots c.number ≡ slot.Link c.serial l
      at = link_slot (slot_at slots c.number) c.serial l is

      by_serial : (s : ℕ) → HasLink (places_after (changes ++ (c, change) ∷ [])) (channel c.number s)
          → (s ≡ c.serial) ⊎ (s ≢ c.serial) → IsSome (link_of (slot.TakenOut c.serial) s)
      by_serial s link (inl same) =
          let here : HasLink (places_after (changes ++ (c, change) ∷ [])) c =
          subst (λ (m : ℕ). HasLink (places_after (changes ++ (c, change) ∷ [])) (channel c.number m)) same link in
          let linked : IsTrue (is_link (place_after change (places_after changes c)).standing) =
          was_place changes c change (λ p. IsTrue (is_link p.standing)) here in
          absurd (cc (sym linked ∙ gone))
      by_serial s link (inr differ) =
          let was : IsSome (link_of (slot.Link c.serial l) s) = subst (λ (y : Slot). IsSome (link_of y s)) at
          (last.there (channel c.number s)
          (was_else changes c change (λ p. IsTrue (is_link p.standing)) (channel c.number s) (other_serial s differ) link)) in
          let none : IsSome {T = LinkState} None =
          subst (λ (o : Option LinkState). IsSome o) (other_link c.serial s l differ) was in
          absurd (cc none)

pub last_grown : (slots : List Slot) (place : ChanId → Place) (n : ℕ) → AreLast slots place
    → AreLast (grown slots n) place
last_grown slots place n last = record {
  asked = λ k. subst (λ (y : Slot). IfSome (last_serial y) (λ s. HasRole place (channel k s)))
      (sym (goes_on slot.Free slots (n - length slots) k.0)) (last.asked k);
  there = λ k link. subst (λ (y : Slot). IsSome (link_of y k.serial))
      (sym (goes_on slot.Free slots (n - length slots) k.number.0)) (last.there k link);
}

-- at first no number has a link
pub last_first : (n : ℕ) → AreLast (replicate n slot.Free) (places_after [])
last_first n = record {
  asked = λ k. subst (λ (y : Slot). IfSome (last_serial y) (λ s. HasRole (places_after []) (channel k s)))
      (sym (goes_on slot.Free [] n k.0)) tt;
  there = λ k link. absurd (cc link);
}

-- closing makes no link
pub close_keeps : (p : Place) → IsTrue (is_link (place_after change.Close p).standing) → IsTrue (is_link p.standing)
close_keeps p = by_standing p.standing
  where
    by_standing : (s : Standing) → IsTrue (is_link (place_after change.Close (record p { standing = s })).standing)
        → IsTrue (is_link s)
    by_standing standing.Nothing link = absurd (cc link)
    by_standing standing.Listening link = absurd (cc link)
    by_standing standing.Connecting link = absurd (cc link)
    by_standing standing.Linked link = absurd (cc link)
    by_standing standing.Shut link = absurd (cc link)
    by_standing standing.Gone link = absurd (cc link)

-- ---- what follows

pub linked_stands : (s : Standing) → IsTrue (is_standing s) → IsTrue (is_link s)
linked_stands standing.Nothing is = absurd (cc is)
linked_stands standing.Listening is = absurd (cc is)
linked_stands standing.Connecting is = absurd (cc is)
linked_stands standing.Linked is = refl
linked_stands standing.Shut is = refl
linked_stands standing.Gone is = absurd (cc is)

pub linked_standing : (s : Standing) → IsLinked s → IsTrue (is_standing s)
linked_standing standing.Nothing linked = elim linked [ ]
linked_standing standing.Listening linked = elim linked [ ]
linked_standing standing.Connecting linked = elim linked [ ]
linked_standing standing.Linked linked = refl
linked_standing standing.Shut linked = refl
linked_standing standing.Gone linked = elim linked [ ]

pub connecting_link : (s : Standing) → s ≡ standing.Connecting → IsTrue (is_link s)
connecting_link s is = ap (λ (t : Standing). is_link t) is

-- a link that stands is found
pub found_standing : (slots : List Slot) (place : ChanId → Place) (c : ChanId) → AreLast slots place
    → IsTrue (stands (place c)) → IsSome (if_linked (stands (place c)) (link_at slots c))
found_standing slots place c last is =
    subst (λ (b : Bool). IsSome (if_linked b (link_at slots c))) (sym is)
    (last.there c (linked_stands (place c).standing is))

-- one that isn't connected yet is
pub found_connecting : (slots : List Slot) (place : ChanId → Place) (c : ChanId) → AreLast slots place
    → (place c).standing ≡ standing.Connecting → IsSome (link_at slots c)
found_connecting slots place c last is = last.there c (connecting_link (place c).standing is)

after_role : (m : ℕ) (place : ChanId → Place) (c : ChanId) → IsFree place c → HasRole place (channel c.number m)
    → nat_lt m c.serial ≡ true
after_role m place c free asked = by_place (cases_lt m c.serial)
  where
    by_place : (m < c.serial) ⊎ (c.serial ≤ m) → nat_lt m c.serial ≡ true
    by_place (inl before) = grind (arith, common_steps)
    by_place (inr after) = absurd (asked (ap (λ (p : Place). p.role) (free.later m after)))

-- a free channel comes after the last link of its number
comes_by : (x : Slot) (place : ChanId → Place) (c : ChanId) → IsFree place c
    → IfSome (last_serial x) (λ s. HasRole place (channel c.number s)) → comes_after x c.serial ≡ true
comes_by slot.Free place c free asked = refl
comes_by (slot.TakenOut m) place c free asked = after_role m place c free asked
comes_by (slot.Link m l) place c free asked = after_role m place c free asked

pub free_comes : (slots : List Slot) (place : ChanId → Place) (c : ChanId) → IsFree place c → AreLast slots place
    → comes_after (slot_at slots c.number) c.serial ≡ true
free_comes slots place c free last = comes_by (slot_at slots c.number) place c free (last.asked c.number)

-- a free channel whose number the net has is served
pub free_serves : (s : NetState) (c : ChanId) → is_none (occupant_at s.occupants c.number) ≡ true
    → comes_after (slot_at s.slots c.number) c.serial ≡ true → is_free s c ≡ has_number s c
free_serves s c none comes =
    ap (λ (b : Bool). b && (nat_lt c.number.0 (length s.slots) && comes_after (slot_at s.slots c.number) c.serial)) none
    ∙ ap (λ (b : Bool). nat_lt c.number.0 (length s.slots) && b) comes ∙ and_true (nat_lt c.number.0 (length s.slots))
  where
    and_true : (b : Bool) → (b && true) ≡ b
    and_true true = refl
    and_true false = refl
