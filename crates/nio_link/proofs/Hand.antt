-- The links of a net in memory stay in its hand.
use Rattle.std.proofs.Common.{◌≡◌, ℕ, zero, suc, ◌+◌, ◌-◌, ◌<◌, ◌≤◌, Bool, true, Option, Some, None, option_map}
use Rattle.std.proofs.Common.{◌≢◌, ◌⊎◌, inl, inr, IfSome, IsTrue, List, [], ◌∷◌, ◌++◌, length, slice_set, replicate, refl, ap, sym, ◌∙◌, subst, arith}
use Rattle.std.proofs.Common.{length-append}
use Rattle.std.proofs.lemmas.List.{length-replicate, length-set}
use Rattle.nio_base.specs.declared.numbers.ChanId.{ChanId}
use Rattle.nio_base.specs.declared.numbers.ChanNo.{ChanNo}
use Rattle.nio_link.proofs.Last.{last_grown, last_logged, last_placed, last_put, last_taken}
use Rattle.nio_link.proofs.MemoryLaws.{link_some, spent_grown, spent_placed, spent_put, spent_taken, there_if}
use Rattle.nio_link.proofs.Growing.{goes_on}
use Rattle.nio_link.proofs.Peers.{fresh_first, others}
use Rattle.std.specs.List.{remove}
use Rattle.std.specs.Option.{option_to_list}
use Rattle.nio_link.specs.MemoryLinks.{LinkState, IsFresh, link_after_read, link_after_write}
use Rattle.nio_link.specs.MemoryNet.{AreInHand, AreLast, end_under, other_targets, target_place}
use Rattle.nio_link.specs.PlaceLogs.{grown_occupants}
use Rattle.nio_link.specs.Slots.{comes_after, if_linked, link_at, past_after, placed, slot_at, slots_after_read, slots_after_shut}
use Rattle.nio_link.specs.Places.{is_link, place_after, places_after, IsVacantNumber}
use Rattle.nio_link.specs.Slots.{grown, slots_after_write, ArePast}
use Rattle.nio_link.specs.declared.occupants.Occupant.{Occupant}
use Rattle.nio_link.specs.declared.memory.slot.PastLink.{PastLink}
use Rattle.nio_link.specs.declared.memory.slot.Slot.{Slot}
use Rattle.nio_link.specs.declared.memory.slot.Slot.TheVariants as slot
use Rattle.nio_link.specs.declared.place.Change.{Change}
use Rattle.nio_link.specs.declared.place.Change.TheVariants as change
use Rattle.nio_link.specs.declared.place.Place.{Place}
use Rattle.nio_link.specs.declared.place.Role.TheVariants as role

pub length_set : {A : Type 0} (xs : List A) (i : ℕ) (x : A) → length (slice_set xs i x) ≡ length xs
length_set xs i x = length-set xs i x

length_placed : (c : ChanId) (slots : List Slot) (o : Option LinkState) → length (placed c slots o) ≡ length slots
length_placed c slots None = refl
length_placed c slots (Some l) = length_set slots c.number.0 (slot.Link c.serial l)

pub length_past : (n : ChanNo) (x : Slot) (past : List PastLink) → length (past_after n x past) ≤ length past + 1
length_past n slot.Free past = omega arith
length_past n (slot.TakenOut m) past = omega arith
length_past n (slot.Link m l) past = omega arith

pub length_occupants : (n : ℕ) → length (grown_occupants [] n) ≡ n
length_occupants n =
    let same : n - 0 ≡ n = omega arith in
    ap (λ (m : ℕ). length (replicate {A = Option Occupant} m None)) same ∙ length-replicate n None

-- there is a occupant for each number still
pub held_grown_room : (slots : List Slot) (occupants : List (Option Occupant)) (n : ℕ) → length slots ≤ length occupants
    → length (grown slots n) ≤ length (grown_occupants occupants n)
held_grown_room slots occupants n held =
    omega (
      arith,
      held,
      length-append slots (replicate (n - length slots) slot.Free),
      length-replicate (n - length slots) slot.Free,
      length-append occupants (replicate (n - length occupants) None),
      length-replicate {A = Option Occupant} (n - length occupants) None,
    )

-- no link was a past one
pub none_spent : (slots : List Slot) (past : List PastLink) → past ≡ [] → ArePast slots past
none_spent slots past none = rw none tt

-- only the place of one channel changed
pub hand_logged : (slots : List Slot) (past : List PastLink) (clients targets : List LinkState)
    (changes more : List (ChanId × Change)) (occupants now capacity : ℕ) (c : ChanId) (change : Change) → now ≡ occupants
    → more ≡ changes ++ (c, change) ∷ []
    → (IsTrue (is_link (place_after change (places_after changes c)).standing)
    → IsTrue (is_link (places_after changes c).standing))
    → AreInHand slots past clients targets (places_after changes) occupants capacity
    → AreInHand slots past clients targets (places_after more) now capacity
hand_logged slots past clients targets changes more occupants now capacity c change same is keeps hand =
    rw (is, same) (record {
      fresh_clients = hand.fresh_clients;
      fresh_targets = hand.fresh_targets;
      spent = hand.spent;
      last = last_logged slots changes c change keeps hand.last;
      held = hand.held;
      room = hand.room;
    })

-- a link that stands was changed
module _ (slots later : List Slot) (past : List PastLink) (clients targets : List LinkState) (place : ChanId → Place)
    (occupants capacity : ℕ) (c : ChanId) (linked : Bool) (change : LinkState → LinkState)
    (is : later ≡ placed c slots (option_map change (if_linked linked (link_at slots c))))
    (hand : AreInHand slots past clients targets place occupants capacity) where
  within : (o : Option LinkState) → if_linked linked (link_at slots c) ≡ o → (c.number.0 < length slots) ⊎ (o ≡ None)
  within None none = inr refl
  within (Some l) some = inl (link_some slots c l (there_if linked (link_at slots c) l some))

  hand_changed : AreInHand later past clients targets place occupants capacity
  hand_changed =
      let many : length later ≡ length slots =
      ap length is ∙ length_placed c slots (option_map change (if_linked linked (link_at slots c))) in record {
        fresh_clients = hand.fresh_clients;
        fresh_targets = hand.fresh_targets;
        spent = rw is (spent_placed slots past c (if_linked linked (link_at slots c)) change
            (there_if linked (link_at slots c)) hand.spent);
        last = rw is (last_placed slots place c (if_linked linked (link_at slots c)) change
            (there_if linked (link_at slots c)) (within (if_linked linked (link_at slots c)) refl) hand.last);
        held = omega (arith, many, hand.held);
        room = hand.room;
      }

module _ (slots later : List Slot) (past : List PastLink) (clients targets : List LinkState) (place : ChanId → Place)
    (occupants capacity : ℕ) (c : ChanId) (linked : Bool) where
  pub hand_read : (buffer : List ℕ)
      → later ≡ slots_after_read slots c (if_linked linked (link_at slots c)) buffer
      → AreInHand slots past clients targets place occupants capacity
      → AreInHand later past clients targets place occupants capacity
  hand_read buffer is hand =
      hand_changed slots later past clients targets place occupants capacity c linked (λ l. link_after_read l buffer)
      is hand

  pub hand_written : (bytes : List ℕ)
      → later ≡ slots_after_write slots c (if_linked linked (link_at slots c)) bytes
      → AreInHand slots past clients targets place occupants capacity
      → AreInHand later past clients targets place occupants capacity
  hand_written bytes is hand =
      hand_changed slots later past clients targets place occupants capacity c linked (λ l. link_after_write l bytes)
      is hand

  pub hand_shut : later ≡ slots_after_shut slots c (if_linked linked (link_at slots c))
      → AreInHand slots past clients targets place occupants capacity
      → AreInHand later past clients targets place occupants capacity
  hand_shut is hand =
      hand_changed slots later past clients targets place occupants capacity c linked
      (λ (l : LinkState). record l { shut = true }) is hand

-- there is room for one more past link, where one is to come
pub room_for_client : (slots : List Slot) (past : List PastLink) (clients targets : List LinkState)
    (place : ChanId → Place) (occupants capacity : ℕ) (l : LinkState) (rest : List LinkState) → clients ≡ l ∷ rest
    → AreInHand slots past clients targets place occupants capacity → length past < capacity
room_for_client slots past clients targets place occupants capacity l rest is hand =
    let some : length clients ≡ suc (length rest) = ap length is in omega (arith, hand.room, some)

pub room_for_target : (slots : List Slot) (past : List PastLink) (clients targets : List LinkState)
    (place : ChanId → Place) (occupants capacity : ℕ) (l : LinkState) (rest : List LinkState) → targets ≡ l ∷ rest
    → AreInHand slots past clients targets place occupants capacity → length past < capacity
room_for_target slots past clients targets place occupants capacity l rest is hand =
    let some : length targets ≡ suc (length rest) = ap length is in omega (arith, hand.room, some)

-- a link was put under a channel whose number was vacant
module _ (slots later : List Slot) (past past' : List PastLink) (changes more : List (ChanId × Change))
    (occupants now capacity capacity' : ℕ) (c : ChanId) (change : Change) (l : LinkState) (same : now ≡ occupants)
    (still : capacity' ≡ capacity) (is : later ≡ slice_set slots c.number.0 (slot.Link c.serial l))
    (was : past' ≡ past_after c.number (slot_at slots c.number) past) (one : more ≡ changes ++ (c, change) ∷ [])
    (within : c.number.0 < length slots) (after : comes_after (slot_at slots c.number) c.serial ≡ true)
    (vacant : IsVacantNumber (places_after changes) c.number)
    (named : (place_after change (places_after changes c)).role ≢ role.Nothing) where
  same_length : length later ≡ length slots
  same_length = ap length is ∙ length_set slots c.number.0 (slot.Link c.serial l)

  more_past : length past' ≤ length past + 1
  more_past = rw was (length_past c.number (slot_at slots c.number) past)

  last_after : AreLast slots (places_after changes) → AreLast later (places_after more)
  last_after last = rw (is, one) (last_put slots changes c change l within vacant named last)

  pub hand_accepted : (clients rest targets : List LinkState) → clients ≡ l ∷ rest
      → AreInHand slots past clients targets (places_after changes) occupants capacity
      → AreInHand later past' rest targets (places_after more) now capacity'
  hand_accepted clients rest targets first hand =
      let all : AreInHand slots past (l ∷ rest) targets (places_after changes) occupants capacity =
      subst (λ (ls : List LinkState). AreInHand slots past ls targets (places_after changes) occupants capacity) first hand
      in record {
        fresh_clients = all.fresh_clients.1;
        fresh_targets = all.fresh_targets;
        spent = rw (is, was) (spent_put slots past c l within after all.spent);
        last = last_after all.last;
        held = omega (arith, same_length, same, all.held);
        room = omega (arith, more_past, still, all.room);
      }

  pub hand_connected : (clients targets rest : List LinkState) → targets ≡ l ∷ rest
      → AreInHand slots past clients targets (places_after changes) occupants capacity
      → AreInHand later past' clients rest (places_after more) now capacity'
  hand_connected clients targets rest first hand =
      let all : AreInHand slots past clients (l ∷ rest) (places_after changes) occupants capacity =
      subst (λ (ls : List LinkState). AreInHand slots past clients ls (places_after changes) occupants capacity) first hand
      in record {
        fresh_clients = all.fresh_clients;
        fresh_targets = all.fresh_targets.1;
        spent = rw (is, was) (spent_put slots past c l within after all.spent);
        last = last_after all.last;
        held = omega (arith, same_length, same, all.held);
        room = omega (arith, more_past, still, all.room);
      }

-- ---- links handed over

fewer : (targets : List LinkState) (i : ℕ) → length (remove targets i) ≤ length targets
fewer [] zero = omega arith
fewer [] (suc i) = omega arith
fewer (l ∷ later) zero = omega arith
fewer (l ∷ later) (suc i) = omega (arith, fewer later i)

-- a link was taken out, with its peer's target
pub hand_taken : (slots later : List Slot) (past : List PastLink) (clients targets rest : List LinkState)
    (changes more : List (ChanId × Change)) (occupants now capacity : ℕ) (c : ChanId) (l : LinkState)
    → link_at slots c ≡ Some l → later ≡ slice_set slots c.number.0 (slot.TakenOut c.serial)
    → rest ≡ other_targets targets l.peer → more ≡ changes ++ (c, change.TakeOut) ∷ [] → now ≡ occupants
    → AreInHand slots past clients targets (places_after changes) occupants capacity
    → AreInHand later past clients rest (places_after more) now capacity
hand_taken slots later past clients targets rest changes more occupants now capacity c l at is left one same hand =
    let many : length later ≡ length slots = ap length is ∙ length_set slots c.number.0 (slot.TakenOut c.serial) in
    let few : length rest ≤ length targets = rw left (fewer targets (target_place targets l.peer)) in record {
      fresh_clients = hand.fresh_clients;
      fresh_targets = rw left (others targets l.peer hand.fresh_targets);
      spent = rw is (spent_taken slots past c (Some l) at hand.spent);
      last = rw (is, one) (last_taken slots changes c change.TakeOut l at (link_some slots c l at) refl hand.last);
      held = omega (arith, many, same, hand.held);
      room = omega (arith, few, hand.room);
    }

one_more_target : (o : Option LinkState) (targets : List LinkState)
    → length (option_to_list o ++ targets) ≤ length targets + 1
one_more_target None targets = omega arith
one_more_target (Some l) targets = omega arith

-- a link was put in, with its peer's target
module _ (slots more later : List Slot) (past past' : List PastLink) (clients targets targets' : List LinkState)
    (changes also : List (ChanId × Change)) (occupants more_occupants now capacity capacity' : ℕ) (c : ChanId)
    (end : LinkState) (target : Option LinkState) where
  pub hand_put_in : more ≡ grown slots (c.number.0 + 2) → c.number.0 < length more
      → comes_after (slot_at slots c.number) c.serial ≡ true
      → later ≡ slice_set more c.number.0 (slot.Link c.serial end)
      → past' ≡ past_after c.number (slot_at more c.number) past
      → targets' ≡ option_to_list (option_map (end_under c) target) ++ targets → IfSome target IsFresh
      → also ≡ changes ++ (c, change.PutIn) ∷ [] → IsVacantNumber (places_after changes) c.number
      → now ≡ more_occupants → length more ≤ more_occupants
      → length clients + (length targets + 2) + length past ≤ capacity'
      → AreInHand slots past clients targets (places_after changes) occupants capacity
      → AreInHand later past' clients targets' (places_after also) now capacity'
  hand_put_in grows within after is was others fresh one vacant same held room hand =
      let at : slot_at more c.number ≡ slot_at slots c.number =
      ap (λ (xs : List Slot). slot_at xs c.number) grows
      ∙ goes_on slot.Free slots (c.number.0 + 2 - length slots) c.number.0 in
      let spent : ArePast more past =
      subst (λ (xs : List Slot). ArePast xs past) (sym grows) (spent_grown slots past (c.number.0 + 2) hand.spent) in
      let last : AreLast more (places_after changes) =
      subst (λ (xs : List Slot). AreLast xs (places_after changes)) (sym grows)
      (last_grown slots (places_after changes) (c.number.0 + 2) hand.last) in
      let comes : comes_after (slot_at more c.number) c.serial ≡ true =
      ap (λ x. comes_after x c.serial) at ∙ after in
      let named : role.PutIn ≢ role.Nothing = λ is. absurd (cc is) in
      let many : length later ≡ length more =
      ap length is ∙ length_set more c.number.0 (slot.Link c.serial end) in
      let past_few : length past' ≤ length past + 1 = rw was (length_past c.number (slot_at more c.number) past) in
      let target_few : length targets' ≤ length targets + 1 =
      rw others (one_more_target (option_map (end_under c) target) targets) in record {
        fresh_clients = hand.fresh_clients;
        fresh_targets = rw others (fresh_first c target targets fresh hand.fresh_targets);
        spent = rw (is, was) (spent_put more past c end within comes spent);
        last = rw (is, one) (last_put more changes c change.PutIn end within vacant named last);
        held = omega (arith, many, same, held);
        room = omega (arith, past_few, target_few, room);
      }
