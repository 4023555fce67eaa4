-- The slots that relay no connection.
use Rattle.std.proofs.Common.{◌≡◌, ◌≢◌, ℕ, ◌+◌, ◌<◌, ◌≤◌, ◌⊎◌, inl, inr, Option, Some, None, List, [], ◌∷◌, ◌++◌, length}
use Rattle.std.proofs.Common.{slice_get, refl, sym, ap, subst, ◌∙◌, arith, length-append}
use Rattle.std.specs.Prelude.{All, AllPairs, IfSome, option_map, slice_index_or}
use Rattle.std.proofs.lemmas.Bool.{cases_eq}
use Rattle.std.proofs.lemmas.List.Elements.{All-head, All-push, All-tail}
use Rattle.std.proofs.lemmas.List.Quantifiers.{all_pairs_push}
use Rattle.std.proofs.lemmas.Option.{slice_get_cases, slice_get_within}
use Rattle.nio_base.specs.declared.numbers.ChanId.{ChanId}
use Rattle.nio_relay.specs.declared.plan.ProxyPlan.{ProxyPlan}
use Rattle.nio_serve.specs.Changes.{AreUnbegun, Frees, IsIdleAfter, IsSameButOne, Occupies, PutsBack, TakesOut, begun}
use Rattle.nio_serve.specs.Changes.{emptied, new_slot, slot_after}
use Rattle.nio_serve.specs.Slots.{AreSlots, IsCounted, IsIdle, relay_of, status_at, statuses}
use Rattle.nio_serve.specs.declared.connections.Connections.{Connections}
use Rattle.nio_serve.specs.declared.relay.Ended.{Ended}
use Rattle.nio_serve.specs.declared.relay.Relay.{Relay}
use Rattle.nio_serve.specs.declared.slot.Slot.{Slot}
use Rattle.nio_serve.proofs.Counts.{pairs_head, pairs_tail}
use Rattle.nio_serve.proofs.Statuses.{past_of, serial_of, statuses_after, statuses_begun, statuses_idle, statuses_live}

-- ---- slots that stay idle

-- a slot that relays a connection isn't idle
not_idle : (slots : List Slot) (i j : ℕ) (relay : Relay) → relay_of (slice_get slots j) ≡ Some relay → IsIdle slots i
    → i ≢ j
not_idle slots i j relay was idle same =
    let never : Some relay ≡ None = sym was ∙ (ap (λ k. relay_of (slice_get slots k)) (sym same) ∙ idle.relay) in
    absurd (cc)

-- all but the slot j are the same
idle_else : (before now : List Slot) (j i : ℕ) → IsSameButOne j before now → i ≢ j → IsIdle before i → IsIdle now i
idle_else before now j i same other idle = record {
  within = omega (arith, idle.within, same.length);
  relay = ap relay_of (same.others i other) ∙ idle.relay;
}

all_idle_else : (before now : List Slot) (j : ℕ) (xs : List ℕ) → IsSameButOne j before now → All (λ i. i ≢ j) xs
    → All (IsIdle before) xs → All (IsIdle now) xs
all_idle_else before now j xs same others idle k d few =
    idle_else before now j (slice_index_or xs k d) same (others k d few) (idle k d few)

none_is_live : (slots : List Slot) (j : ℕ) (relay : Relay) (xs : List ℕ) → relay_of (slice_get slots j) ≡ Some relay
    → All (IsIdle slots) xs → All (λ i. i ≢ j) xs
none_is_live slots j relay xs was idle k d few = not_idle slots (slice_index_or xs k d) j relay was (idle k d few)

-- ---- counts of uses

counted_else : (begun : ℕ) (before now : List Slot) (j : ℕ) (slot : Slot) → IsSameButOne j before now
    → slice_get now j ≡ Some slot → IsCounted begun slot
    → ((i : ℕ) → IfSome (slice_get before i) (IsCounted begun))
    → (i : ℕ) → IfSome (slice_get now i) (IsCounted begun)
counted_else begun before now j slot same at here counted i = elim (cases_eq i j) [
  | inl is ↦ subst (λ k. IfSome (slice_get now k) (IsCounted begun)) (sym is)
      (subst (λ o. IfSome o (IsCounted begun)) (sym at) here)
  | inr other ↦ subst (λ o. IfSome o (IsCounted begun)) (sym (same.others i other)) (counted i)
]

pub counted_of : (c : Connections) (j : ℕ) (slot : Slot) → AreSlots c → slice_get c.slots.items j ≡ Some slot
    → IsCounted c.begun slot
counted_of c j slot slots at = subst (λ o. IfSome o (IsCounted c.begun)) at (slots.counted j)

-- so many took a slot as its connections are, also once the last of them was put back or has ended
counted_after : (begun : ℕ) (slot : Slot) (was relay : Relay) (ended : Option Ended) → slot.relay ≡ Some was
    → IsCounted begun slot → IsCounted begun (slot_after relay ended (emptied slot))
counted_after begun slot was relay ended is counted =
    let before : length (statuses (Some slot)) ≡ serial_of slot + 1 =
    ap length (statuses_live slot was is) ∙ length-append (past_of slot) _ in
    let now : length (statuses (Some (slot_after relay ended (emptied slot)))) ≡ serial_of slot + 1 =
    ap length (statuses_after slot relay ended) ∙ length-append (past_of slot) _ in
    same_uses relay ended before now
  where
    same_uses : (relay : Relay) (ended : Option Ended) → length (statuses (Some slot)) ≡ serial_of slot + 1
        → length (statuses (Some (slot_after relay ended (emptied slot)))) ≡ serial_of slot + 1
        → IsCounted begun (slot_after relay ended (emptied slot))
    same_uses relay None before now = record { uses = counted.uses ∙ (before ∙ sym now); few = counted.few }
    same_uses relay (Some e) before now = record { uses = counted.uses ∙ (before ∙ sym now); few = counted.few }

-- ---- the slot j is another one

-- the slot from which a connection was taken out
pub slot_of_relay : (slots : List Slot) (j : ℕ) (relay : Relay) → relay_of (slice_get slots j) ≡ Some relay
    → (slot : Slot) × ((slice_get slots j ≡ Some slot) × (slot.relay ≡ Some relay))
slot_of_relay slots j relay is = elim (slice_get_cases slots j).1 [
  | inl there ↦ (there.0, (there.2, sym (ap relay_of there.2) ∙ is))
  | inr past ↦ let never : None ≡ Some relay = sym (ap relay_of past.1) ∙ is in absurd (cc)
]

-- it was taken out and put back, or has ended
pub put_slot : (j : ℕ) (was relay : Relay) (ended : Option Ended) (c0 c1 c2 : Connections) (slot : Slot)
    → slice_get c0.slots.items j ≡ Some slot → TakesOut j was c0 c1 → PutsBack j relay ended c1 c2
    → slice_get c2.slots.items j ≡ Some (slot_after relay ended (emptied slot))
put_slot j was relay ended c0 c1 c2 slot at takes puts =
    puts.slot
    ∙ ap (λ o. option_map (slot_after relay ended) o) (takes.slot ∙ ap (λ o. option_map emptied o) at)

pub put_others : {j : ℕ} {a b c : List Slot} → IsSameButOne j a b → IsSameButOne j b c → IsSameButOne j a c
put_others first second = record {
  others = λ i other. second.others i other ∙ first.others i other;
  length = second.length ∙ first.length;
}

-- the slots are as they should be still
pub slots_put : (j : ℕ) (was relay : Relay) (ended : Option Ended) (c0 c1 c2 : Connections) → AreSlots c0
    → TakesOut j was c0 c1 → PutsBack j relay ended c1 c2 → AreSlots c2
slots_put j was relay ended c0 c1 c2 slots takes puts =
    let found = slot_of_relay c0.slots.items j was takes.was in
    let slot = found.0 in
    let at = put_slot j was relay ended c0 c1 c2 slot found.1.0 takes puts in
    let same = put_others takes.others puts.others in
    let begun : c2.begun ≡ c0.begun = puts.none.begun ∙ takes.moved.none.begun in
    let free : c2.free ≡ c0.free = puts.free ∙ takes.free in
    let others = none_is_live c0.slots.items j was c0.idle.items takes.was slots.idle in
    let before : All (IsIdle c2.slots.items) c0.idle.items =
    all_idle_else c0.slots.items c2.slots.items j c0.idle.items same others slots.idle in
    let noted = noted_after ended slot relay at (subst (λ (xs : List ℕ). IsIdleAfter j ended xs c2.idle.items) takes.idle puts.idle)
    slot found.1.0 same in
    record {
      counted = subst (λ m. (i : ℕ) → IfSome (slice_get c2.slots.items i) (IsCounted m)) (sym begun)
          (counted_else c0.begun c0.slots.items c2.slots.items j (slot_after relay ended (emptied slot)) same at
          (counted_after c0.begun slot was relay ended found.1.1 (counted_of c0 j slot slots found.1.0)) slots.counted);
      idle = elim noted [
        | inl kept ↦ subst (All (IsIdle c2.slots.items)) (sym kept) before
        | inr more ↦ subst (All (IsIdle c2.slots.items)) (sym more.0)
            (All-push (IsIdle c2.slots.items) c0.idle.items j before more.1)
      ];
      once = elim noted [
        | inl kept ↦ subst (AllPairs (λ x y. x ≢ y)) (sym kept) slots.once
        | inr more ↦ subst (AllPairs (λ x y. x ≢ y)) (sym more.0)
            (all_pairs_push (λ x y. x ≢ y) c0.idle.items j slots.once others)
      ];
      free = elim noted [
        | inl kept ↦ omega (arith, slots.free, free, ap length kept)
        | inr more ↦ omega (arith, slots.free, free, ap length more.0, length-append c0.idle.items (j ∷ []))
      ];
      few = omega (arith, slots.few, same.length);
    }
  where
    noted_after : (ended : Option Ended) (slot : Slot) (relay : Relay)
        → slice_get c2.slots.items j ≡ Some (slot_after relay ended (emptied slot))
        → IsIdleAfter j ended c0.idle.items c2.idle.items → (s : Slot) → slice_get c0.slots.items j ≡ Some s
        → IsSameButOne j c0.slots.items c2.slots.items
        → (c2.idle.items ≡ c0.idle.items) ⊎ ((c2.idle.items ≡ c0.idle.items ++ j ∷ []) × IsIdle c2.slots.items j)
    noted_after None slot relay at noted s found same = inl noted
    noted_after (Some e) slot relay at noted s found same = elim noted [
      | inl kept ↦ inl kept
      | inr more ↦ inr (
        more,
        record {
          within = omega (arith, same.length, slice_get_within c0.slots.items j s found);
          relay = ap relay_of at;
        },
      )
    ]

-- ---- a connection takes a slot

-- the slot that is taken
pub slot_of_idle : (slots : List Slot) (j : ℕ) → IsIdle slots j
    → (slot : Slot) × ((slice_get slots j ≡ Some slot) × (slot.relay ≡ None))
slot_of_idle slots j idle = elim (slice_get_cases slots j).1 [
  | inl there ↦ (there.0, (there.2, sym (ap relay_of there.2) ∙ idle.relay))
  | inr past ↦ absurd (omega (arith, idle.within, past.0))
]

-- the first idle slot
pub first_idle : (c : Connections) (j : ℕ) (rest : List ℕ) → AreSlots c → c.idle.items ≡ j ∷ rest
    → IsIdle c.slots.items j
first_idle c j rest slots is =
    All-head (IsIdle c.slots.items) j rest (subst (All (IsIdle c.slots.items)) is slots.idle)

counted_begun : (begun_before : ℕ) (slot : Slot) (relay : Option Relay) → slot.relay ≡ None → IsCounted begun_before slot
    → IsCounted (begun_before + 1) (begun relay slot)
counted_begun begun_before slot relay idle counted =
    let before : length (statuses (Some slot)) ≡ serial_of slot = ap length (statuses_idle slot idle) in
    let now : length (statuses (Some (begun relay slot))) ≡ serial_of slot + 1 =
    ap length (statuses_begun slot relay idle) ∙ length-append (past_of slot) _ in
    by_relay relay now before
  where
    by_relay : (relay : Option Relay) → length (statuses (Some (begun relay slot))) ≡ serial_of slot + 1
        → length (statuses (Some slot)) ≡ serial_of slot → IsCounted (begun_before + 1) (begun relay slot)
    by_relay (Some r) now before =
        record { uses = omega (arith, counted.uses, before, now); few = omega (arith, counted.few) }
    by_relay None now before =
        record { uses = omega (arith, counted.uses, before, now); few = omega (arith, counted.few) }

counted_more : (begun_before : ℕ) (slots : List Slot) → ((i : ℕ) → IfSome (slice_get slots i) (IsCounted begun_before))
    → (i : ℕ) → IfSome (slice_get slots i) (IsCounted (begun_before + 1))
counted_more begun_before slots counted i = weaker (slice_get slots i) (counted i)
  where
    weaker : (o : Option Slot) → IfSome o (IsCounted begun_before) → IfSome o (IsCounted (begun_before + 1))
    weaker None is = tt
    weaker (Some slot) is = record { uses = is.uses; few = omega (arith, is.few) }

pub slots_occupied : (client : ChanId) (relay : Option Relay) (c0 c1 : Connections) → AreSlots c0
    → Occupies client relay c0 c1 → AreSlots c1
slots_occupied client relay c0 c1 slots occupies =
    let j = occupies.j in
    let found = slot_of_idle c0.slots.items j (first_idle c0 j c1.idle.items slots occupies.idle) in
    let slot = found.0 in
    let at : slice_get c1.slots.items j ≡ Some (begun relay slot) =
    occupies.slot ∙ ap (λ o. option_map (begun relay) o) found.1.0 in
    let once : AllPairs (λ x y. x ≢ y) (j ∷ c1.idle.items) =
    subst (AllPairs (λ x y. x ≢ y)) occupies.idle slots.once in
    let idle : All (IsIdle c0.slots.items) (j ∷ c1.idle.items) =
    subst (All (IsIdle c0.slots.items)) occupies.idle slots.idle in
    let others : All (λ i. i ≢ j) c1.idle.items = λ k d few same.
    pairs_head (λ x y. x ≢ y) j c1.idle.items once k d few (sym same) in
    record {
      counted = subst (λ m. (i : ℕ) → IfSome (slice_get c1.slots.items i) (IsCounted m)) (sym occupies.more)
          (counted_else (c0.begun + 1) c0.slots.items c1.slots.items j (begun relay slot) occupies.others at
          (counted_begun c0.begun slot relay found.1.1 (counted_of c0 j slot slots found.1.0))
          (counted_more c0.begun c0.slots.items slots.counted));
      idle = all_idle_else c0.slots.items c1.slots.items j c1.idle.items occupies.others others
          (All-tail (IsIdle c0.slots.items) j c1.idle.items idle);
      once = pairs_tail (λ x y. x ≢ y) j c1.idle.items once;
      free = omega (arith, slots.free, occupies.free, ap length occupies.idle);
      few = omega (arith, slots.few, occupies.others.length);
    }

-- ---- slots that serve again

pub slots_freed : (c0 c1 : Connections) → AreSlots c0 → Frees c0 c1 → AreSlots c1
slots_freed c0 c1 slots frees = record {
  counted = subst (λ m. (i : ℕ) → IfSome (slice_get c1.slots.items i) (IsCounted m)) (sym frees.moved.none.begun)
      (subst (λ (xs : List Slot). (i : ℕ) → IfSome (slice_get xs i) (IsCounted c0.begun)) (sym frees.slots)
      slots.counted);
  idle = subst (λ (xs : List Slot). All (IsIdle xs) c1.idle.items) (sym frees.slots)
      (subst (All (IsIdle c0.slots.items)) (sym frees.idle) slots.idle);
  once = subst (AllPairs (λ x y. x ≢ y)) (sym frees.idle) slots.once;
  free = omega (arith, frees.free);
  few = omega (arith, slots.few, ap length frees.slots);
}

-- ---- the slots of a proxy that begins

pub slots_first : (plan : ProxyPlan) (c : Connections) → AreUnbegun plan c → plan.at_once ≤ 16000 → AreSlots c
slots_first plan c first few = record {
  counted = λ j. elim (slice_get_cases c.slots.items j).1 [
    | inl there ↦ subst (λ o. IfSome o (IsCounted c.begun)) (sym there.2)
        (subst (IsCounted c.begun)
        (sym (subst (λ (s : Slot). s ≡ new_slot) there.3 (first.slots j there.0 there.1)))
        (record { uses = refl; few = omega arith }))
    | inr past ↦ subst (λ o. IfSome o (IsCounted c.begun)) (sym past.1) tt
  ];
  idle = λ k d within.
      let i = slice_index_or c.idle.items k d in
      let few_i : i < length c.slots.items = first.idle k d within in
      record {
        within = few_i;
        relay = elim (slice_get_cases c.slots.items i).1 [
          | inl there ↦ ap relay_of there.2
              ∙ ap (λ (s : Slot). s.relay) (subst (λ (s : Slot). s ≡ new_slot) there.3 (first.slots i there.0 there.1))
          | inr past ↦ absurd (omega (arith, few_i, past.0))
        ];
      };
  once = first.once;
  free = omega (arith, first.free);
  few = omega (arith, first.few, few);
}

-- nothing stands of any connection then
pub none_first : (plan : ProxyPlan) (c : Connections) → AreUnbegun plan c → (j s : ℕ) → status_at c.slots.items j s ≡ None
none_first plan c first j s = elim (slice_get_cases c.slots.items j).1 [
  | inl there ↦ ap (λ o. slice_get (statuses o) s)
      (there.2 ∙ ap Some (subst (λ (x : Slot). x ≡ new_slot) there.3 (first.slots j there.0 there.1)))
  | inr past ↦ ap (λ o. slice_get (statuses o) s) past.1
]
