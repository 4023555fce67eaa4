-- One slot is written.
use Rattle.std.proofs.Common.{◌≡◌, ◌≢◌, ℕ, zero, suc, ◌+◌, ◌<◌, Option, Some, None, IsSome, MatchOption, List, [], ◌∷◌}
use Rattle.std.proofs.Common.{length, slice_get, refl, sym, ap, subst, ◌∙◌, arith}
use Rattle.std.specs.Prelude.{option_map}
use Rattle.std.proofs.Math.ListN.{set}
use Rattle.std.proofs.lemmas.List.{length-set}
use Rattle.std.proofs.lemmas.Option.{slice_get_within}
use Rattle.nio_serve.specs.Changes.{IsIdleAfter, IsSameButOne, NoneBegan, NoneMoved, PutsBack, TakesOut, emptied}
use Rattle.nio_serve.specs.Changes.{slot_after}
use Rattle.nio_serve.specs.Slots.{relay_of}
use Rattle.nio_serve.specs.Statuses.{has_ended, has_faulted, status_after}
use Rattle.nio_serve.specs.declared.connections.Connections.{Connections}
use Rattle.nio_serve.specs.declared.relay.Ended.{Ended}
use Rattle.nio_serve.specs.declared.relay.Relay.{Relay}
use Rattle.nio_serve.specs.declared.slot.Slot.{Slot}
use Rattle.nio_serve.proofs.Counts.{one_if}

get-set_same : {X : Type 0} (xs : List X) (j : ℕ) (x : X) → j < length xs → slice_get (set xs j x) j ≡ Some x
get-set_same [] j x within = absurd (omega arith)
get-set_same (y ∷ ys) zero x within = refl
get-set_same (y ∷ ys) (suc j) x within = get-set_same ys j x (omega arith)

get-set_other : {X : Type 0} (xs : List X) (j i : ℕ) (x : X) → i ≢ j → slice_get (set xs j x) i ≡ slice_get xs i
get-set_other [] j i x other = refl
get-set_other (y ∷ ys) zero zero x other = absurd (other refl)
get-set_other (y ∷ ys) zero (suc i) x other = refl
get-set_other (y ∷ ys) (suc j) zero x other = refl
get-set_other (y ∷ ys) (suc j) (suc i) x other = get-set_other ys j i x (λ same. other (ap suc same))

-- only the slot j is another one
pub written_else : (slots : List Slot) (j : ℕ) (slot : Slot) → IsSameButOne j slots (set slots j slot)
written_else slots j slot =
    record { others = λ i other. get-set_other slots j i slot other; length = length-set slots j slot }

-- the slot j is f of what it was
pub written_slot : (f : Slot → Slot) (slots : List Slot) (j : ℕ) (was slot : Slot) → slice_get slots j ≡ Some was
    → slot ≡ f was → slice_get (set slots j slot) j ≡ option_map f (slice_get slots j)
written_slot f slots j was slot at is =
    get-set_same slots j slot (slice_get_within slots j was at)
    ∙ (ap Some is ∙ sym (ap (λ o. option_map f o) at))

-- a connection was put back into its slot, or is written down there as ended
pub puts_written : (j : ℕ) (relay : Relay) (how end : Option Ended) (c0 c1 : Connections) (was slot : Slot) → how ≡ end
    → slice_get c0.slots.items j ≡ Some was → slot ≡ slot_after relay end was
    → c1.slots.items ≡ set c0.slots.items j slot → NoneBegan c0 c1
    → c1.ended ≡ c0.ended + one_if (has_ended (Some (status_after relay end)))
    → c1.faulted ≡ c0.faulted + one_if (has_faulted (Some (status_after relay end)))
    → IsIdleAfter j end c0.idle.items c1.idle.items → c1.free ≡ c0.free → PutsBack j relay how c0 c1
puts_written j relay how end c0 c1 was slot is at slot_is items none ended faulted idle free =
    subst (λ (h : Option Ended). PutsBack j relay h c0 c1) (sym is) (record {
      slot = ap (λ (xs : List Slot). slice_get xs j) items
          ∙ written_slot (slot_after relay end) c0.slots.items j was slot at slot_is;
      others = subst (IsSameButOne j c0.slots.items) (sym items) (written_else c0.slots.items j slot);
      none = none;
      ended = ended;
      faulted = faulted;
      idle = idle;
      free = free;
    })

-- the connection of a slot was taken out, where it has one
pub takes_written : (j : ℕ) (taken : Option Relay) (c0 c1 : Connections) (was : Slot)
    → slice_get c0.slots.items j ≡ Some was → taken ≡ was.relay → IsSome taken
    → c1.slots.items ≡ set c0.slots.items j (emptied was) → NoneMoved c0 c1 → c1.idle.items ≡ c0.idle.items
    → c1.free ≡ c0.free → MatchOption taken (c1 ≡ c0) (λ relay. TakesOut j relay c0 c1)
takes_written j None c0 c1 was at is some items moved idle free = absurd (cc)
takes_written j (Some relay) c0 c1 was at is some items moved idle free = record {
  was = ap relay_of at ∙ sym is;
  slot = ap (λ (xs : List Slot). slice_get xs j) items
      ∙ written_slot emptied c0.slots.items j was (emptied was) at refl;
  others = subst (IsSameButOne j c0.slots.items) (sym items) (written_else c0.slots.items j (emptied was));
  moved = moved;
  idle = idle;
  free = free;
}
