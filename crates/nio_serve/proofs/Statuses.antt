-- One slot changes, and what stands of the other connections stays.
use Rattle.std.proofs.Common.{◌≡◌, ◌≢◌, ℕ, zero, suc, ◌+◌, ◌-◌, ◌*◌, ◌/◌, ◌<◌, ◌≤◌, inl, inr, Option, Some, None}
use Rattle.std.proofs.Common.{List, [], ◌∷◌, ◌++◌, length, slice_get, refl, sym, ap, subst, ◌∙◌, arith, length-append}
use Rattle.std.specs.Prelude.{map}
use Rattle.std.proofs.lemmas.Bool.{cases_eq}
use Rattle.std.proofs.lemmas.List.{append-nil, map-append}
use Rattle.std.proofs.lemmas.Option.{slice_get_past}
use Rattle.nio_base.specs.declared.numbers.ChanId.{ChanId}
use Rattle.nio_link.proofs.Channels.{chan_as, channel_as, channel_is_or_not}
use Rattle.nio_link.specs.Places.{channel}
use Rattle.nio_serve.specs.Changes.{IsSameButOne, begun, emptied, slot_after}
use Rattle.nio_serve.specs.Serving.{listener}
use Rattle.nio_serve.specs.Slots.{client_at, live, slot_of, status_at, statuses, target_at}
use Rattle.nio_serve.specs.Statuses.{status_after, status_begun}
use Rattle.nio_serve.specs.declared.relay.Ended.{Ended}
use Rattle.nio_serve.specs.declared.relay.Ended.TheVariants.{Dropped}
use Rattle.nio_serve.specs.declared.relay.Relay.{Relay}
use Rattle.nio_serve.specs.Statuses.{Status}
use Rattle.nio_serve.specs.Statuses.{Live, Over}
use Rattle.nio_serve.specs.declared.slot.Slot.{Slot}

-- ---- lists

pub get-push_same : {X : Type 0} (xs : List X) (x : X) → slice_get (xs ++ x ∷ []) (length xs) ≡ Some x
get-push_same [] x = refl
get-push_same (y ∷ ys) x = get-push_same ys x

pub get-push_other : {X : Type 0} (xs : List X) (j : ℕ) (x : X) → j ≢ length xs
    → slice_get (xs ++ x ∷ []) j ≡ slice_get xs j
get-push_other [] zero x other = absurd (other refl)
get-push_other [] (suc j) x other = refl
get-push_other (y ∷ ys) zero x other = refl
get-push_other (y ∷ ys) (suc j) x other = get-push_other ys j x (λ same. other (ap suc same))

-- ---- the links of slots

pub same_slot : (i t j s : ℕ) → client_at i t ≡ client_at j s → i ≡ j
same_slot i t j s same =
    let at : 2 * i + 1 ≡ 2 * j + 1 = ap (λ (c : ChanId). c.number.0) same in omega arith

pub same_serial : (i t j s : ℕ) → client_at i t ≡ client_at j s → t ≡ s
same_serial i t j s same = ap (λ (c : ChanId). c.serial) same

pub target_else : (i t j s : ℕ) → client_at i t ≢ client_at j s → target_at i t ≢ target_at j s
target_else i t j s other same =
    other (channel_as (client_at i t) (client_at j s)
    (chan_as (client_at i t).number (client_at j s).number
    (let at : 2 * i + 1 + 1 ≡ 2 * j + 1 + 1 = ap (λ (c : ChanId). c.number.0) same in omega arith))
    (ap (λ (c : ChanId). c.serial) same))

pub client_target : (i t j s : ℕ) → client_at i t ≢ target_at j s
client_target i t j s same =
    let at : 2 * i + 1 ≡ 2 * j + 1 + 1 = ap (λ (c : ChanId). c.number.0) same in omega arith

-- the listener's number is none of a slot's
pub first_client : (s j t : ℕ) → channel listener.number s ≢ client_at j t
first_client s j t same = let at : 0 ≡ 2 * j + 1 = ap (λ (c : ChanId). c.number.0) same in omega arith

pub first_target : (s j t : ℕ) → channel listener.number s ≢ target_at j t
first_target s j t same = let at : 0 ≡ 2 * j + 1 + 1 = ap (λ (c : ChanId). c.number.0) same in omega arith

pub client_listener : (j s : ℕ) → client_at j s ≢ listener
client_listener j s same = first_client 0 j s (sym same)

pub target_listener : (j s : ℕ) → target_at j s ≢ listener
target_listener j s same = first_target 0 j s (sym same)

pub slot_at : (j s : ℕ) → slot_of (client_at j s) ≡ j
slot_at j s = let half : (2 * j + 1 - 1) / 2 ≡ j = omega arith in half

-- ---- a change of one status

-- what stands of the other connections is the same
pub record Changes (before now : List Slot) (j s : ℕ) (status : Status) : Type 0 where
  pub here : status_at now j s ≡ Some status
  pub else_ : (i t : ℕ) → client_at i t ≢ client_at j s → status_at now i t ≡ status_at before i t

-- what holds where a status changed, and everywhere else, holds of every connection
pub by_change : (P : ℕ → ℕ → Option Status → Type 0) {before now : List Slot} {j s : ℕ} {status : Status}
    → Changes before now j s status → P j s (Some status)
    → ((i t : ℕ) → client_at i t ≢ client_at j s → P i t (status_at before i t))
    → (i t : ℕ) → P i t (status_at now i t)
by_change P {now = now} {j = j} {s = s} {status = status} changes here others i t = elim
    (channel_is_or_not (client_at i t) (client_at j s)) [
      | inl at ↦
          let here_now : P j s (status_at now j s) = subst (P j s) (sym changes.here) here in
          subst (λ k. P k t (status_at now k t)) (sym (same_slot i t j s at))
          (subst (λ u. P j u (status_at now j u)) (sym (same_serial i t j s at)) here_now)
      | inr other ↦ subst (P i t) (sym (changes.else_ i t other)) (others i t other)
    ]

-- the statuses of the slot j, once they are these
statuses_at : (now : List Slot) (j : ℕ) (slot : Slot) → slice_get now j ≡ Some slot → (t : ℕ)
    → status_at now j t ≡ slice_get (statuses (Some slot)) t
statuses_at now j slot is t = ap (λ o. slice_get (statuses o) t) is

-- where the statuses of the slot j are these, and then differ at their end
changes_end : (before now : List Slot) (j : ℕ) (was is : Slot) (past : List Status) (status : Status)
    → slice_get before j ≡ Some was → slice_get now j ≡ Some is → IsSameButOne j before now
    → ((t : ℕ) → t ≢ length past → slice_get (statuses (Some was)) t ≡ slice_get past t)
    → statuses (Some is) ≡ past ++ status ∷ [] → Changes before now j (length past) status
changes_end before now j was is past status at_first at_last same beginning ending = record {
  here = statuses_at now j is at_last (length past)
      ∙ (ap (λ xs. slice_get xs (length past)) ending ∙ get-push_same past status);
  else_ = λ i t other. elim (cases_eq i j) [
    | inl at ↦
        let not_end : t ≢ length past = λ end. other (ap (λ k. client_at k t) at ∙ ap (client_at j) end) in
        subst (λ k. status_at now k t ≡ status_at before k t) (sym at)
        (statuses_at now j is at_last t
        ∙ (ap (λ xs. slice_get xs t) ending
        ∙ (get-push_other past t status not_end
        ∙ sym (statuses_at before j was at_first t ∙ beginning t not_end))))
    | inr apart ↦ ap (λ o. slice_get (statuses o) t) (same.others i apart)
  ];
}

-- what stands of the connections that a slot had, but for the one that it relays
abbrev pub past_of : Slot → List Status
past_of slot = map Over slot.past

-- how many there are: the serial of the links of the one that it relays, or of the next one
abbrev pub serial_of : Slot → ℕ
serial_of slot = length (past_of slot)

pub statuses_live : (slot : Slot) (relay : Relay) → slot.relay ≡ Some relay
    → statuses (Some slot) ≡ past_of slot ++ Live relay ∷ []
statuses_live slot relay is = ap (λ o. past_of slot ++ live o) is

pub statuses_idle : (slot : Slot) → slot.relay ≡ None → statuses (Some slot) ≡ past_of slot
statuses_idle slot is = ap (λ o. past_of slot ++ live o) is ∙ append-nil (past_of slot)

-- the connection that a slot relays
pub status_live : (slots : List Slot) (j : ℕ) (slot : Slot) (relay : Relay) → slice_get slots j ≡ Some slot
    → slot.relay ≡ Some relay → status_at slots j (serial_of slot) ≡ Some (Live relay)
status_live slots j slot relay at is =
    statuses_at slots j slot at (serial_of slot)
    ∙ (ap (λ xs. slice_get xs (serial_of slot)) (statuses_live slot relay is)
    ∙ get-push_same (past_of slot) (Live relay))

pub statuses_after : (slot : Slot) (relay : Relay) (ended : Option Ended)
    → statuses (Some (slot_after relay ended (emptied slot))) ≡ past_of slot ++ status_after relay ended ∷ []
statuses_after slot relay None = refl
statuses_after slot relay (Some ended) =
    append-nil (map Over (slot.past ++ ended ∷ [])) ∙ map-append Over slot.past (ended ∷ [])

-- the connection of a slot was taken out, and put back or has ended
pub changes_put : (before now : List Slot) (j : ℕ) (slot : Slot) (was relay : Relay) (ended : Option Ended)
    → slice_get before j ≡ Some slot → slot.relay ≡ Some was
    → slice_get now j ≡ Some (slot_after relay ended (emptied slot)) → IsSameButOne j before now
    → Changes before now j (serial_of slot) (status_after relay ended)
changes_put before now j slot was relay ended at is at_last same =
    changes_end before now j slot (slot_after relay ended (emptied slot)) (past_of slot) (status_after relay ended) at
    at_last same
    (λ t other. ap (λ xs. slice_get xs t) (statuses_live slot was is) ∙ get-push_other (past_of slot) t (Live was) other)
    (statuses_after slot relay ended)

pub statuses_begun : (slot : Slot) (relay : Option Relay) → slot.relay ≡ None
    → statuses (Some (begun relay slot)) ≡ past_of slot ++ status_begun relay ∷ []
statuses_begun slot (Some relay) idle = refl
statuses_begun slot None idle =
    ap (λ o. map Over (slot.past ++ Dropped ∷ []) ++ live o) idle
    ∙ (append-nil (map Over (slot.past ++ Dropped ∷ [])) ∙ map-append Over slot.past (Dropped ∷ []))

-- a connection took a slot that was idle
pub changes_begun : (before now : List Slot) (j : ℕ) (slot : Slot) (relay : Option Relay) → slice_get before j ≡ Some slot
    → slot.relay ≡ None → slice_get now j ≡ Some (begun relay slot) → IsSameButOne j before now
    → Changes before now j (serial_of slot) (status_begun relay)
changes_begun before now j slot relay at idle at_last same =
    changes_end before now j slot (begun relay slot) (past_of slot) (status_begun relay) at at_last same
    (λ t other. ap (λ xs. slice_get xs t) (statuses_idle slot idle)) (statuses_begun slot relay idle)

-- no connection took an idle slot after its past ones
pub status_idle : (slots : List Slot) (j : ℕ) (slot : Slot) → slice_get slots j ≡ Some slot → slot.relay ≡ None
    → (t : ℕ) → serial_of slot ≤ t → status_at slots j t ≡ None
status_idle slots j slot at idle t late =
    statuses_at slots j slot at t
    ∙ (ap (λ xs. slice_get xs t) (statuses_idle slot idle) ∙ slice_get_past (past_of slot) t late)

-- nor one that relays a connection, after that one
pub status_past_live : (slots : List Slot) (j : ℕ) (slot : Slot) (relay : Relay) → slice_get slots j ≡ Some slot
    → slot.relay ≡ Some relay → (t : ℕ) → serial_of slot < t → status_at slots j t ≡ None
status_past_live slots j slot relay at is t late =
    statuses_at slots j slot at t
    ∙ (ap (λ xs. slice_get xs t) (statuses_live slot relay is)
    ∙ slice_get_past (past_of slot ++ Live relay ∷ []) t
    (omega (arith, late, length-append (past_of slot) (Live relay ∷ []))))

-- the past ones aren't relayed
over_only : (xs : List Ended) (t : ℕ) (relay : Relay) → slice_get (map Over xs) t ≢ Some (Live relay)
over_only [] t relay is = absurd (cc)
over_only (x ∷ xs) zero relay is = absurd (cc)
over_only (x ∷ xs) (suc t) relay is = over_only xs t relay is

pub status_over : (slots : List Slot) (j : ℕ) (slot : Slot) → slice_get slots j ≡ Some slot → (t : ℕ)
    → t ≢ serial_of slot → (relay : Relay) → status_at slots j t ≢ Some (Live relay)
status_over slots j slot at t other relay is =
    by_relay slot.relay refl
  where
    in_past : slice_get (past_of slot) t ≡ slice_get (statuses (Some slot)) t → ⊥
    in_past same = over_only slot.past t relay (same ∙ (sym (statuses_at slots j slot at t) ∙ is))

    by_relay : (o : Option Relay) → slot.relay ≡ o → ⊥
    by_relay None idle = in_past (sym (ap (λ xs. slice_get xs t) (statuses_idle slot idle)))
    by_relay (Some r) live_is = in_past
        (sym (ap (λ xs. slice_get xs t) (statuses_live slot r live_is) ∙ get-push_other (past_of slot) t (Live r) other))
