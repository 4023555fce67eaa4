-- What the pieces of work on the connections change of them.
use Rattle.std.specs.Prelude.{◌≡◌, ◌≢◌, ◌⊎◌, ℕ, ◌+◌, ◌<◌, ◌≤◌, if◌then◌else◌, Option, Some, None, List, [], ◌∷◌, ◌++◌}
use Rattle.std.specs.Prelude.{length, slice_get, option_map, All, AllPairs}
use Rattle.nio_base.specs.declared.numbers.ChanId.{ChanId}
use Rattle.nio_relay.specs.declared.plan.ProxyPlan.{ProxyPlan}
use Rattle.nio_serve.specs.Slots.{relay_of}
use Rattle.nio_serve.specs.Statuses.{has_ended, has_faulted, status_after}
use Rattle.nio_serve.specs.declared.connections.Connections.{Connections}
use Rattle.nio_serve.specs.declared.relay.Ended.{Ended}
use Rattle.nio_serve.specs.declared.relay.Ended.TheVariants.{Dropped}
use Rattle.nio_serve.specs.declared.relay.Relay.{Relay}
use Rattle.nio_serve.specs.declared.slot.Slot.{Slot}

-- a slot that no connection took
abbrev pub new_slot : Slot
new_slot = record { uses = 0; relay = None; past = [] }

-- no connection of this plan has begun, and all slots are free
pub record AreUnbegun (plan : ProxyPlan) (c : Connections) : Type 0 where
  pub conns : c.conns ≡ plan.conns
  pub target : c.target ≡ plan.target
  pub slots : All (λ slot. slot ≡ new_slot) c.slots.items
  pub few : length c.slots.items ≤ plan.at_once
  pub idle : All (λ i. i < length c.slots.items) c.idle.items
  pub once : AllPairs (λ i j. i ≢ j) c.idle.items
  pub free : c.free ≡ length c.idle.items
  pub begun : c.begun ≡ 0
  pub ended : c.ended ≡ 0
  pub faulted : c.faulted ≡ 0
  pub clients : c.clients ≡ []

-- the slot that is taken next
pub record IsNextSlot (c : Connections) (j : ℕ) : Type 0 where
  pub free : 0 < c.free
  pub rest : List ℕ
  pub first : c.idle.items ≡ j ∷ rest

-- what the plan says
pub record AreOfOnePlan (before now : Connections) : Type 0 where
  pub conns : now.conns ≡ before.conns
  pub target : now.target ≡ before.target

-- no connection began
pub record NoneBegan (before now : Connections) : Type 0 where
  pub plan : AreOfOnePlan before now
  pub begun : now.begun ≡ before.begun
  pub clients : now.clients ≡ before.clients

-- none began, and none has ended
pub record NoneMoved (before now : Connections) : Type 0 where
  pub none : NoneBegan before now
  pub ended : now.ended ≡ before.ended
  pub faulted : now.faulted ≡ before.faulted

-- ---- one slot

-- only the slot j is another one
pub record IsSameButOne (j : ℕ) (before now : List Slot) : Type 0 where
  pub others : (i : ℕ) → i ≢ j → slice_get now i ≡ slice_get before i
  pub length : length now ≡ length before

-- a slot whose connection was taken out
abbrev pub emptied : Slot → Slot
emptied slot = record slot { relay = None }

-- such a slot, once its connection is put back or has ended
abbrev pub slot_after : Relay → Option Ended → Slot → Slot
slot_after relay None slot = record slot { relay = Some relay }
slot_after relay (Some ended) slot = record slot { past = slot.past ++ ended ∷ [] }

-- an idle slot that a connection took; where nothing relays that, it was dropped
abbrev pub begun : Option Relay → Slot → Slot
begun (Some relay) slot = record slot { uses = slot.uses + 1; relay = Some relay }
begun None slot = record slot { uses = slot.uses + 1; past = slot.past ++ Dropped ∷ [] }

-- the connection of the slot j was taken out
pub record TakesOut (j : ℕ) (relay : Relay) (before now : Connections) : Type 0 where
  pub was : relay_of (slice_get before.slots.items j) ≡ Some relay
  pub slot : slice_get now.slots.items j ≡ option_map emptied (slice_get before.slots.items j)
  pub others : IsSameButOne j before.slots.items now.slots.items
  pub moved : NoneMoved before now
  pub idle : now.idle.items ≡ before.idle.items
  pub free : now.free ≡ before.free

-- a slot is noted as idle, where its connection has ended and there is memory for that
abbrev pub IsIdleAfter : ℕ → Option Ended → List ℕ → List ℕ → Type 0
IsIdleAfter j None before now = now ≡ before
IsIdleAfter j (Some ended) before now = (now ≡ before) ⊎ (now ≡ before ++ j ∷ [])

-- it was put back, or has ended
pub record PutsBack (j : ℕ) (relay : Relay) (how : Option Ended) (before now : Connections) : Type 0 where
  pub slot : slice_get now.slots.items j ≡ option_map (slot_after relay how) (slice_get before.slots.items j)
  pub others : IsSameButOne j before.slots.items now.slots.items
  pub none : NoneBegan before now
  pub ended : now.ended ≡ before.ended + (if has_ended (Some (status_after relay how)) then 1 else 0)
  pub faulted : now.faulted ≡ before.faulted + (if has_faulted (Some (status_after relay how)) then 1 else 0)
  pub idle : IsIdleAfter j how before.idle.items now.idle.items
  pub free : now.free ≡ before.free

-- the same, where its links are watched for something else
pub record GoesOn (j : ℕ) (relay : Relay) (ended : Option Ended) (before now : Connections) : Type 0 where
  pub followed : Relay
  pub there : followed.there ≡ relay.there
  pub back : followed.back ≡ relay.back
  pub stage : followed.stage ≡ relay.stage
  pub puts : PutsBack j followed ended before now

-- the connection of a client took the first free slot
pub record Occupies (client : ChanId) (relay : Option Relay) (before now : Connections) : Type 0 where
  pub j : ℕ
  pub idle : before.idle.items ≡ j ∷ now.idle.items
  pub free : now.free + 1 ≡ before.free
  pub slot : slice_get now.slots.items j ≡ option_map (begun relay) (slice_get before.slots.items j)
  pub others : IsSameButOne j before.slots.items now.slots.items
  pub plan : AreOfOnePlan before now
  pub more : now.begun ≡ before.begun + 1
  pub clients : now.clients ≡ before.clients ++ client ∷ []
  pub ended : now.ended ≡ before.ended
  pub faulted : now.faulted ≡ before.faulted

-- all idle slots are free
pub record Frees (before now : Connections) : Type 0 where
  pub moved : NoneMoved before now
  pub slots : now.slots.items ≡ before.slots.items
  pub idle : now.idle.items ≡ before.idle.items
  pub free : now.free ≡ length now.idle.items
