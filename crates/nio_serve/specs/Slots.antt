-- The slots of a proxy, and all connections so far.
use Rattle.std.specs.Prelude.{◌≡◌, ◌≢◌, ◌⊎◌, ℕ, ◌+◌, ◌-◌, ◌*◌, ◌/◌, ◌^◌, ◌<◌, ◌≤◌, IsTrue, IsFalse}
use Rattle.std.specs.Prelude.{Option, Some, None, IsSome, IfSome, List, [], ◌∷◌, ◌++◌, length, map, slice_get, count_by, All}
use Rattle.std.specs.Prelude.{AllPairs}
use Rattle.std.specs.List.{Contains}
use Rattle.nio_base.specs.declared.numbers.Addr.{Addr}
use Rattle.nio_base.specs.Ops.{is_within}
use Rattle.nio_base.specs.declared.numbers.ChanId.{ChanId}
use Rattle.nio_base.specs.declared.numbers.ChanNo.{ChanNo}
use Rattle.nio_link.specs.Links.{Link}
use Rattle.nio_link.specs.Nets.{Members}
use Rattle.nio_link.specs.Places.{channel, IsVacant}
use Rattle.nio_link.specs.declared.place.Place.{Place}
use Rattle.nio_link.specs.declared.place.Standing.{Standing}
use Rattle.nio_link.specs.declared.place.Standing.TheVariants.{Listening}
use Rattle.nio_board.specs.declared.board.Port.{Port}
use Rattle.nio_serve.specs.Serving.{HasFaulted, IsUnfaulted, IsUntouched, listener, target_of}
use Rattle.nio_serve.specs.Statuses.{IsStatusOf, Live, Over, Status, has_ended, has_faulted}
use Rattle.nio_serve.specs.declared.connections.Connections.{Connections}
use Rattle.nio_serve.specs.declared.connections.SlotTold.{SlotTold}
use Rattle.nio_serve.specs.declared.relay.Relay.{Relay}
use Rattle.nio_serve.specs.declared.slot.Slot.{Slot}

-- ---- the links of a slot

-- The slot j has two numbers of channels. The links of the s-th connection that takes it, counted from 0, have the serial
-- s.
abbrev pub client_at : ℕ → ℕ → ChanId
client_at j s = channel (record { 0 = 2 * j + 1 }) s

abbrev pub target_at : ℕ → ℕ → ChanId
target_at j s = target_of (client_at j s)

-- the slot of a client
abbrev pub slot_of : ChanId → ℕ
slot_of client = (client.number.0 - 1) / 2

-- ---- what stands of each connection

abbrev pub live : Option Relay → List Status
live None = []
live (Some relay) = Live relay ∷ []

-- the connections that took a slot, in their order: so each is found by the serial of its links
abbrev pub statuses : Option Slot → List Status
statuses None = []
statuses (Some slot) = map Over slot.past ++ live slot.relay

-- what stands of the s-th connection that took the slot j, if there was one
abbrev pub status_at : List Slot → ℕ → ℕ → Option Status
status_at slots j s = slice_get (statuses (slice_get slots j)) s

-- the same of a client
abbrev pub status_of : List Slot → ChanId → Option Status
status_of slots client = status_at slots (slot_of client) client.serial

-- two channels that were asked for nothing, and have carried nothing
pub record AreUntouched (of_client of_target : Link) (at_client at_target : Place) : Type 0 where
  pub client : IsUntouched of_client at_client
  pub target : IsUntouched of_target at_target

-- the two links of a connection stand as its status says; if there is none, they were asked for nothing
abbrev pub StandsAs : Addr → Option Status → Link → Link → Place → Place → Type 0
StandsAs to None client target at_client at_target = AreUntouched client target at_client at_target
StandsAs to (Some status) client target at_client at_target = IsStatusOf to status client target at_client at_target

-- ---- the slots

-- so many connections took the slot, no more than began
pub record IsCounted (begun : ℕ) (slot : Slot) : Type 0 where
  pub uses : slot.uses ≡ length (statuses (Some slot))
  pub few : slot.uses ≤ begun

abbrev pub relay_of : Option Slot → Option Relay
relay_of None = None
relay_of (Some slot) = slot.relay

-- there is such a slot, and it relays no connection
pub record IsIdle (slots : List Slot) (j : ℕ) : Type 0 where
  pub within : j < length slots
  pub relay : relay_of (slice_get slots j) ≡ None

-- The slots are counted. Those that relay no connection are noted, each once; the first of them are free, and the
-- connections of the others have ended since the last selection.
pub record AreSlots (c : Connections) : Type 0 where
  pub counted : (j : ℕ) → IfSome (slice_get c.slots.items j) (IsCounted c.begun)
  pub idle : All (IsIdle c.slots.items) c.idle.items
  pub once : AllPairs (λ i j. i ≢ j) c.idle.items
  pub free : c.free ≤ length c.idle.items
  pub few : length c.slots.items ≤ 16000

-- ---- all connections

-- the links of each connection stand as its status says, and those of no connection were asked for nothing
abbrev pub AreConnections : Addr → List Slot → (ChanId → Link) → (ChanId → Place) → Type 0
AreConnections to slots link place =
    (j s : ℕ) → StandsAs to (status_at slots j s) (link (client_at j s)) (link (target_at j s)) (place (client_at j s))
    (place (target_at j s))

-- the client of a connection
pub record IsClient (slots : List Slot) (c : ChanId) : Type 0 where
  pub its : c ≡ client_at (slot_of c) c.serial
  pub taken : IsSome (status_of slots c)

-- The connections are served. Each has a status: it is relayed by its slot, or it has ended, cleanly, by a fault, or for
-- want of memory. Its client is among the accepted ones, once. It is counted how many began, how many of them have ended,
-- and how many of these by a fault.
pub record AreServed (link : ChanId → Link) (place : ChanId → Place) (c : Connections) : Type 0 where
  pub slots : AreSlots c
  pub connections : AreConnections c.target c.slots.items link place
  pub clients : All (IsClient c.slots.items) c.clients
  pub known : (j s : ℕ) → IsSome (status_at c.slots.items j s) → Contains c.clients (client_at j s)
  pub apart : AllPairs (λ a b. a ≢ b) c.clients
  pub begun : c.begun ≡ length c.clients
  pub within : c.begun ≤ c.conns
  pub bound : c.conns < 2 ^ 32
  pub ended : c.ended ≡ count_by (λ x. has_ended (status_of c.slots.items x)) c.clients
  pub faulted : c.faulted ≡ count_by (λ x. has_faulted (status_of c.slots.items x)) c.clients
  pub later : (s : ℕ) → 1 ≤ s → IsUntouched (link (channel listener.number s)) (place (channel listener.number s))

-- Work on the connections, and on the net from x to y: at its end they are served, and a connection has ended by a
-- fault only where a count of one of its links rose; the counts of the others are as they were. The listener has carried
-- nothing more. Where the accepted links were the clients, in their order, after some others, they still are.
pub record Serving {N : Type 0} (n : Members N) (x y : N) (before now : Connections) : Type 0 where
  pub served : AreServed (n.link y) (n.place y) now
  pub conns : now.conns ≡ before.conns
  pub target : now.target ≡ before.target
  pub faulty : (j s : ℕ) → IsTrue (has_faulted (status_at now.slots.items j s))
      → IsTrue (has_faulted (status_at before.slots.items j s))
      ⊎ HasFaulted (n.faults x) (n.faults y) (client_at j s)
  pub lasting : (j s : ℕ) → IsTrue (has_faulted (status_at before.slots.items j s))
      → IsTrue (has_faulted (status_at now.slots.items j s))
  pub unfaulted : (j s : ℕ) → IsFalse (has_faulted (status_at now.slots.items j s))
      → IsUnfaulted (n.faults x) (n.faults y) (client_at j s)
  pub order : (start : List ChanId) → n.accepted x ≡ start ++ before.clients → n.accepted y ≡ start ++ now.clients
  pub no_bytes : n.link y listener ≡ n.link x listener
  pub later : (c : ChanId) → n.faults x c ≤ n.faults y c
  pub polls : n.poll_faults x ≤ n.poll_faults y

-- nothing stands under the two channels of a connection
pub record AreClosed (j s : ℕ) (place : ChanId → Place) : Type 0 where
  pub client : IsVacant (place (client_at j s)).standing
  pub target : IsVacant (place (target_at j s)).standing

-- ---- readiness

-- the two numbers of a slot are ready for what it was told
pub record IsSlotReady (ready : ChanNo → ℕ) (told : SlotTold) : Type 0 where
  pub client : IsTrue (is_within told.ops.client (ready (client_at told.slot 0).number))
  pub target : IsTrue (is_within told.ops.target (ready (target_at told.slot 0).number))

-- the other numbers are as ready as before
abbrev pub IsElseReady : ℕ → (ChanNo → ℕ) → (ChanNo → ℕ) → Type 0
IsElseReady j before now =
    (c : ChanNo) → c ≢ (client_at j 0).number → c ≢ (target_at j 0).number → now c ≡ before c

-- ---- the listener

-- what stands under the listener's channel, where the table watches it or not
abbrev pub ListensAt : Option Port → Standing → Type 0
ListensAt (Some port) standing = standing ≡ Listening
ListensAt None standing = IsVacant standing
