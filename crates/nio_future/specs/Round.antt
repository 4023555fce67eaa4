-- One round of polls.
use Rattle.std.specs.Prelude.{◌≡◌, ℕ, ◌+◌, ◌≤◌, ◌==◌, if◌then◌else◌, List, [], ◌∷◌, ◌++◌, length, reverse, count_by}
use Rattle.std.specs.Prelude.{Option, Some, None, IsTrue, All}
use Rattle.std.specs.Vec.{vec_capacity}
use Rattle.nio_base.specs.declared.numbers.OpNo.{OpNo}
use Rattle.nio_group.specs.Flight.{op_at}
use Rattle.nio_group.specs.Stages.{is_pending}
use Rattle.nio_group.specs.declared.operation.Operation.{Operation}
use Rattle.nio_group.specs.declared.operation.Stage.TheVariants.{Queued}
use Rattle.nio_future.specs.Desk.{DeskState, held_at}
use Rattle.nio_future.specs.Steps.{after_poll, answer_to_poll}
use Rattle.nio_future.specs.Ticket.{Ticket}
use Rattle.nio_future.specs.Tickets.{AreTicketsOf, tickets_of}
use Rattle.nio_future.specs.declared.ticket.Polled.{Polled}
use Rattle.nio_future.specs.declared.ticket.Polled.TheVariants.{Ready, NotYet}
use Rattle.nio_future.specs.declared.round.Hand.{Hand}
use Rattle.nio_future.specs.declared.round.TicketResult.{TicketResult}

-- how many of these results are of this operation
abbrev pub results_of : ℕ → List TicketResult → ℕ
results_of n rs = count_by (λ (r : TicketResult). r.op.0 == n) rs

-- the desk holds this result for the ticket of an operation of this kind on this channel
abbrev pub IsHeldAs : Option Operation → TicketResult → Type 0
IsHeldAs None r = ⊥
IsHeldAs (Some held) r = (held.chan ≡ r.chan) × (held.kind ≡ r.kind) × (held.stage ≡ Queued r.finished)

-- the tickets are the desk's, nothing has come of them, and there is room for whatever does
pub record IsHand (h : Hand) : Type 0 where
  pub tickets : AreTicketsOf h.desk h.tickets.items
  pub none_still : h.still.items ≡ []
  pub none_ready : h.ready.items ≡ []
  pub still_room : length h.tickets.items ≤ vec_capacity h.still
  pub ready_room : length h.tickets.items ≤ vec_capacity h.ready

-- ---- ticket by ticket

-- a desk, the tickets that came back, and the results that came, so far
pub record Polling : Type 0 where
  pub desk : DeskState
  pub still : List Ticket
  pub ready : List TicketResult

abbrev pub polling_of : Hand → Polling
polling_of h = record { desk = h.desk; still = h.still.items; ready = h.ready.items }

abbrev pub with_still : Polled → List Ticket → List Ticket
with_still (Ready result) ts = ts
with_still (NotYet t) ts = ts ++ t ∷ []

-- `held` is what the desk held for the ticket before the poll; where its ticket is out that is some operation
abbrev pub with_ready : OpNo → Option Operation → Polled → List TicketResult → List TicketResult
with_ready op held (NotYet t) rs = rs
with_ready op None (Ready result) rs = rs
with_ready op (Some held) (Ready result) rs =
    rs ++ record { op = op; chan = held.chan; kind = held.kind; finished = result } ∷ []

-- one ticket is polled
abbrev pub after_one : Polling → Ticket → Polling
after_one p t = record {
  desk = after_poll p.desk t.op.0;
  still = with_still (answer_to_poll p.desk t) p.still;
  ready = with_ready t.op (held_at p.desk t.op.0) (answer_to_poll p.desk t) p.ready;
}

-- these are polled one after the other
abbrev pub after_each : Polling → List Ticket → Polling
after_each p [] = p
after_each p (t ∷ ts) = after_each (after_one p t) ts

-- ---- the round

-- a round polls each ticket once
pub record Polls (before after : Hand) : Type 0 where
  pub same_group : after.desk.group ≡ before.desk.group
  pub same_source : after.desk.source ≡ before.desk.source
  pub same_places : after.desk.places ≡ before.desk.places
  pub all_polled : after.tickets.items ≡ []
  -- the last one first
  pub in_order : polling_of after ≡ after_each (polling_of before) (reverse before.tickets.items)
  -- the tickets that came back are the desk's, and their operations are pending
  pub tickets : AreTicketsOf after.desk after.still.items
  pub pending : All (λ t. IsTrue (is_pending (op_at before.desk.group.flight t.op.0))) after.still.items
  -- each result is the one that waited for the operation's ticket
  pub results : All (λ r. IsHeldAs (held_at before.desk r.op.0) r) after.ready.items
  -- of each ticket either it came back or a result came
  pub each : (n : ℕ) → tickets_of n after.still.items + results_of n after.ready.items
      ≡ tickets_of n before.tickets.items
  pub count : length after.still.items + length after.ready.items ≡ length before.tickets.items
  -- the desk holds nothing more for the tickets whose results came, and for the others what it held
  pub held : (n : ℕ) → held_at after.desk n
      ≡ (if results_of n after.ready.items == 0 then held_at before.desk n else None)
  -- the hand's lists took no memory
  pub tickets_room : vec_capacity after.tickets ≡ vec_capacity before.tickets
  pub still_room : vec_capacity after.still ≡ vec_capacity before.still
  pub ready_room : vec_capacity after.ready ≡ vec_capacity before.ready
