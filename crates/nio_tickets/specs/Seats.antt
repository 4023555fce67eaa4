-- Which tickets are out, each in its seat at the place of its operation's channel and kind, and which are polled.
use Rattle.std.specs.Prelude.{◌≡◌, ◌+◌, List, [], ◌∷◌, ◌++◌, Option, Some, None, length, slice_index_or, slice_set}
use Rattle.nio_base.specs.declared.numbers.GChan.{GChan}
use Rattle.nio_base.specs.declared.group.OpKind.{OpKind}
use Rattle.nio_base.specs.declared.group.OpKind.TheVariants.{Accept, Connect, Read, Write}
use Rattle.nio_group.specs.declared.operation.Operation.{Operation}
use Rattle.nio_future.specs.Desk.{DeskState, held_at, place_of}
use Rattle.nio_future.specs.Ticket.{Ticket}
use Rattle.nio_future.specs.Tickets.{AreTicketsOf}
use Rattle.nio_link.specs.Jobs.{of_net}
use Rattle.nio_jobs.specs.declared.exchange.Done.{Done}
use Rattle.nio_jobs.specs.declared.exchange.Done.TheVariants as done

-- the tickets in these seats
abbrev pub seated : List (Option Ticket) → List Ticket
seated [] = []
seated (None ∷ seats) = seated seats
seated (Some ticket ∷ seats) = ticket ∷ seated seats

-- the tickets in these seats are the desk's
abbrev pub AreSeated : DeskState → List (Option Ticket) → Type 0
AreSeated d seats = AreTicketsOf d (seated seats)

-- ---- tickets that are taken from their seats

-- seats, and the tickets that were taken from them to be polled
pub record Taken : Type 0 where
  pub seats : List (Option Ticket)
  pub tickets : List Ticket

abbrev pub with_some : List Ticket → Option Ticket → List Ticket
with_some ts None = ts
with_some ts (Some t) = ts ++ t ∷ []

-- the ticket of this kind for this channel is taken, if it is out
abbrev pub taking : Taken → GChan → OpKind → Taken
taking g chan kind = record {
  seats = slice_set g.seats (place_of chan kind) None;
  tickets = with_some g.tickets (slice_index_or g.seats (place_of chan kind) None);
}

-- so the tickets for this channel
abbrev pub taking_channel : Taken → GChan → Taken
taking_channel g chan = taking (taking (taking (taking g chan Accept) chan Connect) chan Read) chan Write

-- the ticket of this operation is taken, if it is out
abbrev pub taking_held : Taken → Option Operation → Taken
taking_held g None = g
taking_held g (Some operation) = taking g operation.chan operation.kind

-- the tickets of what this report has ended are taken
abbrev pub taking_reported : DeskState → Taken → Done → Taken
taking_reported d g (done.Outcome op outcome) = taking_held g (held_at d op.0)
taking_reported d g (done.Again chan kind) = g
taking_reported d g (done.Closed chan) = taking_channel g (of_net chan)

-- so of each report, in their order
abbrev pub taking_all : DeskState → Taken → List Done → Taken
taking_all d g [] = g
taking_all d g (one ∷ rest) = taking_all d (taking_reported d g one) rest

-- Tickets were moved out of their seats, to the others: all together they are any desk's that they were, and as many.
pub record TakesOut (before now : Taken) : Type 0 where
  pub tickets : (d : DeskState) → AreTicketsOf d (before.tickets ++ seated before.seats)
      → AreTicketsOf d (now.tickets ++ seated now.seats)
  pub count : length now.tickets + length (seated now.seats) ≡ length before.tickets + length (seated before.seats)
  pub seats : length now.seats ≡ length before.seats

-- ---- tickets that come back

-- a ticket takes the seat of its operation's kind and channel
abbrev pub seating_held : List (Option Ticket) → Option Operation → Ticket → List (Option Ticket)
seating_held seats None t = seats
seating_held seats (Some operation) t = slice_set seats (place_of operation.chan operation.kind) (Some t)

-- so each of these
abbrev pub seating_all : DeskState → List (Option Ticket) → List Ticket → List (Option Ticket)
seating_all d seats [] = seats
seating_all d seats (t ∷ ts) = seating_all d (seating_held seats (held_at d t.op.0) t) ts
