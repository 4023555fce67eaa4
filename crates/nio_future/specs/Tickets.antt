-- Tickets, and which are out.
use Rattle.std.specs.Prelude.{◌≡◌, ℕ, ◌≤◌, ◌==◌, if◌then◌else◌, List, [], ◌∷◌, IsTrue, count_by}
use Rattle.nio_future.specs.Desk.{DeskState, is_out}
use Rattle.nio_future.specs.Ticket.{Ticket}
use Rattle.nio_future.specs.declared.ticket.Polled.{Polled}
use Rattle.nio_future.specs.declared.ticket.Polled.TheVariants.{Ready, NotYet}

-- the ticket was made at this desk, as far as its name shows, and is out
pub record IsTicketOf (d : DeskState) (t : Ticket) : Type 0 where
  pub made_here : t.desk ≡ d.source ∷ []
  pub out : IsTrue (is_out d t.op.0)

-- how many of these tickets are of this operation
abbrev pub tickets_of : ℕ → List Ticket → ℕ
tickets_of n ts = count_by (λ t. t.op.0 == n) ts

abbrev pub AreMadeHere : ℕ → List Ticket → Type 0
AreMadeHere source [] = Unit {0}
AreMadeHere source (t ∷ ts) = (t.desk ≡ source ∷ []) × AreMadeHere source ts

-- these tickets were made at this desk, each is out, and no two are of one operation
pub record AreTicketsOf (d : DeskState) (ts : List Ticket) : Type 0 where
  pub made_here : AreMadeHere d.source ts
  pub each : (n : ℕ) → tickets_of n ts ≤ (if is_out d n then 1 else 0)

-- tickets that were of the desk are so still
pub record KeepsTickets (old new : DeskState) : Type 0 where
  pub each : (t : Ticket) → IsTicketOf old t → IsTicketOf new t
  pub lists : (ts : List Ticket) → AreTicketsOf old ts → AreTicketsOf new ts

-- the tickets of the old desk, and this new one, are of the new desk
abbrev pub TakesTicket : Ticket → DeskState → DeskState → Type 0
TakesTicket t old new = (ts : List Ticket) → AreTicketsOf old ts → AreTicketsOf new (t ∷ ts)

-- the tickets of the old desk but for this one are of the new desk
abbrev pub GivesTicket : Ticket → DeskState → DeskState → Type 0
GivesTicket t old new = (ts : List Ticket) → AreTicketsOf old (t ∷ ts) → AreTicketsOf new ts

-- after a poll of this ticket: where it was used up the others are of the new desk, else it came back and nothing changed
abbrev pub ReturnsTicket : Ticket → Polled → DeskState → DeskState → Type 0
ReturnsTicket t (Ready result) old new = GivesTicket t old new
ReturnsTicket t (NotYet back) old new = (back ≡ t) × (new ≡ old)
