-- What an exchange with the desk's clerk does.
use Rattle.std.specs.Prelude.{ℕ, ◌*◌, ◌^◌, List, [], ◌∷◌, None, replicate, reverse}
use Rattle.nio_group.specs.declared.limits.GroupLimits.{GroupLimits}
use Rattle.nio_future.specs.Desk.{empty_desk}
use Rattle.nio_future.specs.Round.{Polling, after_each}
use Rattle.nio_future.specs.declared.round.TicketResult.{TicketResult}
use Rattle.nio_jobs.specs.Handling.{after_listening, after_result, after_round, held_after_result}
use Rattle.nio_jobs.specs.declared.exchange.Done.{Done}
use Rattle.nio_tickets.specs.Office.{OfficeState, of_office}
use Rattle.nio_tickets.specs.Seats.{Taken, seating_all, taking_all}

-- an office, and how many bytes the directions hold
pub record ClerkState : Type 0 where
  pub office : OfficeState
  pub held : List ℕ

-- ---- what is started

-- what is due after this result is started
abbrev pub after_ticket_result : ClerkState → TicketResult → ClerkState
after_ticket_result c r = record {
  office = after_result of_office c.held c.office r.chan r.kind r.finished;
  held = held_after_result of_office c.held c.office r.chan r.kind r.finished;
}

-- so after each of these
abbrev pub after_results : ClerkState → List TicketResult → ClerkState
after_results c [] = c
after_results c (r ∷ rest) = after_results (after_ticket_result c r) rest

-- ---- what is polled

-- the tickets of what these reports have ended are taken from their seats
abbrev pub taken_for : OfficeState → List Done → Taken
taken_for o reports = taking_all o.desk (record { seats = o.seats; tickets = [] }) reports

-- they are polled in one round, the last first
abbrev pub polled_for : OfficeState → List Done → Polling
polled_for o reports =
    after_each (record { desk = o.desk; still = []; ready = [] }) (reverse (taken_for o reports).tickets)

-- each ticket that came back takes its seat again
abbrev pub seated_again : OfficeState → List Done → OfficeState
seated_again o reports =
    let polled = polled_for o reports in
    record {
      desk = polled.desk;
      seats = seating_all polled.desk (taken_for o reports).seats (reverse polled.still);
    }

-- and what is due after each result is started; the results are gone through in the tickets' order again
abbrev pub after_polling : ClerkState → List Done → ClerkState
after_polling c reports =
    after_results (record c { office = seated_again c.office reports }) (reverse (polled_for c.office reports).ready)

-- all is reported to the desk, and then that is polled
abbrev pub after_settling : ClerkState → List Done → ClerkState
after_settling c reports = after_polling (record c { office = after_round of_office c.office reports }) reports

-- ---- the opening

abbrev pub limits_of : ℕ → ℕ → GroupLimits
limits_of channels flight = record { channels = channels; flight = flight; ops = 2 ^ 62 }

-- a new desk with these sources, none of whose tickets is out
abbrev pub empty_office : ℕ → ℕ → ℕ → List ℕ → OfficeState
empty_office channels flight source places = record {
  desk = empty_desk (limits_of channels flight) source places;
  seats = replicate (4 * channels) None;
}

-- at which the listener accepts
abbrev pub opened : ℕ → ℕ → ℕ → List ℕ → ClerkState
opened channels flight source places = record {
  office = after_listening of_office (empty_office channels flight source places);
  held = replicate channels 0;
}
