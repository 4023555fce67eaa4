-- A desk with its tickets in their seats.
use Rattle.std.specs.Prelude.{List, Option, Some, Result, Ok, Err, slice_set}
use Rattle.nio_base.specs.declared.numbers.GChan.{GChan}
use Rattle.nio_base.specs.declared.group.OpKind.{OpKind}
use Rattle.nio_group.specs.Run as run
use Rattle.nio_group.specs.declared.refusal.StartError.{StartError}
use Rattle.nio_future.specs.Desk.{DeskState, place_of}
use Rattle.nio_future.specs.Steps.{after_start, answer_to_start, by_group}
use Rattle.nio_future.specs.Ticket.{Ticket}
use Rattle.nio_jobs.specs.declared.starter.Starter.{Ghosts}

-- a desk, and the seats of its tickets
pub record OfficeState : Type 0 where
  pub desk : DeskState
  pub seats : List (Option Ticket)

-- the ticket of an operation that was started takes its seat
abbrev pub with_ticket : Result Ticket StartError → List (Option Ticket) → GChan → OpKind → List (Option Ticket)
with_ticket (Ok ticket) seats chan kind = slice_set seats (place_of chan kind) (Some ticket)
with_ticket (Err refused) seats chan kind = seats

-- what this call of the group leaves
abbrev pub after_call : OfficeState → run.Call → OfficeState
after_call o (run.open_channel kind) = record o { desk = by_group o.desk (run.open_channel kind) }
after_call o (run.bind chan) = record o { desk = by_group o.desk (run.bind chan) }
after_call o (run.start chan kind len) = record {
  desk = after_start o.desk chan kind len;
  seats = with_ticket (answer_to_start o.desk chan kind) o.seats chan kind;
}
after_call o (run.report op outcome) = record o { desk = by_group o.desk (run.report op outcome) }
after_call o run.take = record o { desk = by_group o.desk run.take }
after_call o (run.finish op) = record o { desk = by_group o.desk (run.finish op) }
after_call o (run.close_channel chan) = record o { desk = by_group o.desk (run.close_channel chan) }
after_call o run.shutdown = record o { desk = by_group o.desk run.shutdown }
after_call o run.shutdown_now = record o { desk = by_group o.desk run.shutdown_now }

abbrev pub of_office : Ghosts OfficeState
of_office = record { group = λ o. o.desk.group; after = after_call }
