-- What each call of a desk answers, and the state that it leaves.
use Rattle.std.specs.Prelude.{ℕ, if◌then◌else◌, ◌==◌, List, [], ◌∷◌, ◌++◌, Option, Some, None, Result}
use Rattle.std.specs.Option.{option_map, option_or}
use Rattle.nio_base.specs.declared.numbers.GChan.{GChan}
use Rattle.nio_base.specs.declared.group.OpKind.{OpKind}
use Rattle.nio_base.specs.declared.group.Finished.{Finished}
use Rattle.nio_group.specs.declared.operation.Operation.{Operation}
use Rattle.nio_group.specs.declared.operation.Stage.TheVariants.{Pending, Queued}
use Rattle.nio_group.specs.declared.refusal.StartError.{StartError}
use Rattle.nio_group.specs.declared.refusal.StartError.TheVariants as refused
use Rattle.nio_group.specs.Completion.{CompletionFields}
use Rattle.nio_group.specs.Flight.{op_at, accepted}
use Rattle.nio_group.specs.Group.{channel_at, is_open, is_terminated}
use Rattle.nio_group.specs.Operations.{Accepted, operation_at, with_operation}
use Rattle.nio_group.specs.Refusals.{channel_refusal, has_pending}
use Rattle.nio_group.specs.Run as group
use Rattle.nio_group.specs.Stages.{is_pending, at_stage}
use Rattle.nio_group.specs.Steps.{unless_refused, answer_to_take, after_take, after_finish}
use Rattle.nio_future.specs.Desk.{DeskState, result_at, tickets_out}
use Rattle.nio_future.specs.Ticket.{Ticket}
use Rattle.nio_future.specs.declared.ticket.Polled.{Polled}
use Rattle.nio_future.specs.declared.ticket.Polled.TheVariants.{Ready, NotYet}

-- ---- completions

-- the result is put by for the operation's ticket, if that is out
abbrev pub with_result : Accepted → ℕ → Finished → Accepted
with_result out n result = with_operation out n (option_map (at_stage (Queued result)) (operation_at out n))

-- a completion was taken: its operation has ended, and its result is put by
abbrev pub with_taken : DeskState → Option CompletionFields → DeskState
with_taken d None = d
with_taken d (Some done) =
    record d {
      group = after_finish (after_take d.group) done.op.0;
      out = with_result d.out done.op.0 done.finished;
    }

-- so with one completion for each number that is listed
abbrev pub with_all_taken : DeskState → List ℕ → DeskState
with_all_taken d [] = d
with_all_taken d (n ∷ rest) = with_all_taken (with_taken d (answer_to_take d.group)) rest

-- so with each completion in the group's queue, the first to be taken first
abbrev pub settled : DeskState → DeskState
settled d = with_all_taken d d.group.flight.queue

-- a call of the group, after which its completions are taken
abbrev pub by_group : DeskState → group.Call → DeskState
by_group d call = settled (record d { group = group.after d.group call })

-- ---- `start`

-- no number is left, or as many tickets are out as operations may be in flight
abbrev pub limit_refusal : DeskState → Option StartError
limit_refusal d =
    if accepted d.group.flight == d.group.op_limit then Some refused.OpsSpent
    else if tickets_out d == d.out.limit then Some refused.FlightFull else None

-- as the group's `start`, but that tickets are counted in place of operations in flight
abbrev pub start_refusal : DeskState → GChan → OpKind → Option StartError
start_refusal d chan kind =
    let endpoint = (channel_at d.group chan.number).endpoint in
    if is_terminated d.group then Some refused.ShutdownGroup
    else option_or
    (channel_refusal (is_open d.group chan) endpoint (has_pending d.group.flight chan.number kind) kind)
    (limit_refusal d)

-- the ticket of the operation with this number
abbrev pub ticket_of : DeskState → ℕ → Ticket
ticket_of d n = record { op = record { 0 = n }; desk = d.source ∷ [] }

abbrev pub answer_to_start : DeskState → GChan → OpKind → Result Ticket StartError
answer_to_start d chan kind = unless_refused (start_refusal d chan kind) (ticket_of d (accepted d.group.flight))

-- one more ticket is out, of an operation that has no result
abbrev pub with_ticket : Accepted → GChan → OpKind → ℕ → Accepted
with_ticket out chan kind len =
    record out {
      operations = out.operations ++ Some (record { chan = chan; kind = kind; len = len; stage = Pending }) ∷ [];
    }

abbrev pub started : DeskState → GChan → OpKind → ℕ → DeskState
started d chan kind len =
    by_group (record d { out = with_ticket d.out chan kind len }) (group.start chan kind len)

abbrev pub kept_if_refused : Option StartError → DeskState → DeskState → DeskState
kept_if_refused None old new = new
kept_if_refused (Some e) old new = old

abbrev pub after_start : DeskState → GChan → OpKind → ℕ → DeskState
after_start d chan kind len = kept_if_refused (start_refusal d chan kind) d (started d chan kind len)

-- ---- tickets that come back

-- the ticket of this operation isn't out any more, and the desk holds nothing for it
abbrev pub without_ticket : DeskState → ℕ → DeskState
without_ticket d n = record d { out = with_operation d.out n None }

-- `poll_op`: a ticket whose result has come is answered that, and another is handed back
abbrev pub answer_by : Option Finished → Ticket → Polled
answer_by None t = NotYet t
answer_by (Some result) t = Ready result

abbrev pub answer_to_poll : DeskState → Ticket → Polled
answer_to_poll d t = answer_by (result_at d t.op.0) t

abbrev pub IsNotYet : Polled → Type 0
IsNotYet (Ready result) = ⊥
IsNotYet (NotYet t) = Unit {0}

-- a ticket whose result was answered is out no more
abbrev pub polled_with : Option Finished → DeskState → ℕ → DeskState
polled_with None d n = d
polled_with (Some result) d n = without_ticket d n

abbrev pub after_poll : DeskState → ℕ → DeskState
after_poll d n = polled_with (result_at d n) d n

-- `cancel`: the channel of a pending operation is closed, and the ticket is out no more
abbrev pub closed_for : DeskState → Option Operation → DeskState
closed_for d None = d
closed_for d (Some op) = if is_pending (Some op) then by_group d (group.close_channel op.chan) else d

abbrev pub after_cancel : DeskState → ℕ → DeskState
after_cancel d n = without_ticket (closed_for d (op_at d.group.flight n)) n
