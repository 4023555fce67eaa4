-- What each call of a group answers, and the state that it leaves. A refused call leaves the group
-- as it was.
use Rattle.std.specs.Prelude.{◌≡◌, ℕ, Bool, true, false, if◌then◌else◌, ◌==◌, List, [], ◌∷◌, length, Option, Some}
use Rattle.std.specs.Prelude.{None, Result, Ok, Err, slice_set, suc, zero}
use Rattle.nio_base.specs.declared.numbers.OpNo.{OpNo}
use Rattle.nio_base.specs.declared.numbers.GChan.{GChan}
use Rattle.nio_base.specs.declared.group.GKind.{GKind}
use Rattle.nio_base.specs.declared.group.GKind.TheVariants as gkind
use Rattle.nio_group.specs.declared.channel.Channel.{Channel}
use Rattle.nio_group.specs.declared.channel.Endpoint.{Endpoint}
use Rattle.nio_group.specs.declared.channel.Endpoint.TheVariants.{Stream, Listener}
use Rattle.nio_group.specs.declared.channel.Link.TheVariants.{Connecting, Connected}
use Rattle.nio_base.specs.declared.group.OpKind.{OpKind}
use Rattle.nio_base.specs.declared.group.OpKind.TheVariants.{Accept, Connect, Read, Write}
use Rattle.nio_base.specs.declared.group.Outcome.{Outcome}
use Rattle.nio_base.specs.declared.group.Outcome.TheVariants as outcome
use Rattle.nio_base.specs.declared.group.Finished.{Finished}
use Rattle.nio_base.specs.declared.group.Finished.TheVariants as finished
use Rattle.nio_base.specs.declared.group.Why.TheVariants as why
use Rattle.nio_group.specs.declared.operation.Stage.{Stage}
use Rattle.nio_group.specs.declared.operation.Stage.TheVariants.{Pending, Queued, Running}
use Rattle.nio_group.specs.declared.operation.Operation.{Operation}
use Rattle.nio_group.specs.declared.refusal.StartError.{StartError}
use Rattle.nio_group.specs.declared.refusal.StartError.TheVariants as refused
use Rattle.nio_group.specs.declared.refusal.ReportError.{ReportError}
use Rattle.nio_group.specs.declared.refusal.NotRunning.{NotRunning}
use Rattle.nio_group.specs.Completion.{CompletionFields, JobFields}
use Rattle.nio_group.specs.Stages.{is_running}
use Rattle.nio_group.specs.Flight.{Flight, op_at, accepted, with_accepted, with_completed, flight_after_take}
use Rattle.nio_group.specs.Flight.{with_ended, with_channel_closed}
use Rattle.nio_group.specs.Group.{Group, new_endpoint, channel_at, is_present, is_open}
use Rattle.nio_group.specs.Making.{next_name, with_made}
use Rattle.nio_group.specs.Refusals.{bind_refusal, start_refusal, report_refusal}

-- the answer of a call that may be refused, and what it leaves
abbrev pub unless_refused : {T E : Type 0} → Option E → T → Result T E
unless_refused None answer = Ok answer
unless_refused (Some e) answer = Err e

abbrev pub kept_if_refused : {E : Type 0} → Option E → Group → Group → Group
kept_if_refused None old new = new
kept_if_refused (Some e) old new = old

abbrev pub with_channel : Group → ℕ → Channel → Group
with_channel g c channel = record g { channels = slice_set g.channels c channel }

abbrev pub with_endpoint : Group → ℕ → Endpoint → Group
with_endpoint g c endpoint = with_channel g c (record (channel_at g c) { endpoint = endpoint })

-- `open_channel`: a new channel, with the next number or one that comes back. It is refused after shutdown, and where
-- there is no such number
abbrev pub name_or_spent : Option GChan → Result GChan StartError
name_or_spent None = Err refused.ChannelsSpent
name_or_spent (Some chan) = Ok chan

abbrev pub answer_to_open : Group → GKind → Result GChan StartError
answer_to_open g kind = if g.is_shut then Err refused.ShutdownGroup else name_or_spent (next_name g kind)

abbrev pub after_open : Group → GKind → Group
after_open g kind = if g.is_shut then g else with_made g (next_name g kind) (new_endpoint kind)

-- `bind`: the listener is bound
abbrev pub answer_to_bind : Group → GChan → Result Unit StartError
answer_to_bind g chan = unless_refused (bind_refusal (is_open g chan) (channel_at g chan.number).endpoint) tt

abbrev pub after_bind : Group → GChan → Group
after_bind g chan =
    kept_if_refused (bind_refusal (is_open g chan) (channel_at g chan.number).endpoint) g
    (with_endpoint g chan.number (Listener true))

-- `start`: on a closed channel the operation is queued at once as failed, a read or a write of no
-- bytes with its count of 0; else it is pending, and a connect makes its stream connecting
abbrev pub first_stage : Bool → OpKind → ℕ → Stage
first_stage false kind len = Queued (finished.Failed why.ClosedChannel)
first_stage true Accept len = Pending
first_stage true Connect len = Pending
first_stage true Read len = if len == 0 then Queued (finished.Count 0) else Pending
first_stage true Write len = if len == 0 then Queued (finished.Count 0) else Pending

abbrev pub channels_after_start : Group → ℕ → OpKind → Bool → Group
channels_after_start g c Accept is_open = g
channels_after_start g c Connect true = with_endpoint g c (Stream Connecting)
channels_after_start g c Connect false = g
channels_after_start g c Read is_open = g
channels_after_start g c Write is_open = g

abbrev pub started : Group → GChan → OpKind → ℕ → Group
started g chan kind len =
    record (channels_after_start g chan.number kind (is_open g chan)) {
      flight = with_accepted g.flight
          (record { chan = chan; kind = kind; len = len; stage = first_stage (is_open g chan) kind len });
    }

abbrev pub answer_to_start : Group → GChan → OpKind → Result OpNo StartError
answer_to_start g chan kind = unless_refused (start_refusal g chan kind) (record { 0 = accepted g.flight })

abbrev pub after_start : Group → GChan → OpKind → ℕ → Group
after_start g chan kind len = kept_if_refused (start_refusal g chan kind) g (started g chan kind len)

-- `report`: the operation's completion is queued. A connection makes its stream connected, a fault
-- of a connect closes the channel, and an accepted connection becomes a connected stream, with the next number or
-- one that comes back, unless the group is shut down or there is no such number
abbrev pub accepted_or_spent : Option GChan → Finished
accepted_or_spent None = finished.Failed why.ChannelsSpent
accepted_or_spent (Some chan) = finished.Accepted chan

abbrev pub result_of : Group → Outcome → Finished
result_of g (outcome.Count k) = finished.Count k
result_of g outcome.End = finished.End
result_of g outcome.Connected = finished.Connected
result_of g outcome.Fault = finished.Failed why.Fault
result_of g outcome.Accepted =
    if g.is_shut then finished.Failed why.ShutdownGroup else accepted_or_spent (next_name g gkind.Stream)

abbrev pub with_closed : Group → ℕ → Group
with_closed g c = with_channel g c (record (channel_at g c) { is_open = false })

abbrev pub channels_after_report : Group → ℕ → OpKind → Outcome → Group
channels_after_report g c kind (outcome.Count k) = g
channels_after_report g c kind outcome.End = g
channels_after_report g c kind outcome.Connected = with_endpoint g c (Stream Connected)
channels_after_report g c kind outcome.Accepted = g
channels_after_report g c Accept outcome.Fault = g
channels_after_report g c Connect outcome.Fault = with_closed g c
channels_after_report g c Read outcome.Fault = g
channels_after_report g c Write outcome.Fault = g

abbrev pub completed : Group → ℕ → Outcome → Finished → Operation → Group
completed g n outcome finished op =
    record (channels_after_report g op.chan.number op.kind outcome) { flight = with_completed g.flight n finished }

-- the name of the stream that is made
abbrev pub accepted_name : Group → Outcome → Option GChan
accepted_name g (outcome.Count k) = None
accepted_name g outcome.End = None
accepted_name g outcome.Connected = None
accepted_name g outcome.Accepted = if g.is_shut then None else next_name g gkind.Stream
accepted_name g outcome.Fault = None

abbrev pub reported : Group → ℕ → Outcome → Option Operation → Group
reported g n outcome None = g
reported g n outcome (Some op) =
    with_made (completed g n outcome (result_of g outcome) op) (accepted_name g outcome) (Stream Connected)

abbrev pub answer_to_report : Group → ℕ → Outcome → Result Unit ReportError
answer_to_report g n outcome = unless_refused (report_refusal (op_at g.flight n) outcome) tt

abbrev pub after_report : Group → ℕ → Outcome → Group
after_report g n outcome =
    kept_if_refused (report_refusal (op_at g.flight n) outcome) g (reported g n outcome (op_at g.flight n))

-- `take`: the completion at the front of the queue, which is running from then on
abbrev pub completion_of : ℕ → GChan → OpKind → Stage → Option CompletionFields
completion_of n chan kind Pending = None
completion_of n chan kind (Queued finished) =
    Some (record { op = record { 0 = n }; chan = chan; kind = kind; finished = finished })
completion_of n chan kind Running = None

abbrev pub completion_at : ℕ → Option Operation → Option CompletionFields
completion_at n None = None
completion_at n (Some op) = completion_of n op.chan op.kind op.stage

abbrev pub taken_from : Flight → List ℕ → Option CompletionFields
taken_from f [] = None
taken_from f (n ∷ rest) = completion_at n (op_at f n)

abbrev pub answer_to_take : Group → Option CompletionFields
answer_to_take g = taken_from g.flight g.flight.queue

abbrev pub after_take : Group → Group
after_take g = record g { flight = flight_after_take g.flight g.flight.queue }

-- `finish`: the handler of a running operation has ended, and with it the operation
abbrev pub finish_refusal : Bool → Option NotRunning
finish_refusal true = None
finish_refusal false = Some (record {})

abbrev pub answer_to_finish : Group → ℕ → Result Unit NotRunning
answer_to_finish g n = unless_refused (finish_refusal (is_running (op_at g.flight n))) tt

abbrev pub after_finish : Group → ℕ → Group
after_finish g n =
    kept_if_refused (finish_refusal (is_running (op_at g.flight n))) g (record g { flight = with_ended g.flight n })

-- `close_channel`: an open channel is closed, and what is pending on it completes
abbrev pub after_closing : Group → ℕ → Group
after_closing g c =
    if (channel_at g c).is_open
    then record (with_closed g c) { flight = with_channel_closed g.flight c }
    else g

abbrev pub after_close : Group → GChan → Group
after_close g chan = if is_present g chan then after_closing g chan.number else g

-- `shutdown`
abbrev pub after_shutdown : Group → Group
after_shutdown g = record g { is_shut = true }

-- `shutdown_now`: shut down, then every open channel is closed, in rising order
abbrev pub closed_below : ℕ → Group → Group
closed_below zero g = g
closed_below (suc c) g = after_closing (closed_below c g) c

abbrev pub after_shutdown_now : Group → Group
after_shutdown_now g = closed_below (length g.channels) (after_shutdown g)

-- the job names a pending operation of this kind on this channel
pub record IsJobOf (g : Group) (named : GChan) (kind : OpKind) (job : JobFields) : Type 0 where
  pub chan : job.chan ≡ named
  pub same_kind : job.kind ≡ kind
  pub pending : op_at g.flight job.op.0
      ≡ Some (record { chan = job.chan; kind = job.kind; len = job.len; stage = Pending })
