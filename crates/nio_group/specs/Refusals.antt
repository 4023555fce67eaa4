-- Which calls of a group are refused, and why: the first cause in the order that stands here.
use Rattle.std.specs.Prelude.{ℕ, Bool, true, false, if◌then◌else◌, ◌&&◌, ◌==◌, nat_le, Option, Some, None}
use Rattle.std.specs.Option.{option_or}
use Rattle.std.specs.List.{list_any}
use Rattle.nio_base.specs.declared.numbers.GChan.{GChan}
use Rattle.nio_group.specs.declared.channel.Endpoint.{Endpoint}
use Rattle.nio_group.specs.declared.channel.Endpoint.TheVariants.{Stream, Listener}
use Rattle.nio_group.specs.declared.channel.Link.{Link}
use Rattle.nio_group.specs.declared.channel.Link.TheVariants.{Unconnected, Connecting, Connected}
use Rattle.nio_base.specs.declared.group.OpKind.{OpKind}
use Rattle.nio_base.specs.declared.group.OpKind.TheVariants.{Accept, Connect, Read, Write}
use Rattle.nio_base.specs.declared.group.Outcome.{Outcome}
use Rattle.nio_base.specs.declared.group.Outcome.TheVariants as outcome
use Rattle.nio_group.specs.declared.operation.Operation.{Operation}
use Rattle.nio_group.specs.declared.refusal.StartError.{StartError}
use Rattle.nio_group.specs.declared.refusal.StartError.TheVariants as refused
use Rattle.nio_group.specs.declared.refusal.ReportError.{ReportError}
use Rattle.nio_group.specs.declared.refusal.ReportError.TheVariants as unreported
use Rattle.nio_group.specs.Stages.{is_pending_as, stage_is_pending}
use Rattle.nio_group.specs.Flight.{Flight, accepted, in_flight}
use Rattle.nio_group.specs.Group.{Group, channel_at, is_open, is_terminated}

-- a listener is bound once, while it is open
abbrev pub bind_refusal : Bool → Endpoint → Option StartError
bind_refusal is_open (Stream link) = Some refused.WrongKind
bind_refusal false (Listener bound) = Some refused.ClosedChannel
bind_refusal true (Listener true) = Some refused.AlreadyBound
bind_refusal true (Listener false) = None

-- a listener accepts, a stream does the rest
abbrev pub kind_refusal : Endpoint → OpKind → Option StartError
kind_refusal (Stream link) Accept = Some refused.WrongKind
kind_refusal (Stream link) Connect = None
kind_refusal (Stream link) Read = None
kind_refusal (Stream link) Write = None
kind_refusal (Listener bound) Accept = None
kind_refusal (Listener bound) Connect = Some refused.WrongKind
kind_refusal (Listener bound) Read = Some refused.WrongKind
kind_refusal (Listener bound) Write = Some refused.WrongKind

abbrev pub if_pending : Bool → StartError → Option StartError
if_pending pending e = if pending then Some e else None

-- what the state of an open stream refuses, where an operation of this kind may be pending on it
abbrev pub stream_refusal : Link → Bool → OpKind → Option StartError
stream_refusal link pending Accept = None
stream_refusal Unconnected pending Connect = None
stream_refusal Connecting pending Connect = Some refused.ConnectionPending
stream_refusal Connected pending Connect = Some refused.AlreadyConnected
stream_refusal Unconnected pending Read = Some refused.NotYetConnected
stream_refusal Connecting pending Read = Some refused.NotYetConnected
stream_refusal Connected pending Read = if_pending pending refused.ReadPending
stream_refusal Unconnected pending Write = Some refused.NotYetConnected
stream_refusal Connecting pending Write = Some refused.NotYetConnected
stream_refusal Connected pending Write = if_pending pending refused.WritePending

-- what the state of an open channel refuses
abbrev pub state_refusal : Endpoint → Bool → OpKind → Option StartError
state_refusal (Listener bound) pending Accept =
    if bound then if_pending pending refused.AcceptPending else Some refused.NotYetBound
state_refusal (Listener bound) pending Connect = None
state_refusal (Listener bound) pending Read = None
state_refusal (Listener bound) pending Write = None
state_refusal (Stream link) pending kind = stream_refusal link pending kind

-- what the channel's kind refuses, and then, where it is open, its state
abbrev pub channel_refusal : Bool → Endpoint → Bool → OpKind → Option StartError
channel_refusal is_open endpoint pending kind =
    option_or (kind_refusal endpoint kind) (if is_open then state_refusal endpoint pending kind else None)

-- an operation of this kind is pending on the channel with this number
abbrev pub has_pending : Flight → ℕ → OpKind → Bool
has_pending f c kind = list_any (is_pending_as c kind) f.operations

-- no number is left, or as many operations are in flight as may be
abbrev pub limit_refusal : Group → Option StartError
limit_refusal g =
    if accepted g.flight == g.op_limit then Some refused.OpsSpent
    else if in_flight g.flight == g.flight.limit then Some refused.FlightFull else None

abbrev pub start_refusal : Group → GChan → OpKind → Option StartError
start_refusal g chan kind =
    let endpoint = (channel_at g chan.number).endpoint in
    if is_terminated g then Some refused.ShutdownGroup
    else option_or (channel_refusal (is_open g chan) endpoint (has_pending g.flight chan.number kind) kind)
    (limit_refusal g)

-- which outcomes an operation of this kind and length may have
abbrev pub is_allowed : OpKind → ℕ → Outcome → Bool
is_allowed Accept len (outcome.Count k) = false
is_allowed Accept len outcome.End = false
is_allowed Accept len outcome.Connected = false
is_allowed Accept len outcome.Accepted = true
is_allowed Accept len outcome.Fault = true
is_allowed Connect len (outcome.Count k) = false
is_allowed Connect len outcome.End = false
is_allowed Connect len outcome.Connected = true
is_allowed Connect len outcome.Accepted = false
is_allowed Connect len outcome.Fault = true
is_allowed Read len (outcome.Count k) = nat_le 1 k && nat_le k len
is_allowed Read len outcome.End = true
is_allowed Read len outcome.Connected = false
is_allowed Read len outcome.Accepted = false
is_allowed Read len outcome.Fault = true
is_allowed Write len (outcome.Count k) = nat_le 1 k && nat_le k len
is_allowed Write len outcome.End = false
is_allowed Write len outcome.Connected = false
is_allowed Write len outcome.Accepted = false
is_allowed Write len outcome.Fault = true

-- an outcome is reported of a pending operation alone, and only one that it may have
abbrev pub report_refusal : Option Operation → Outcome → Option ReportError
report_refusal None outcome = Some unreported.NotPending
report_refusal (Some op) outcome =
    if stage_is_pending op.stage
    then (if is_allowed op.kind op.len outcome then None else Some unreported.WrongOutcome)
    else Some unreported.NotPending
