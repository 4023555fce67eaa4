-- Calls on the group. Each but the two that only ask is one step of the group, whose answer is the reply. A
-- channel of the group that the line names has to have been made. The reply, and the group that the call leaves, depend on
-- the group and the rules alone.
use Rattle.std.specs.Prelude.{◌==◌, Bool, true, false, not, ◌&&◌, if◌then◌else◌, length, Ok, Err, Some, None}
use Rattle.nio_base.specs.declared.group.Outcome.TheVariants as outcome
use Rattle.nio_base.specs.declared.numbers.GChan.{GChan}
use Rattle.nio_group.specs.Group.{Group, is_made, is_terminated}
use Rattle.nio_group.specs.Run as step
use Rattle.nio_group.specs.Run.{after, reply_to}
use Rattle.nio_group.specs.declared.refusal.ReportError.{ReportError}
use Rattle.nio_group.specs.declared.refusal.ReportError.TheVariants as unreported
use Rattle.nio_group.specs.declared.refusal.StartError.{StartError}
use Rattle.nio_group.specs.declared.refusal.StartError.TheVariants as refused
use Rattle.nio_language.specs.declared.group_call.GroupCall.{GroupCall}
use Rattle.nio_language.specs.declared.group_call.GroupCall.TheVariants as group
use Rattle.nio_language.specs.declared.group_reply.GroupReply.TheVariants as of_group
use Rattle.nio_language.specs.declared.reply.Reply.{Reply}
use Rattle.nio_language.specs.declared.reply.Reply.TheVariants as reply
use Rattle.nio_plain.specs.ScriptState.{ScriptState, group_limits, with_group}
use Rattle.nio_plain.specs.Seq.Replies.{Replied, unchanged, yes_or_no}
use Rattle.nio_plain.specs.declared.rules.Rules.{Rules}
use Rattle.nio_plain.specs.declared.rules.Rules.TheVariants.{First, Now}

-- the reply to what is refused

abbrev pub start_refused : StartError → Reply
start_refused refused.ShutdownGroup = reply.Group of_group.ShutdownGroup
start_refused refused.WrongKind = reply.Group of_group.WrongKind
start_refused refused.ClosedChannel = reply.ClosedChannel
start_refused refused.AlreadyBound = reply.Group of_group.AlreadyBound
start_refused refused.AlreadyConnected = reply.Group of_group.AlreadyConnected
start_refused refused.ConnectionPending = reply.Group of_group.ConnectionPending
start_refused refused.NotYetConnected = reply.Group of_group.NotYetConnected
start_refused refused.NotYetBound = reply.Group of_group.NotYetBound
start_refused refused.ReadPending = reply.Group of_group.ReadPending
start_refused refused.WritePending = reply.Group of_group.WritePending
start_refused refused.AcceptPending = reply.Group of_group.AcceptPending
start_refused refused.OpsSpent = reply.Group of_group.OpsSpent
start_refused refused.FlightFull = reply.Group of_group.FlightFull
start_refused refused.ChannelsSpent = reply.ChannelsSpent

abbrev pub report_refused : ReportError → Reply
report_refused unreported.NotPending = reply.Group of_group.NotPending
report_refused unreported.WrongOutcome = reply.Group of_group.WrongOutcome

-- the reply that the group's answer is

abbrev pub line_reply : step.Reply → Reply
line_reply (step.opened (Ok g)) = reply.Group (of_group.Channel g)
line_reply (step.opened (Err e)) = start_refused e
line_reply (step.bound (Ok _)) = reply.«Ok»
line_reply (step.bound (Err e)) = start_refused e
line_reply (step.started (Ok n)) = reply.Group (of_group.Op n)
line_reply (step.started (Err e)) = start_refused e
line_reply (step.reported (Ok _)) = reply.«Ok»
line_reply (step.reported (Err e)) = report_refused e
line_reply (step.taken None) = reply.None
line_reply (step.taken (Some done)) = reply.Group (of_group.Completed done.op done.finished)
line_reply (step.finished (Ok _)) = reply.«Ok»
line_reply (step.finished (Err _)) = reply.Group of_group.NotRunning
line_reply (step.closed true) = reply.«Ok»
line_reply (step.closed false) = reply.Already
line_reply step.done = reply.«Ok»

-- what comes of a call on the group: its reply, and the group that it leaves
pub record GroupReplied : Type 0 where
  pub reply : Reply
  pub left : Group

-- a call that is a step of the group
abbrev pub stepped : Group → step.Call → GroupReplied
stepped g call = record { reply = line_reply (reply_to g call); left = after g call }

-- a call that leaves the group as it was
abbrev pub group_kept : Group → Reply → GroupReplied
group_kept g reply = record { reply = reply; left = g }

abbrev pub with_named_group_channel : Group → GChan → GroupReplied → GroupReplied
with_named_group_channel g chan done =
    if is_made g chan then done else group_kept g reply.NoChannel

unfoldable pub group_replied : Group → GroupCall → GroupReplied
group_replied g (group.Gopen kind) = stepped g (step.open_channel kind)
group_replied g (group.Gbind chan) = with_named_group_channel g chan (stepped g (step.bind chan))
group_replied g (group.Start chan kind len) = with_named_group_channel g chan (stepped g (step.start chan kind len))
group_replied g (group.Report n outcome) = stepped g (step.report n outcome)
group_replied g group.Take = stepped g step.take
group_replied g (group.Done n) = stepped g (step.finish n)
group_replied g (group.Gclose chan) = with_named_group_channel g chan (stepped g (step.close_channel chan))
group_replied g group.Shutdown = stepped g step.shutdown
group_replied g group.ShutdownNow = stepped g step.shutdown_now
group_replied g group.IsShutdown = group_kept g (yes_or_no g.is_shut)
group_replied g group.Terminated = group_kept g (yes_or_no (is_terminated g))

abbrev pub group_reply : Group → GroupCall → Reply
group_reply g call = (group_replied g call).reply

abbrev pub group_left : Group → GroupCall → Group
group_left g call = (group_replied g call).left

-- such a call in a script
abbrev pub replied_by_group : ScriptState → GroupReplied → Replied
replied_by_group st done = record { reply = done.reply; left = with_group st done.left }

-- the call asks for a new channel
abbrev pub asks_for_a_channel : GroupCall → Bool
asks_for_a_channel (group.Gopen kind) = true
asks_for_a_channel (group.Gbind chan) = false
asks_for_a_channel (group.Start chan kind len) = false
asks_for_a_channel (group.Report n (outcome.Count k)) = false
asks_for_a_channel (group.Report n outcome.End) = false
asks_for_a_channel (group.Report n outcome.Connected) = false
asks_for_a_channel (group.Report n outcome.Accepted) = true
asks_for_a_channel (group.Report n outcome.Fault) = false
asks_for_a_channel group.Take = false
asks_for_a_channel (group.Done n) = false
asks_for_a_channel (group.Gclose chan) = false
asks_for_a_channel group.Shutdown = false
asks_for_a_channel group.ShutdownNow = false
asks_for_a_channel group.IsShutdown = false
asks_for_a_channel group.Terminated = false

-- each number of a script's group was given to a channel
abbrev pub gave_each_number : Group → Bool
gave_each_number g = length g.channels == group_limits.channels

-- THE TWO RULES DIFFER HERE: under the rules of now the number of a closed channel comes back, as nio_group says it;
-- under the first rules no number ever comes back, so that a group that gave each number lacks one for another channel.
-- (A shut group makes no channel by either.)
abbrev pub lacks_a_number : Rules → Group → GroupCall → Bool
lacks_a_number First g call = asks_for_a_channel call && (not g.is_shut && gave_each_number g)
lacks_a_number Now g call = false

abbrev pub group_call : Rules → ScriptState → GroupCall → Replied
group_call rules st call =
    if lacks_a_number rules st.group call then unchanged st reply.ChannelsSpent
    else replied_by_group st (group_replied st.group call)
