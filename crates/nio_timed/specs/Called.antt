-- What each call of a timed script replies, and the group that it leaves; and the answer to a whole script. Each call
-- but those that only ask is one timed step. `start` is a `start-timed` at the moment 0 with the limit 0, which is
-- none.
use Rattle.std.specs.Prelude.{◌≡◌, ◌≢◌, ℕ, ◌+◌, List, [], ◌∷◌, ◌++◌, if◌then◌else◌, Option}
use Rattle.std.specs.Prelude.{Some, None, Ok, Err, IsTrue}
use Rattle.nio_base.specs.declared.numbers.GChan.{GChan}
use Rattle.nio_deadline.specs.Deadlines.{first_moment}
use Rattle.nio_deadline.specs.Run as step
use Rattle.nio_deadline.specs.Run.{after, reply_to}
use Rattle.nio_deadline.specs.Timed.{Timed, empty_timed, may_have_limit, own_refusal}
use Rattle.nio_deadline.specs.declared.done.TimedDone.{TimedDone}
use Rattle.nio_deadline.specs.declared.done.TimedResult.{TimedResult}
use Rattle.nio_deadline.specs.declared.done.TimedResult.TheVariants.{Core, InterruptedByTimeout}
use Rattle.nio_deadline.specs.declared.refusal.TimedError.{TimedError}
use Rattle.nio_deadline.specs.declared.refusal.TimedError.TheVariants as refused
use Rattle.nio_group.specs.Group.{IsMade, is_made, is_open, is_terminated}
use Rattle.nio_group.specs.Run as group_step
use Rattle.nio_language.specs.declared.group_call.GroupCall.TheVariants as group
use Rattle.nio_language.specs.declared.group_reply.GroupReply.TheVariants as of_group
use Rattle.nio_language.specs.declared.reply.Reply.{Reply}
use Rattle.nio_language.specs.declared.reply.Reply.TheVariants as plain
use Rattle.nio_plain.specs.ScriptState.{group_limits}
use Rattle.nio_plain.specs.Seq.Grouping.{line_reply, start_refused}
use Rattle.nio_plain.specs.Seq.Replies.{yes_or_no}
use Rattle.nio_timed.specs.Replies.{timed_history_line}
use Rattle.nio_timed.specs.declared.call.TimedCall.{TimedCall}
use Rattle.nio_timed.specs.declared.call.TimedCall.TheVariants.{Group, StartTimed, Expire, Next}
use Rattle.nio_timed.specs.declared.call.TimedLine.{TimedLine}
use Rattle.nio_timed.specs.declared.call.TimedStart.{TimedStart}
use Rattle.nio_timed.specs.declared.reply.TimedReply.{TimedReply}
use Rattle.nio_timed.specs.declared.reply.TimedReply.TheVariants.{Script, NoLimitHere, LimitTooLong, TimedOut, Timeout}

-- ---- the reply that the step's answer is

-- no step is refused for want of memory: the last line but one stands for no reply
abbrev pub timed_start_refused : TimedError → TimedReply
timed_start_refused refused.NoLimitHere = NoLimitHere
timed_start_refused refused.LimitTooLong = LimitTooLong
timed_start_refused refused.TimedOut = TimedOut
timed_start_refused refused.Memory = Script plain.None
timed_start_refused (refused.Start e) = Script (start_refused e)

abbrev pub done_reply : TimedDone → TimedResult → TimedReply
done_reply done (Core finished) = Script (plain.Group (of_group.Completed done.op finished))
done_reply done InterruptedByTimeout = Timeout done.op

abbrev pub taken_reply : Option TimedDone → TimedReply
taken_reply None = Script plain.None
taken_reply (Some done) = done_reply done done.result

abbrev pub timed_line_reply : step.Reply → TimedReply
timed_line_reply (step.opened answer) = Script (line_reply (group_step.opened answer))
timed_line_reply (step.bound answer) = Script (line_reply (group_step.bound answer))
timed_line_reply (step.started (Ok n)) = Script (plain.Group (of_group.Op n))
timed_line_reply (step.started (Err e)) = timed_start_refused e
timed_line_reply (step.reported answer) = Script (line_reply (group_step.reported answer))
timed_line_reply (step.expired count) = Script (plain.Number count)
timed_line_reply (step.taken answer) = taken_reply answer
timed_line_reply (step.finished answer) = Script (line_reply (group_step.finished answer))
timed_line_reply (step.closed was_open) = Script (line_reply (group_step.closed was_open))
timed_line_reply step.done = Script plain.«Ok»

-- the least deadline of a pending operation
abbrev pub next_reply : Option ℕ → Reply
next_reply None = plain.None
next_reply (Some at) = plain.Number at

-- ---- one call

-- what comes of a call: its reply, and the group that it leaves
pub record TimedReplied : Type 0 where
  pub reply : TimedReply
  pub left : Timed

-- a call that is a timed step
abbrev pub stepped : Timed → step.Call → TimedReplied
stepped t call = record { reply = timed_line_reply (reply_to t call); left = after t call }

-- a call that leaves the group as it was
abbrev pub kept : Timed → Reply → TimedReplied
kept t reply = record { reply = Script reply; left = t }

-- a channel that a line names has to have been made
abbrev pub with_named_channel : Timed → GChan → TimedReplied → TimedReplied
with_named_channel t chan done = if is_made t.group chan then done else kept t plain.NoChannel

abbrev pub timed_replied : Timed → TimedCall → TimedReplied
timed_replied t (Group (group.Gopen kind)) = stepped t (step.open_channel kind)
timed_replied t (Group (group.Gbind chan)) = with_named_channel t chan (stepped t (step.bind chan))
timed_replied t (Group (group.Start chan kind len)) =
    with_named_channel t chan (stepped t (step.start_timed chan kind len 0 0))
timed_replied t (Group (group.Report n outcome)) = stepped t (step.report n outcome)
timed_replied t (Group group.Take) = stepped t step.take
timed_replied t (Group (group.Done n)) = stepped t (step.finish n)
timed_replied t (Group (group.Gclose chan)) = with_named_channel t chan (stepped t (step.close_channel chan))
timed_replied t (Group group.Shutdown) = stepped t step.shutdown
timed_replied t (Group group.ShutdownNow) = stepped t step.shutdown_now
timed_replied t (Group group.IsShutdown) = kept t (yes_or_no t.group.is_shut)
timed_replied t (Group group.Terminated) = kept t (yes_or_no (is_terminated t.group))
timed_replied t (StartTimed s) =
    with_named_channel t s.chan (stepped t (step.start_timed s.chan s.kind s.len s.now s.limit))
timed_replied t (Expire now) = stepped t (step.expire now)
timed_replied t Next = kept t (next_reply (first_moment t.deadlines))

abbrev pub timed_reply : Timed → TimedCall → TimedReply
timed_reply t call = (timed_replied t call).reply

abbrev pub timed_left : Timed → TimedCall → Timed
timed_left t call = (timed_replied t call).left

-- ---- want of memory

-- a start that keeps a deadline: of a read or write of some bytes, with a limit, on an open channel, where no rule of
-- deadlines refuses it
pub record KeepsDeadline (t : Timed) (s : TimedStart) : Type 0 where
  pub made : IsMade t.group s.chan
  pub limited : s.limit ≢ 0
  pub some : s.len ≢ 0
  pub kind : IsTrue (may_have_limit s.kind)
  pub opened : IsTrue (is_open t.group s.chan)
  pub allowed : own_refusal t s.chan s.kind s.now s.limit ≡ None

-- the call takes memory
abbrev pub TakesMemory : Timed → TimedCall → Type 0
TakesMemory t (Group call) = ⊥
TakesMemory t (StartTimed start) = KeepsDeadline t start
TakesMemory t (Expire now) = ⊥
TakesMemory t Next = ⊥

-- ---- a script

-- the group in which a timed script begins; its limits are those of a script's group
abbrev pub timed_opening : Timed
timed_opening = empty_timed group_limits

-- the history of calls from a group on, numbered from n on
abbrev pub timed_answer_from : Timed → ℕ → List TimedLine → List ℕ
timed_answer_from t n [] = []
timed_answer_from t n (l ∷ calls) =
    timed_history_line n l (timed_reply t l.call) ++ timed_answer_from (timed_left t l.call) (n + 1) calls

-- the history of a timed script
abbrev pub timed_answer_to : List TimedLine → List ℕ
timed_answer_to calls = timed_answer_from timed_opening 1 calls

-- the group that calls leave
abbrev pub timed_left_from : Timed → List TimedLine → Timed
timed_left_from t [] = t
timed_left_from t (l ∷ calls) = timed_left_from (timed_left t l.call) calls
