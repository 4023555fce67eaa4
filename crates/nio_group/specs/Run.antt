-- The calls that change a group, one group step for each, runs of them, and their laws.
use Rattle.std.specs.Prelude.{◌≡◌, ℕ, ◌+◌, ◌<◌, ◌≤◌, ◌⊎◌, ◌==◌, Bool, true, false, if◌then◌else◌, not, ◌&&◌, ◌||◌, List, []}
use Rattle.std.specs.Prelude.{◌∷◌, length, Option, Some, None, Result, IsTrue, nat_lt}
use Rattle.nio_base.specs.declared.numbers.OpNo.{OpNo}
use Rattle.nio_base.specs.declared.numbers.GChan.{GChan}
use Rattle.nio_base.specs.declared.group.GKind.{GKind}
use Rattle.nio_base.specs.declared.group.OpKind.{OpKind}
use Rattle.nio_base.specs.declared.group.Outcome.{Outcome}
use Rattle.nio_base.specs.declared.group.Finished.{Finished}
use Rattle.nio_group.specs.declared.channel.Channel.{Channel}
use Rattle.nio_group.specs.declared.operation.Stage.{Stage}
use Rattle.nio_group.specs.declared.operation.Stage.TheVariants.{Pending, Queued, Running}
use Rattle.nio_group.specs.declared.operation.Operation.{Operation}
use Rattle.nio_group.specs.declared.refusal.StartError.{StartError}
use Rattle.nio_group.specs.declared.refusal.ReportError.{ReportError}
use Rattle.nio_group.specs.declared.refusal.NotRunning.{NotRunning}
use Rattle.nio_group.specs.declared.limits.GroupLimits.{GroupLimits}
use Rattle.nio_group.specs.Completion.{CompletionFields}
use Rattle.nio_group.specs.Stages.{is_on, is_pending, is_queued, is_running, at_stage}
use Rattle.nio_group.specs.Flight.{op_at, accepted, in_flight_on}
use Rattle.nio_group.specs.Making.{is_of_kind}
use Rattle.nio_group.specs.Group.{Group, IsLawful, IsMade, StaysMade, is_terminated, is_open, channel_at, name_at}
use Rattle.nio_group.specs.Group.{empty_group}
use Rattle.nio_group.specs.Steps.{answer_to_open, after_open, answer_to_bind, after_bind, answer_to_start, after_start}
use Rattle.nio_group.specs.Steps.{answer_to_report, after_report, answer_to_take, after_take, answer_to_finish}
use Rattle.nio_group.specs.Steps.{after_finish, after_close, after_shutdown, after_shutdown_now}

pub data Call : Type 0 where
  open_channel : GKind → Call
  bind : GChan → Call
  start : GChan → OpKind → ℕ → Call
  report : OpNo → Outcome → Call
  take : Call
  finish : OpNo → Call
  close_channel : GChan → Call
  shutdown : Call
  shutdown_now : Call

pub data Reply : Type 0 where
  opened : Result GChan StartError → Reply
  bound : Result Unit StartError → Reply
  started : Result OpNo StartError → Reply
  reported : Result Unit ReportError → Reply
  taken : Option CompletionFields → Reply
  finished : Result Unit NotRunning → Reply
  closed : Bool → Reply
  done : Reply

-- a call names channels that were made, whether or not their numbers have others by now
abbrev pub IsCallOf : Group → Call → Type 0
IsCallOf g (open_channel kind) = Unit {0}
IsCallOf g (bind chan) = IsMade g chan
IsCallOf g (start chan kind len) = IsMade g chan
IsCallOf g (report op outcome) = Unit {0}
IsCallOf g take = Unit {0}
IsCallOf g (finish op) = Unit {0}
IsCallOf g (close_channel chan) = IsMade g chan
IsCallOf g shutdown = Unit {0}
IsCallOf g shutdown_now = Unit {0}

abbrev pub reply_to : Group → Call → Reply
reply_to g (open_channel kind) = opened (answer_to_open g kind)
reply_to g (bind chan) = bound (answer_to_bind g chan)
reply_to g (start chan kind len) = started (answer_to_start g chan kind)
reply_to g (report op outcome) = reported (answer_to_report g op.0 outcome)
reply_to g take = taken (answer_to_take g)
reply_to g (finish op) = finished (answer_to_finish g op.0)
reply_to g (close_channel chan) = closed (is_open g chan)
reply_to g shutdown = done
reply_to g shutdown_now = done

abbrev pub after : Group → Call → Group
after g (open_channel kind) = after_open g kind
after g (bind chan) = after_bind g chan
after g (start chan kind len) = after_start g chan kind len
after g (report op outcome) = after_report g op.0 outcome
after g take = after_take g
after g (finish op) = after_finish g op.0
after g (close_channel chan) = after_close g chan
after g shutdown = after_shutdown g
after g shutdown_now = after_shutdown_now g

-- the group step: this call has this reply and leaves this state
pub record IsStep (g : Group) (call : Call) (reply : Reply) (left : Group) : Type 0 where
  pub answers : reply ≡ reply_to g call
  pub leaves : left ≡ after g call

-- for each lawful state and call there is one reply and one next state, and that state is lawful
pub record IsOneStep (g : Group) (call : Call) : Type 0 where
  pub reply : Reply
  pub left : Group
  pub step : IsStep g call reply left
  pub lawful : IsLawful left
  pub only : (reply' : Reply) (left' : Group) → IsStep g call reply' left' → (reply' ≡ reply) × (left' ≡ left)

abbrev pub StepsAreLawful : Type 0
StepsAreLawful = (g : Group) (call : Call) → IsLawful g → IsCallOf g call → IsOneStep g call

-- a terminated group stays so
abbrev pub TerminatedStays : Type 0
TerminatedStays =
    (g : Group) (call : Call) → IsLawful g → IsCallOf g call → IsTrue (is_terminated g)
    → IsTrue (is_terminated (after g call))

-- an operation that has completed: it was accepted and isn't pending any more
abbrev pub has_completed : Group → ℕ → Bool
has_completed g n = nat_lt n (accepted g.flight) && not (is_pending (op_at g.flight n))

-- an operation whose completion has been taken
abbrev pub was_taken : Group → ℕ → Bool
was_taken g n = has_completed g n && not (is_queued (op_at g.flight n))

-- an operation that has ended
abbrev pub has_ended : Group → ℕ → Bool
has_ended g n = was_taken g n && not (is_running (op_at g.flight n))

-- the stage that follows: a pending operation is queued with its result, a queued one runs, and a
-- running one ends. Its channel, kind and length stay
abbrev pub GoesOn : Stage → Operation → Option Operation → Type 0
GoesOn Pending op next = (result : Finished) × (next ≡ Some (at_stage (Queued result) op))
GoesOn (Queued result) op next = next ≡ Some (at_stage Running op)
GoesOn Running op next = next ≡ None

-- an operation stays as it was, or goes on to the stage that follows; one that has ended stays so
abbrev pub IsNext : Option Operation → Option Operation → Type 0
IsNext None next = next ≡ None
IsNext (Some op) next = (next ≡ Some op) ⊎ GoesOn op.stage op next

-- what a call makes of the operation with this number. One that was accepted before the call stays as
-- it was or goes one stage on; one that the call accepts is pending or queued
pub record IsForward (g left : Group) (n : ℕ) : Type 0 where
  pub accepts : accepted g.flight ≤ accepted left.flight
  pub goes_on : n < accepted g.flight → IsNext (op_at g.flight n) (op_at left.flight n)
  pub begins : accepted g.flight ≤ n → n < accepted left.flight
      → IsTrue (is_pending (op_at left.flight n) || is_queued (op_at left.flight n))

abbrev pub StagesGoForward : Type 0
StagesGoForward = (g : Group) (call : Call) (n : ℕ) → IsLawful g → IsCallOf g call → IsForward g (after g call) n

-- a run: each call names channels that were made by then
abbrev pub IsRunOf : Group → List Call → Type 0
IsRunOf g [] = Unit {0}
IsRunOf g (call ∷ calls) = IsCallOf g call × IsRunOf (after g call) calls

-- the group after a run
abbrev pub left_by : Group → List Call → Group
left_by g [] = g
left_by g (call ∷ calls) = left_by (after g call) calls

abbrev pub once_where : Bool → ℕ
once_where b = if b then 1 else 0

-- how often an operation completes in a run
abbrev pub completions : ℕ → Group → List Call → ℕ
completions n g [] = 0
completions n g (call ∷ calls) =
    once_where (has_completed (after g call) n && not (has_completed g n)) + completions n (after g call) calls

-- in a run from the empty group each operation that was accepted and isn't pending has completed
-- once, and no other has completed at all
abbrev pub CompletesOnce : Type 0
CompletesOnce =
    (limits : GroupLimits) (calls : List Call) (n : ℕ) → IsRunOf (empty_group limits) calls
    → completions n (empty_group limits) calls ≡ once_where (has_completed (left_by (empty_group limits) calls) n)

-- the reply is the completion of this operation
abbrev pub hands_out : ℕ → Reply → Bool
hands_out n (opened answer) = false
hands_out n (bound answer) = false
hands_out n (started answer) = false
hands_out n (reported answer) = false
hands_out n (taken None) = false
hands_out n (taken (Some completion)) = completion.op.0 == n
hands_out n (finished answer) = false
hands_out n (closed was_open) = false
hands_out n done = false

-- how often the completion of this operation is taken in a run
abbrev pub times_taken : ℕ → Group → List Call → ℕ
times_taken n g [] = 0
times_taken n g (call ∷ calls) = once_where (hands_out n (reply_to g call)) + times_taken n (after g call) calls

-- in a run from a lawful group the completion of each operation is taken at most once
abbrev pub TakesOnce : Type 0
TakesOnce = (g : Group) (calls : List Call) (n : ℕ) → IsLawful g → IsRunOf g calls → times_taken n g calls ≤ 1

-- where a group has terminated every accepted operation has ended, and none completes from then on
pub record IsAtRest (g : Group) : Type 0 where
  pub ended : (n : ℕ) → n < accepted g.flight → IsTrue (has_ended g n)
  pub completes_none : (n : ℕ) (calls : List Call) → IsRunOf g calls → completions n g calls ≡ 0

abbrev pub TerminatedIsAtRest : Type 0
TerminatedIsAtRest = (g : Group) → IsLawful g → IsTrue (is_terminated g) → IsAtRest g

-- ---- numbers that come back

-- a channel keeps its serial and its kind, and one that is closed stays as it is
pub record StaysChannel (channel next : Channel) : Type 0 where
  pub serial : next.serial ≡ channel.serial
  pub kind : (kind : GKind) → is_of_kind kind next.endpoint ≡ is_of_kind kind channel.endpoint
  pub closed : channel.is_open ≡ false → next ≡ channel

-- the number of a closed channel, of which no operation is in flight, has gone to an open channel of its kind, with the
-- next serial
pub record IsSucceeded (g : Group) (c : ℕ) (next : Channel) : Type 0 where
  pub was_closed : (channel_at g c).is_open ≡ false
  pub none_in_flight : in_flight_on g.flight (name_at g c) ≡ 0
  pub serial : next.serial ≡ (channel_at g c).serial + 1
  pub kind : (kind : GKind) → is_of_kind kind next.endpoint ≡ is_of_kind kind (channel_at g c).endpoint
  pub opened : next.is_open ≡ true

-- what a call makes of the channel that a number has
abbrev pub NumbersComeBack : Type 0
NumbersComeBack =
    (g : Group) (call : Call) (c : ℕ) → IsLawful g → IsCallOf g call → c < length g.channels
    → StaysChannel (channel_at g c) (channel_at (after g call) c) ⊎ IsSucceeded g c (channel_at (after g call) c)

-- a channel that was made stays so
abbrev pub MadeStays : Type 0
MadeStays = (g : Group) (call : Call) → IsLawful g → IsCallOf g call → StaysMade g (after g call)

-- an old name: its number has another channel by now
pub record IsOld (g : Group) (chan : GChan) : Type 0 where
  pub number : chan.number < length g.channels
  pub serial : chan.serial < (channel_at g chan.number).serial

-- the operation whose completion is at the front of the queue
abbrev pub front_of : Group → List ℕ → Option Operation
front_of g [] = None
front_of g (n ∷ rest) = op_at g.flight n

-- the call names this channel, or an operation that was started on it
abbrev pub IsOn : Group → GChan → Call → Type 0
IsOn g chan (open_channel kind) = ⊥
IsOn g chan (bind named) = named ≡ chan
IsOn g chan (start named kind len) = named ≡ chan
IsOn g chan (report op outcome) = IsTrue (is_on chan (op_at g.flight op.0))
IsOn g chan take = IsTrue (is_on chan (front_of g g.flight.queue))
IsOn g chan (finish op) = IsTrue (is_on chan (op_at g.flight op.0))
IsOn g chan (close_channel named) = named ≡ chan
IsOn g chan shutdown = ⊥
IsOn g chan shutdown_now = ⊥

-- what holds of an old name: no operation of it is pending, and no call on it, or on an operation of it, changes a
-- channel
pub record IsClosedForGood (g : Group) (chan : GChan) : Type 0 where
  pub closed : is_open g chan ≡ false
  pub none_pending : (n : ℕ) → IsTrue (is_on chan (op_at g.flight n)) → is_pending (op_at g.flight n) ≡ false
  pub changes_none : (call : Call) → IsOn g chan call → (after g call).channels ≡ g.channels

abbrev pub OldNamesAreClosed : Type 0
OldNamesAreClosed = (g : Group) (chan : GChan) → IsLawful g → IsOld g chan → IsClosedForGood g chan
