-- The calls that change a desk, runs of them, the calls of its group below them, and the ticket law.
use Rattle.std.specs.Prelude.{◌≡◌, ℕ, ◌+◌, ◌≤◌, ◌⊎◌, ◌==◌, if◌then◌else◌, List, [], ◌∷◌, ◌++◌, Option, Some}
use Rattle.std.specs.Prelude.{None, IsSome, IsTrue, false, is_some}
use Rattle.nio_base.specs.declared.group.Finished.{Finished}
use Rattle.nio_group.specs.declared.limits.GroupLimits.{GroupLimits}
use Rattle.nio_group.specs.declared.operation.Operation.{Operation}
use Rattle.nio_group.specs.declared.refusal.StartError.{StartError}
use Rattle.nio_group.specs.Flight.{op_at}
use Rattle.nio_group.specs.Group.{Group, IsMade, empty_group, is_terminated}
use Rattle.nio_group.specs.Limits.{IsFit}
use Rattle.nio_group.specs.Run as group
use Rattle.nio_group.specs.Run.{open_channel, bind, start, report, take, finish, close_channel, shutdown, shutdown_now}
use Rattle.nio_group.specs.Run.{Reply, opened, bound, started, reported, taken, finished, closed, done, once_where}
use Rattle.nio_group.specs.Stages.{is_pending}
use Rattle.nio_future.specs.Desk.{DeskState, empty_desk, is_out}
use Rattle.nio_future.specs.Steps.{after_cancel, after_poll, after_start, answer_to_poll, by_group, start_refusal}
use Rattle.nio_future.specs.Steps.{ticket_of}
use Rattle.nio_future.specs.declared.ticket.Polled.{Polled}
use Rattle.nio_future.specs.declared.ticket.Polled.TheVariants.{Ready, NotYet}

pub data Call : Type 0 where
  -- a call that the group has too
  ask : group.Call → Call
  -- the ticket of this operation is polled
  poll : ℕ → Call
  -- the ticket of this operation is cancelled
  cancel : ℕ → Call

-- the desk takes and finishes completions itself; the other calls name channels that were made
abbrev pub IsAskOf : Group → group.Call → Type 0
IsAskOf g (open_channel kind) = Unit {0}
IsAskOf g (bind chan) = IsMade g chan
IsAskOf g (start chan kind len) = IsMade g chan
IsAskOf g (report op outcome) = Unit {0}
IsAskOf g take = ⊥
IsAskOf g (finish op) = ⊥
IsAskOf g (close_channel chan) = IsMade g chan
IsAskOf g shutdown = Unit {0}
IsAskOf g shutdown_now = Unit {0}

-- a ticket that is polled or cancelled is out
abbrev pub IsCallOf : DeskState → Call → Type 0
IsCallOf d (ask call) = IsAskOf d.group call
IsCallOf d (poll n) = IsTrue (is_out d n)
IsCallOf d (cancel n) = IsTrue (is_out d n)

abbrev pub after_ask : DeskState → group.Call → DeskState
after_ask d (open_channel kind) = by_group d (open_channel kind)
after_ask d (bind chan) = by_group d (bind chan)
after_ask d (start chan kind len) = after_start d chan kind len
after_ask d (report op outcome) = by_group d (report op outcome)
after_ask d take = d
after_ask d (finish op) = d
after_ask d (close_channel chan) = by_group d (close_channel chan)
after_ask d shutdown = by_group d shutdown
after_ask d shutdown_now = by_group d shutdown_now

abbrev pub after : DeskState → Call → DeskState
after d (ask call) = after_ask d call
after d (poll n) = after_poll d n
after d (cancel n) = after_cancel d n

-- a run: each call names channels that were made, or a ticket that is out, by then
abbrev pub IsRunOf : DeskState → List Call → Type 0
IsRunOf d [] = Unit {0}
IsRunOf d (call ∷ calls) = IsCallOf d call × IsRunOf (after d call) calls

-- the desk after a run
abbrev pub left_by : DeskState → List Call → DeskState
left_by d [] = d
left_by d (call ∷ calls) = left_by (after d call) calls

-- ---- the calls of the group below a run

-- each completion that is listed is taken, and its operation finished
abbrev pub takes_of : List ℕ → List group.Call
takes_of [] = []
takes_of (n ∷ rest) = take ∷ finish (record { 0 = n }) ∷ takes_of rest

-- a call, and then each completion that it leaves in the queue
abbrev pub with_takes : Group → group.Call → List group.Call
with_takes g call = call ∷ takes_of (group.after g call).flight.queue

abbrev pub if_allowed : Option StartError → List group.Call → List group.Call
if_allowed None calls = calls
if_allowed (Some e) calls = []

-- a `start` that the desk refuses doesn't come to the group
abbrev pub below_ask : DeskState → group.Call → List group.Call
below_ask d (open_channel kind) = with_takes d.group (open_channel kind)
below_ask d (bind chan) = with_takes d.group (bind chan)
below_ask d (start chan kind len) =
    if_allowed (start_refusal d chan kind) (with_takes d.group (start chan kind len))
below_ask d (report op outcome) = with_takes d.group (report op outcome)
below_ask d take = []
below_ask d (finish op) = []
below_ask d (close_channel chan) = with_takes d.group (close_channel chan)
below_ask d shutdown = with_takes d.group shutdown
below_ask d shutdown_now = with_takes d.group shutdown_now

-- cancelling a pending operation closes its channel
abbrev pub below_cancel : Group → Option Operation → List group.Call
below_cancel g None = []
below_cancel g (Some op) = if is_pending (Some op) then with_takes g (close_channel op.chan) else []

abbrev pub below_call : DeskState → Call → List group.Call
below_call d (ask call) = below_ask d call
below_call d (poll n) = []
below_call d (cancel n) = below_cancel d.group (op_at d.group.flight n)

abbrev pub below : DeskState → List Call → List group.Call
below d [] = []
below d (call ∷ calls) = below_call d call ++ below (after d call) calls

-- the reply hands out the completion of this operation, with this result
abbrev pub GivesResult : ℕ → Finished → Reply → Type 0
GivesResult n result (opened answer) = ⊥
GivesResult n result (bound answer) = ⊥
GivesResult n result (started answer) = ⊥
GivesResult n result (reported answer) = ⊥
GivesResult n result (taken None) = ⊥
GivesResult n result (taken (Some completion)) = (completion.op.0 ≡ n) × (completion.finished ≡ result)
GivesResult n result (finished answer) = ⊥
GivesResult n result (closed was_open) = ⊥
GivesResult n result done = ⊥

-- some call of the run is answered so
abbrev pub IsTaken : ℕ → Finished → Group → List group.Call → Type 0
IsTaken n result g [] = ⊥
IsTaken n result g (call ∷ calls) =
    GivesResult n result (group.reply_to g call) ⊎ IsTaken n result (group.after g call) calls

-- ---- the law

abbrev pub ready_in : Polled → Option Finished
ready_in (Ready result) = Some result
ready_in (NotYet t) = None

-- what polling the ticket of this operation hands out now
abbrev pub handed : DeskState → ℕ → Option Finished
handed d n = ready_in (answer_to_poll d (ticket_of d n))

-- the call polls the ticket of this operation and is answered Ready
abbrev pub hands_out : ℕ → DeskState → Call → ℕ
hands_out n d (ask call) = 0
hands_out n d (poll m) = once_where (if m == n then is_some (handed d m) else false)
hands_out n d (cancel m) = 0

-- how often the ticket of this operation is answered Ready in a run
abbrev pub times_handed : ℕ → DeskState → List Call → ℕ
times_handed n d [] = 0
times_handed n d (call ∷ calls) = hands_out n d call + times_handed n (after d call) calls

-- what holds after this run, which leaves the desk `d` and makes these calls of the group below
pub record IsRight (limits : GroupLimits) (d : DeskState) (calls : List group.Call) : Type 0 where
  -- they are a run of the group from the empty one, and leave the desk's group
  pub run : group.IsRunOf (empty_group limits) calls
  pub is_below : group.left_by (empty_group limits) calls ≡ d.group
  -- what a ticket is handed is the result with which its operation's completion was taken there, once
  pub right : (n : ℕ) (result : Finished) → handed d n ≡ Some result → IsTaken n result (empty_group limits) calls
  pub one : (n : ℕ) → group.times_taken n (empty_group limits) calls ≤ 1
  -- a ticket that is out is answered NotYet only while its operation is pending
  pub waits : (n : ℕ) → IsTrue (is_out d n) → handed d n ≡ None → IsTrue (is_pending (op_at d.group.flight n))
  -- so never where the group has terminated
  pub ends : IsTrue (is_terminated d.group) → (n : ℕ) → IsTrue (is_out d n) → IsSome (handed d n)

-- in every run from the empty desk each ticket is handed its operation's one result, and at most once
abbrev pub TicketsAreRight : Type 0
TicketsAreRight =
    (limits : GroupLimits) (source : ℕ) (places : List ℕ) (calls : List Call) → IsFit limits
    → IsRunOf (empty_desk limits source places) calls
    → IsRight limits (left_by (empty_desk limits source places) calls)
    (below (empty_desk limits source places) calls)
    × ((n : ℕ) → times_handed n (empty_desk limits source places) calls ≤ 1)
