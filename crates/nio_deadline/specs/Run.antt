-- The calls that change a group with time limits, one timed step for each, runs of them, and their laws.
use Rattle.std.specs.Prelude.{◌≡◌, ◌≢◌, ℕ, ◌+◌, ◌<◌, ◌≤◌, ◌↔◌, ◌==◌, Bool, false, not, ◌&&◌, List, [], ◌∷◌, ◌++◌}
use Rattle.std.specs.Prelude.{Option, Some, None, Result, Ok, IsTrue}
use Rattle.nio_base.specs.declared.numbers.OpNo.{OpNo}
use Rattle.nio_base.specs.declared.numbers.GChan.{GChan}
use Rattle.nio_base.specs.declared.group.GKind.{GKind}
use Rattle.nio_base.specs.declared.group.OpKind.{OpKind}
use Rattle.nio_base.specs.declared.group.Outcome.{Outcome}
use Rattle.nio_group.specs.declared.limits.GroupLimits.{GroupLimits}
use Rattle.nio_group.specs.declared.refusal.StartError.{StartError}
use Rattle.nio_group.specs.declared.refusal.ReportError.{ReportError}
use Rattle.nio_group.specs.declared.refusal.NotRunning.{NotRunning}
use Rattle.nio_group.specs.Flight.{op_at, accepted}
use Rattle.nio_group.specs.Group.{IsMade, is_open, is_terminated}
use Rattle.nio_group.specs.Run.{has_completed, has_ended, once_where}
use Rattle.nio_group.specs.Stages.{is_pending}
use Rattle.nio_group.specs.Steps as group
use Rattle.nio_deadline.specs.Steps.{answer_to_start, after_start, answer_to_expire, after_expire, answer_to_take}
use Rattle.nio_deadline.specs.Steps.{after_take}
use Rattle.nio_deadline.specs.Timed.{Timed, IsLawful, empty_timed, with_group}
use Rattle.nio_deadline.specs.declared.done.TimedDone.{TimedDone}
use Rattle.nio_deadline.specs.declared.done.TimedResult.TheVariants.{InterruptedByTimeout}
use Rattle.nio_deadline.specs.declared.refusal.TimedError.{TimedError}

pub data Call : Type 0 where
  open_channel : GKind → Call
  bind : GChan → Call
  -- a channel, a kind, a length, the moment now, and a limit
  start_timed : GChan → OpKind → ℕ → ℕ → ℕ → Call
  report : OpNo → Outcome → Call
  expire : ℕ → Call
  take : Call
  finish : OpNo → Call
  close_channel : GChan → Call
  shutdown : Call
  shutdown_now : Call

pub data Reply : Type 0 where
  opened : Result GChan StartError → Reply
  bound : Result Unit StartError → Reply
  started : Result OpNo TimedError → Reply
  reported : Result Unit ReportError → Reply
  expired : ℕ → Reply
  taken : Option TimedDone → Reply
  finished : Result Unit NotRunning → Reply
  closed : Bool → Reply
  done : Reply

-- a call names channels that were made
abbrev pub IsCallOf : Timed → Call → Type 0
IsCallOf t (open_channel kind) = Unit {0}
IsCallOf t (bind chan) = IsMade t.group chan
IsCallOf t (start_timed chan kind len now limit) = IsMade t.group chan
IsCallOf t (report op outcome) = Unit {0}
IsCallOf t (expire now) = Unit {0}
IsCallOf t take = Unit {0}
IsCallOf t (finish op) = Unit {0}
IsCallOf t (close_channel chan) = IsMade t.group chan
IsCallOf t shutdown = Unit {0}
IsCallOf t shutdown_now = Unit {0}

abbrev pub reply_to : Timed → Call → Reply
reply_to t (open_channel kind) = opened (group.answer_to_open t.group kind)
reply_to t (bind chan) = bound (group.answer_to_bind t.group chan)
reply_to t (start_timed chan kind len now limit) = started (answer_to_start t chan kind now limit)
reply_to t (report op outcome) = reported (group.answer_to_report t.group op.0 outcome)
reply_to t (expire now) = expired (answer_to_expire t now)
reply_to t take = taken (answer_to_take t)
reply_to t (finish op) = finished (group.answer_to_finish t.group op.0)
reply_to t (close_channel chan) = closed (is_open t.group chan)
reply_to t shutdown = done
reply_to t shutdown_now = done

abbrev pub after : Timed → Call → Timed
after t (open_channel kind) = with_group t (group.after_open t.group kind)
after t (bind chan) = with_group t (group.after_bind t.group chan)
after t (start_timed chan kind len now limit) = after_start t chan kind len now limit
after t (report op outcome) = with_group t (group.after_report t.group op.0 outcome)
after t (expire now) = after_expire t now
after t take = after_take t
after t (finish op) = with_group t (group.after_finish t.group op.0)
after t (close_channel chan) = with_group t (group.after_close t.group chan)
after t shutdown = with_group t (group.after_shutdown t.group)
after t shutdown_now = with_group t (group.after_shutdown_now t.group)

-- the timed step: this call has this reply and leaves this state
pub record IsStep (t : Timed) (call : Call) (reply : Reply) (left : Timed) : Type 0 where
  pub answers : reply ≡ reply_to t call
  pub leaves : left ≡ after t call

-- for each lawful state and call there is one reply and one next state, and that state is lawful
pub record IsOneStep (t : Timed) (call : Call) : Type 0 where
  pub reply : Reply
  pub left : Timed
  pub step : IsStep t call reply left
  pub lawful : IsLawful left
  pub only : (reply' : Reply) (left' : Timed) → IsStep t call reply' left' → (reply' ≡ reply) × (left' ≡ left)

abbrev pub StepsAreLawful : Type 0
StepsAreLawful = (t : Timed) (call : Call) → IsLawful t → IsCallOf t call → IsOneStep t call

-- a run: each call names channels that were made by then
abbrev pub IsRunOf : Timed → List Call → Type 0
IsRunOf t [] = Unit {0}
IsRunOf t (call ∷ calls) = IsCallOf t call × IsRunOf (after t call) calls

-- the state after a run
abbrev pub left_by : Timed → List Call → Timed
left_by t [] = t
left_by t (call ∷ calls) = left_by (after t call) calls

-- the operation is pending after these calls
abbrev pub IsPendingAfter : Timed → List Call → ℕ → Type 0
IsPendingAfter t calls n = IsTrue (is_pending (op_at (left_by t calls).group.flight n))

-- The operation times out in a run: a `start_timed` with a moment and a limit started it, and a later `expire`, at which
-- it was pending, had a moment of at least their sum.
pub record TimesOut (n : ℕ) (t : Timed) (calls : List Call) : Type 0 where
  pub before : List Call
  pub chan : GChan
  pub kind : OpKind
  pub len : ℕ
  pub now : ℕ
  pub limit : ℕ
  pub between : List Call
  pub moment : ℕ
  pub later : List Call
  pub are : calls ≡ before ++ start_timed chan kind len now limit ∷ between ++ expire moment ∷ later
  pub has_limit : limit ≢ 0
  pub starts : answer_to_start (left_by t before) chan kind now limit ≡ Ok (record { 0 = n })
  pub pending : IsPendingAfter t (before ++ start_timed chan kind len now limit ∷ between) n
  pub has_come : now + limit ≤ moment

-- in every run an operation completes with InterruptedByTimeout exactly where it times out: after any list of calls that
-- is what the next completion to be taken says
abbrev pub TimesOutExactly : Type 0
TimesOutExactly =
    (limits : GroupLimits) (calls : List Call) (done : TimedDone) → IsRunOf (empty_timed limits) calls
    → answer_to_take (left_by (empty_timed limits) calls) ≡ Some done
    → (done.result ≡ InterruptedByTimeout) ↔ TimesOut done.op.0 (empty_timed limits) calls

-- the reply is the completion of this operation, with a result or a timeout
abbrev pub hands_out : ℕ → Reply → Bool
hands_out n (opened answer) = false
hands_out n (bound answer) = false
hands_out n (started answer) = false
hands_out n (reported answer) = false
hands_out n (expired count) = false
hands_out n (taken None) = false
hands_out n (taken (Some handed)) = handed.op.0 == n
hands_out n (finished answer) = false
hands_out n (closed was_open) = false
hands_out n done = false

-- how often the completion of this operation is taken in a run
abbrev pub times_taken : ℕ → Timed → List Call → ℕ
times_taken n t [] = 0
times_taken n t (call ∷ calls) = once_where (hands_out n (reply_to t call)) + times_taken n (after t call) calls

-- in a run from a lawful group the completion of each operation is taken at most once
abbrev pub TakesOnce : Type 0
TakesOnce = (t : Timed) (calls : List Call) (n : ℕ) → IsLawful t → IsRunOf t calls → times_taken n t calls ≤ 1

-- how often an operation completes in a run
abbrev pub completions : ℕ → Timed → List Call → ℕ
completions n t [] = 0
completions n t (call ∷ calls) =
    once_where (has_completed (after t call).group n && not (has_completed t.group n))
    + completions n (after t call) calls

-- in every run each operation that was accepted and isn't pending has completed once, and no other has completed
abbrev pub CompletesOnce : Type 0
CompletesOnce =
    (limits : GroupLimits) (calls : List Call) (n : ℕ) → IsRunOf (empty_timed limits) calls
    → completions n (empty_timed limits) calls ≡ once_where (has_completed (left_by
    (empty_timed limits) calls).group n)

-- an operation is never lost: where the group has terminated each accepted operation has ended
abbrev pub LosesNone : Type 0
LosesNone =
    (limits : GroupLimits) (calls : List Call) (n : ℕ) → IsRunOf (empty_timed limits) calls
    → IsTrue (is_terminated (left_by (empty_timed limits) calls).group)
    → n < accepted (left_by (empty_timed limits) calls).group.flight
    → IsTrue (has_ended (left_by (empty_timed limits) calls).group n)
