-- The parts of a whole selection after its beginning.
use Rattle.std.specs.Prelude.{◌≡◌, ℕ, Bool, Option, Result, Ok, Err, List, [], ◌∷◌}
use Rattle.nio_base.specs.declared.numbers.CallerNo.{CallerNo}
use Rattle.nio_base.specs.declared.numbers.ChanNo.{ChanNo}
use Rattle.nio_history.specs.PassViews.{PassView, done_between}
use Rattle.nio_select.specs.InProgress.{told_reply}
use Rattle.nio_select.specs.declared.selecting.After.{After}
use Rattle.nio_steps.specs.Calls.{CallClause}
use Rattle.nio_steps.specs.Runs.{Completes}
use Rattle.nio_steps.specs.SelectCalls.{Selection, Poll, Tells, SelectsRest, SelectReply, leave_plan}
use Rattle.nio_steps.specs.declared.selected.Selected.{Selected}
use Rattle.nio_poller.specs.Polled.{Polled}
use Rattle.nio_poller.specs.Polls.{told_of_channel}
use Rattle.nio_poller.specs.Selecting.{Answers, AddsPolls, MarksAllReady, polls_of, told_until}
use Rattle.nio_poller.specs.Until.{one_poll, told_one}
use Rattle.nio_poller.specs.declared.poller.PollError.{PollError}
use Rattle.nio_poller.specs.declared.poller.PollError.TheVariants as poll_error
use Rattle.nio_poller.specs.declared.poller.PollError.TheVariants.{Fault}
use Rattle.nio_poller.specs.declared.selecting.Left.{Left}
use Rattle.nio_poller.specs.declared.selecting.SelectError.TheVariants.{PollFault, Memory}
use Rattle.nio_poller.specs.declared.selecting.SelectError.{SelectError}
use Rattle.nio_poller.specs.declared.until.Waiting.{Waiting}

-- a poll answered, and the selection was told it
pub record TellsOne (me : CallerNo) (selection : Selection) (waiting : Waiting) (is_first : Bool) (old new : PassView)
    (polls_old polls_new : Option (List Polled)) (ready : ChanNo → ℕ) (after : After) : Type 0 where
  pub poll : Poll
  pub call : CallClause me
      (Tells selection (told_one waiting.until is_first (one_poll selection.looked waiting.mode is_first poll)))
      old new (told_reply after)
  pub adds : AddsPolls polls_old polls_new (one_poll selection.looked waiting.mode is_first poll ∷ [])
  pub ready_is : (c : ChanNo) → ready c ≡ told_of_channel selection.looked poll.pairs c

-- a poll failed, and the selection was left
pub record LeavesIt (me : CallerNo) (selection : Selection) (old new : PassView)
    (polls_old polls_new : Option (List Polled)) : Type 0 where
  pub call : CallClause me (Completes (leave_plan selection)) old new tt
  pub adds : AddsPolls polls_old polls_new []

abbrev pub PollsOnce : CallerNo → Selection → Waiting → (is_first : Bool) → PassView → PassView → Option (List Polled)
    → Option (List Polled) → (ChanNo → ℕ) → Result After Left → Type 0
PollsOnce me selection waiting is_first old new polls_old polls_new ready (Ok after) =
    TellsOne me selection waiting is_first old new polls_old polls_new ready after
PollsOnce me selection waiting is_first old new polls_old polls_new ready (Err it) =
    LeavesIt me selection old new polls_old polls_new

-- why the poll has no answer
abbrev pub error_in : Result After Left → Result After PollError
error_in (Ok after) = Ok after
error_in (Err it) = Err it.error

-- why the selection has no answer, where a poll has none
abbrev pub failed_with : PollError → SelectError
failed_with Fault = PollFault
failed_with poll_error.Memory = Memory

-- the selection was told of these answers of its polls, and is over or was left
pub record PollsClause (me : CallerNo) (selection : Selection) (waiting : Waiting) (old new : PassView)
    (polls_old polls_new : Option (List Polled)) (ready : ChanNo → ℕ)
    (result : Result Selected SelectError) : Type 0 where
  pub polls : List Poll
  pub reply : SelectReply
  pub call : CallClause me
      (SelectsRest (told_until waiting.until selection.looked waiting.mode polls) (Ok selection)) old new reply
  pub answers : Answers reply result
  pub adds : AddsPolls polls_old polls_new (polls_of selection.looked waiting.mode polls)
  pub marks : MarksAllReady ready selection.looked (done_between me old new)
