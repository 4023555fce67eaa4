-- Which poll a board's selection makes, and that the selection is told its answer.
use Rattle.std.specs.Prelude.{◌≡◌, ℕ, Option, None, Some, Result, List, [], ◌∷◌, map}
use Rattle.nio_base.specs.declared.numbers.ChanNo.{ChanNo}
use Rattle.nio_history.specs.declared.found.Mode.{Mode}
use Rattle.nio_orderly.specs.Made.{Made}
use Rattle.nio_orderly.specs.Orderly.{Parts}
use Rattle.nio_poller.specs.Polled.{Polled}
use Rattle.nio_poller.specs.Polls.{AddsPoll, told_of_channel}
use Rattle.nio_poller.specs.Selecting.{AddsPolls, MarksAllReady}
use Rattle.nio_poller.specs.declared.poller.PollError.{PollError}
use Rattle.nio_poller.specs.declared.poller.PollError.TheVariants.{Memory}
use Rattle.nio_select.specs.Asked.{renumbered_key}
use Rattle.nio_select.specs.InHand.{HeldSelector}
use Rattle.nio_select.specs.declared.told.Told.{Told}
use Rattle.nio_board.specs.Board.{BoardView, ListsTold, selector_of}
use Rattle.nio_board.specs.BoardCalls.{BeginsSelection, FailsToBegin, HasMade, LeavesSelection, TellsPoll}
use Rattle.nio_board.specs.Called.{board_channel}
use Rattle.nio_board.specs.declared.deal.Deal.{Deal}
use Rattle.nio_steps.specs.SelectCalls.{Selection, Poll}
use Rattle.nio_steps.specs.declared.looked.LookedKey.{LookedKey}

-- ---- one poll

-- a poll was made for these keys, in a mode that the way chose
pub record AddsPollFor (before now : Option (List Polled)) (asked : List LookedKey) (result : Result Told PollError)
    : Type 0 where
  pub mode : Mode
  pub adds : AddsPoll before now asked mode result

-- One poll was made for these keys, and answered so. Where the net shows its polls, this one was added; and the net's
-- channels are ready for what it told.
pub record HasPolled (asked : List LookedKey) (answer : Poll) (before now : Option (List Polled))
    (ready : ChanNo → ℕ) : Type 0 where
  pub mode : Mode
  pub adds : AddsPolls before now (record { asked = asked; mode = mode; answer = answer } ∷ [])
  pub told : (c : ChanNo) → ready c ≡ told_of_channel asked answer.pairs c

-- why there is nothing to tell of a poll for these keys: none answered, or there was no memory to list what it told
pub data FailsToPoll (asked : List LookedKey) (before now : Option (List Polled)) (ready : ChanNo → ℕ)
    : PollError → Type 0 where
  no_answer : (error : PollError) → now ≡ before → FailsToPoll asked before now ready error
  not_listed : (answer : Poll) → HasPolled asked answer before now ready → FailsToPoll asked before now ready Memory

-- the keys of a selection, with their channels as the board numbers them
abbrev pub asked_by : Option Deal → List LookedKey → List LookedKey
asked_by None keys = keys
asked_by (Some deal) keys = map (renumbered_key (board_channel deal)) keys

-- ---- one selection

-- the caller begins a selection, and tells it this answer of a poll
abbrev pub SelectsBy : HeldSelector → Selection → Poll → List Made → Type 0
SelectsBy s selection answer = Parts (BeginsSelection s selection) (TellsPoll selection answer)

-- the caller begins a selection, and leaves it
abbrev pub BeginsAndLeaves : HeldSelector → Selection → List Made → Type 0
BeginsAndLeaves s selection = Parts (BeginsSelection s selection) (LeavesSelection selection)

-- The board's caller made a selection, with one poll for its keys, whose answer the selection was told. So it marks
-- keys only with operations for which that poll told their channels ready. `listed` has what the poll told.
pub record SelectsOnce (before now : BoardView) (polls_before polls_now : Option (List Polled)) (ready : ChanNo → ℕ)
    (listed : List (ChanNo × ℕ)) : Type 0 where
  pub selection : Selection
  pub answer : Poll
  pub polled : HasPolled (asked_by before.deal selection.looked) answer polls_before polls_now ready
  pub calls : HasMade before now (SelectsBy (selector_of before) selection answer)
  pub marks : MarksAllReady ready (asked_by before.deal selection.looked) calls.made.acts
  pub lists : ListsTold (asked_by before.deal selection.looked) answer.pairs listed

-- why a selection has no answer; no poll is made for one that isn't begun
pub data FailsToSelect (before now : BoardView) (polls_before polls_now : Option (List Polled)) (ready : ChanNo → ℕ)
    : PollError → Type 0 where
  not_begun : HasMade before now (FailsToBegin (selector_of before)) → polls_now ≡ polls_before
      → FailsToSelect before now polls_before polls_now ready Memory
  not_polled : (selection : Selection) (error : PollError)
      → HasMade before now (BeginsAndLeaves (selector_of before) selection)
      → FailsToPoll (asked_by before.deal selection.looked) polls_before polls_now ready error
      → FailsToSelect before now polls_before polls_now ready error
