-- What a caller has in progress, as its pass has seen it; and what the calls answer, in the words of the plans.
use Rattle.std.specs.Prelude.{◌≡◌, ⊤, Option, IfSome, IsTrue, Result, Ok, Err}
use Rattle.nio_base.specs.declared.numbers.CallerNo.{CallerNo}
use Rattle.nio_base.specs.declared.numbers.SelNo.{SelNo}
use Rattle.nio_history.specs.Conditions.{IsSelector, has_list}
use Rattle.nio_history.specs.Histories.{mine}
use Rattle.nio_history.specs.PassViews.{PassView, HasSelector, known}
use Rattle.nio_steps.specs.SelectCalls.{Selection, Poll, ToldReply, done, again, ShutReply, closing, already_closed}
use Rattle.nio_steps.specs.SelectCalls.{FinishReply, closed, busy}
use Rattle.nio_steps.specs.Selections.{IsBegun, IsClosing}
use Rattle.nio_steps.specs.declared.refusal.BeginError.{BeginError}
use Rattle.nio_select.specs.Asked.{AreBelow}
use Rattle.nio_select.specs.InHand.{InHand, HeldList, HeldSelector, list_of, selection_of}
use Rattle.nio_select.specs.declared.list.Refused.{Refused}
use Rattle.nio_select.specs.declared.closing.Shutting.{Shutting}
use Rattle.nio_select.specs.declared.closing.Shutting.TheVariants as shutting
use Rattle.nio_select.specs.declared.closing.Finish.{Finish}
use Rattle.nio_select.specs.declared.closing.Finish.TheVariants as finish
use Rattle.nio_select.specs.declared.selecting.After.{After}
use Rattle.nio_select.specs.declared.selecting.After.TheVariants as after
use Rattle.nio_select.specs.declared.told.Told.{Told}

-- the caller has the list of the selector, which is made
pub record IsLister (pass : PassView) (me : CallerNo) (s : SelNo) : Type 0 where
  pub selector : HasSelector pass s
  pub had : IsTrue (has_list (known pass) me s)

-- the caller has the list of this selector, and the indexes of its keys are within the limits
pub record HasList (pass : PassView) (me : CallerNo) (list : HeldList) : Type 0 where
  pub lister : IsLister pass me list.selector
  pub below : AreBelow pass.limits.keys list.keys

-- the selector is made, and where the caller selects by its list it has that
pub record MaySelect (pass : PassView) (me : CallerNo) (selector : HeldSelector) : Type 0 where
  pub made : HasSelector pass selector.number
  pub had : IfSome selector.list (HasList pass me)

-- The caller began this selection, and has the selector's list where it goes by it. Since then it hasn't given the turn
-- back, and has neither marked nor removed a key there. The indexes of the looked keys are within the limits.
pub record Selects (pass : PassView) (me : CallerNo) (selection : Selection) : Type 0 where
  pub inside : IsSelector pass.limits selection.selector
  pub begun : IsBegun (mine me pass.seen) selection
  pub below : AreBelow pass.limits.keys selection.looked
  pub lister : IsTrue selection.listed → IsLister pass me selection.selector

-- what a beginning with the list answers
abbrev pub begun_or_refused : Result InHand Refused → Result Selection BeginError
begun_or_refused (Ok selecting) = Ok (selection_of selecting)
begun_or_refused (Err refused) = Err refused.error

-- the selection gave back the selector's list, where it went by it, and the caller has that
pub record GivesBack (pass : PassView) (me : CallerNo) (s : InHand) (list : Option HeldList) : Type 0 where
  pub back : list ≡ list_of s
  pub had : IfSome list (HasList pass me)

-- the caller shut the selector
pub record HasShut (pass : PassView) (me : CallerNo) (s : SelNo) : Type 0 where
  pub inside : IsSelector pass.limits s
  pub closing : IsClosing (mine me pass.seen) s

abbrev pub poll_of : Told → Poll
poll_of told = record { pairs = told.pairs.items; elapsed = told.elapsed }

abbrev pub told_reply : After → ToldReply
told_reply (after.Done answer list) = done answer
told_reply (after.Again selecting) = again (selection_of selecting)

abbrev pub shut_reply : Shutting → ShutReply
shut_reply (shutting.Closing s) = closing
shut_reply shutting.AlreadyClosed = already_closed

abbrev pub finish_reply : Finish → FinishReply
finish_reply finish.Closed = closed
finish_reply (finish.Busy s) = busy

-- where the selection is over: P of the list that is given back
abbrev pub IfDone : After → (Option HeldList → Type 0) → Type 0
IfDone (after.Done answer list) P = P list
IfDone (after.Again selecting) P = ⊤

-- where the selection goes on, or the closing was begun, or is still to be finished: P of it
abbrev pub IfAgain : After → (InHand → Type 0) → Type 0
IfAgain (after.Done answer list) P = ⊤
IfAgain (after.Again selecting) P = P selecting

abbrev pub IfClosing : Shutting → (SelNo → Type 0) → Type 0
IfClosing (shutting.Closing s) P = P s
IfClosing shutting.AlreadyClosed P = ⊤

abbrev pub IfBusy : Finish → (SelNo → Type 0) → Type 0
IfBusy finish.Closed P = ⊤
IfBusy (finish.Busy s) P = P s
