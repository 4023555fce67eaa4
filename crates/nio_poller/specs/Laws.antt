-- What follows from what a whole selection promises.
use Rattle.std.specs.Prelude.{ℕ, ◌-◌, IsFalse, Option, Result, List, length, take}
use Rattle.std.specs.List.{All}
use Rattle.nio_base.specs.declared.numbers.CallerNo.{CallerNo}
use Rattle.nio_base.specs.declared.numbers.ChanNo.{ChanNo}
use Rattle.nio_history.specs.PassViews.{PassView}
use Rattle.nio_history.specs.declared.found.Mode.{Mode}
use Rattle.nio_select.specs.InHand.{HeldSelector}
use Rattle.nio_steps.specs.SelectCalls.{SelectReply, selected, not_begun, left}
use Rattle.nio_steps.specs.declared.selected.Selected.{Selected}
use Rattle.nio_poller.specs.Polled.{Polled}
use Rattle.nio_poller.specs.Selecting.{SelectToldClause, looked_by, polls_of}
use Rattle.nio_poller.specs.Until.{tells_some}
use Rattle.nio_poller.specs.declared.selecting.SelectError.{SelectError}

-- the polls after which the selection went on: all that answered but the one that ended it
abbrev pub went_on_after : SelectReply → List Polled → List Polled
went_on_after (selected answer) polls = take (length polls - 1) polls
went_on_after (not_begun refusal) polls = polls
went_on_after left polls = polls

-- A selection that ends once anything was told went on only after polls that told nothing of what they asked for.
abbrev pub GoesOnUntold : Type 0
GoesOnUntold =
    (me : CallerNo) (mode : Mode) (selector_old selector_new : HeldSelector) (old new : PassView)
    (polls_old polls_new : Option (List Polled)) (ready : ChanNo → ℕ) (result : Result Selected SelectError)
    (clause : SelectToldClause me mode selector_old selector_new old new polls_old polls_new ready result)
    → All (λ polled. IsFalse (tells_some polled.asked polled.answer.pairs))
    (went_on_after clause.reply (polls_of (looked_by clause.call.shape.middle) mode clause.polls))
