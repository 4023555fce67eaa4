-- What a whole selection promises: its steps, its polls, what it marks, and its answer.
use Rattle.std.specs.Prelude.{◌≡◌, ℕ, ◌==◌, false, not, ℤ, IsTrue, ◌⊎◌, Option, Some, None, Result, Ok, Err, List, []}
use Rattle.std.specs.Prelude.{◌∷◌, ◌++◌, map}
use Rattle.std.specs.List.{Contains}
use Rattle.nio_base.specs.declared.numbers.CallerNo.{CallerNo}
use Rattle.nio_base.specs.declared.numbers.ChanNo.{ChanNo}
use Rattle.nio_base.specs.declared.numbers.SelNo.{SelNo}
use Rattle.nio_history.specs.PassViews.{PassView, done_between}
use Rattle.nio_history.specs.Timeout.{mode_for}
use Rattle.nio_history.specs.declared.act.Act.{Act}
use Rattle.nio_history.specs.declared.act.Act.TheVariants.{Mark as MarkKey}
use Rattle.nio_history.specs.declared.found.Mark.{Mark as KeyMark}
use Rattle.nio_history.specs.declared.found.Mode.{Mode}
use Rattle.nio_history.specs.declared.found.Mode.TheVariants.{Now as WithoutWaiting}
use Rattle.nio_history.specs.declared.timeout.NegativeTimeout.{NegativeTimeout as TooLow}
use Rattle.nio_steps.specs.Calls.{CallClause}
use Rattle.nio_select.specs.InHand.{HeldSelector, known_by, list_after}
use Rattle.nio_base.specs.Ops.{is_within}
use Rattle.nio_steps.specs.SelectCalls.{Selection, Poll, Begins, begin_finds_busy, SelectsRest, SelectReply, selected}
use Rattle.nio_steps.specs.SelectCalls.{not_begun, left}
use Rattle.nio_steps.specs.Waiting.{Retries, Then}
use Rattle.nio_steps.specs.declared.looked.LookedKey.{LookedKey}
use Rattle.nio_steps.specs.declared.refusal.BeginError.{BeginError}
use Rattle.nio_steps.specs.declared.refusal.BeginError.TheVariants as begin_error
use Rattle.nio_steps.specs.declared.selected.Selected.{Selected}
use Rattle.nio_poller.specs.Polled.{Polled}
use Rattle.nio_poller.specs.Until.{begun_with, told_enough}
use Rattle.nio_poller.specs.declared.selecting.SelectError.{SelectError}
use Rattle.nio_poller.specs.declared.selecting.SelectError.TheVariants.{NegativeTimeout, ClosedSelector, PollFault}
use Rattle.nio_poller.specs.declared.selecting.SelectError.TheVariants.{Memory}
use Rattle.nio_poller.specs.declared.until.Until.{Until}
use Rattle.nio_poller.specs.declared.until.Until.TheVariants as until

-- what the call answers where its steps reply this; a selection that begins again on Busy never ends with it
abbrev pub Answers : SelectReply → Result Selected SelectError → Type 0
Answers (selected answer) result = result ≡ Ok answer
Answers (not_begun begin_error.ClosedSelector) result = result ≡ Err ClosedSelector
Answers (not_begun begin_error.Busy) result = ⊥
Answers (not_begun begin_error.Memory) result = result ≡ Err Memory
Answers left result = (result ≡ Err PollFault) ⊎ (result ≡ Err Memory)

-- the keys that a selection asks for, and none where it didn't begin
abbrev pub looked_by : Result Selection BeginError → List LookedKey
looked_by (Ok selection) = selection.looked
looked_by (Err refusal) = []

-- where the poller shows its polls, the call added these, in order
abbrev pub AddsPolls : Option (List Polled) → Option (List Polled) → List Polled → Type 0
AddsPolls None now polls = now ≡ None
AddsPolls (Some before) now polls = now ≡ Some (before ++ polls)

-- The polls of a selection, by their answers. Each is asked for the keys of the selection. The first
-- doesn't wait, so that the selection looks at the table before it waits; each further one may wait as the mode says.
abbrev pub polls_of : List LookedKey → Mode → List Poll → List Polled
polls_of looked mode [] = []
polls_of looked mode (first ∷ later) =
    record { asked = looked; mode = WithoutWaiting; answer = first }
    ∷ map (λ (answer : Poll). record { asked = looked; mode = mode; answer = answer }) later

-- What a selection that ends once a key was updated is told of these answers. The first poll doesn't wait, so its
-- `elapsed` isn't passed on.
abbrev pub told_from : List Poll → List Poll
told_from [] = []
told_from (first ∷ later) = record first { elapsed = false } ∷ later

-- what the selection is told of the answers of its polls
abbrev pub told_until : Until → List LookedKey → Mode → List Poll → List Poll
told_until until.Updated looked mode polls = told_from polls
told_until until.Told looked mode polls = map told_enough (polls_of looked mode polls)

-- the steps of a whole selection that ends so, with these answers of its polls
abbrev pub SelectsBy : Until → SelNo → Mode → Option (List LookedKey) → List Poll → List Act → SelectReply → Type 0
SelectsBy ends s mode known polls =
    Then (Retries (Begins s (begun_with ends mode) known) begin_finds_busy)
    (λ begun. SelectsRest (told_until ends (looked_by begun) mode polls) begun)

-- a mark is of a looked key, with operations, at least one, that its channel is ready for
pub record MarksReady (ready : ChanNo → ℕ) (looked : List LookedKey) (i told : ℕ) : Type 0 where
  pub entry : LookedKey
  pub is_looked : Contains looked entry
  pub at_index : entry.index ≡ i
  pub bits : IsTrue (is_within told (ready entry.channel))
  pub some : IsTrue (not (told == 0))

-- each mark among these acts that succeeded is such a one
abbrev pub MarksAllReady : (ChanNo → ℕ) → List LookedKey → List Act → Type 0
MarksAllReady ready looked acts = (s : SelNo) (i told : ℕ) (from : KeyMark)
    → Contains acts (MarkKey s i from told (Ok tt)) → MarksReady ready looked i told

-- A whole selection of a caller on a pass, before and after, which ends so and whose polls may wait so, on this selector,
-- with a poller that shows these polls before and after, and after it that the channels are ready so.
pub record SelectsUntil (ends : Until) (me : CallerNo) (mode : Mode) (selector_old selector_new : HeldSelector)
    (old new : PassView) (polls_old polls_new : Option (List Polled)) (ready : ChanNo → ℕ)
    (result : Result Selected SelectError) : Type 0 where
  -- the answers of its polls
  pub polls : List Poll
  -- what the steps reply
  pub reply : SelectReply
  pub call : CallClause me (SelectsBy ends selector_old.number mode (known_by selector_old) polls) old new reply
  pub answers : Answers reply result
  pub adds : AddsPolls polls_old polls_new (polls_of (looked_by call.shape.middle) mode polls)
  pub marks : MarksAllReady ready (looked_by call.shape.middle) (done_between me old new)
  -- the selector's list, where the caller has it, is what the beginning made of it
  pub list : selector_new ≡ record selector_old { list = list_after selector_old.list call.shape.middle }

-- one that ends once a key was updated: its steps are those of `MakesSelection`
abbrev pub SelectClause : CallerNo → Mode → HeldSelector → HeldSelector → PassView → PassView → Option (List Polled)
    → Option (List Polled) → (ChanNo → ℕ) → Result Selected SelectError → Type 0
SelectClause = SelectsUntil until.Updated

-- one that ends once anything was told of what it looked for
abbrev pub SelectToldClause : CallerNo → Mode → HeldSelector → HeldSelector → PassView → PassView → Option (List Polled)
    → Option (List Polled) → (ChanNo → ℕ) → Result Selected SelectError → Type 0
SelectToldClause = SelectsUntil until.Told

-- nothing was done, and no poll was asked
pub record IsRefused (selector_old selector_new : HeldSelector) (old new : PassView)
    (polls_old polls_new : Option (List Polled)) (result : Result Selected SelectError) : Type 0 where
  pub same : new ≡ old
  pub same_list : selector_new ≡ selector_old
  pub unasked : polls_new ≡ polls_old
  pub answer : result ≡ Err NegativeTimeout

-- with this mode, or refused
abbrev pub TimedUntil : Until → Result Mode TooLow → CallerNo → HeldSelector → HeldSelector → PassView → PassView
    → Option (List Polled) → Option (List Polled) → (ChanNo → ℕ) → Result Selected SelectError → Type 0
TimedUntil ends (Ok mode) me selector_old selector_new old new polls_old polls_new ready result =
    SelectsUntil ends me mode selector_old selector_new old new polls_old polls_new ready result
TimedUntil ends (Err too_low) me selector_old selector_new old new polls_old polls_new ready result =
    IsRefused selector_old selector_new old new polls_old polls_new result

abbrev pub TimedBy : Result Mode TooLow → CallerNo → HeldSelector → HeldSelector → PassView → PassView
    → Option (List Polled) → Option (List Polled) → (ChanNo → ℕ) → Result Selected SelectError → Type 0
TimedBy = TimedUntil until.Updated

-- a whole selection for so many milliseconds
abbrev pub TimedClause : CallerNo → ℤ → HeldSelector → HeldSelector → PassView → PassView → Option (List Polled)
    → Option (List Polled) → (ChanNo → ℕ) → Result Selected SelectError → Type 0
TimedClause me ms = TimedBy (mode_for ms) me

-- the same of one that ends once anything was told
abbrev pub TimedToldClause : CallerNo → ℤ → HeldSelector → HeldSelector → PassView → PassView → Option (List Polled)
    → Option (List Polled) → (ChanNo → ℕ) → Result Selected SelectError → Type 0
TimedToldClause me ms = TimedUntil until.Told (mode_for ms) me
