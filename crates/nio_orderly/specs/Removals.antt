-- What is removed in a legal and orderly history: a selection that has begun has removed the keys that were published
-- and cancelled before the call, and so has the end of a selection; and a closing that is over has removed those that
-- were published before it. Where a selection goes by a list, these laws ask that it is the selector's
-- and that its caller has it.
--
-- `before` is the history before a call; what the caller did after it is this call.
use Rattle.std.specs.Prelude.{◌≡◌, ℕ, ◌<◌, true, Option, Ok, IsTrue, IsOk, IfOk, List, ◌∷◌, ◌++◌}
use Rattle.std.specs.List.{All, Contains}
use Rattle.nio_base.specs.Limits.{IsFit}
use Rattle.nio_base.specs.declared.limits.Limits.{Limits}
use Rattle.nio_base.specs.declared.numbers.CallerNo.{CallerNo}
use Rattle.nio_base.specs.declared.numbers.SelNo.{SelNo}
use Rattle.nio_history.specs.Histories.{state_after, mine, event_of, IsLegal}
use Rattle.nio_history.specs.Sets.{was_claimed, was_published, was_cancelled, was_removed}
use Rattle.nio_history.specs.declared.act.Act.TheVariants.{LookKeys}
use Rattle.nio_history.specs.declared.event.Event.{Event}
use Rattle.nio_history.specs.declared.found.Mode.{Mode}
use Rattle.nio_orderly.specs.Lists.{KnowsGiven}
use Rattle.nio_orderly.specs.Made.{Made, IsRun, table_call, waiting_call}
use Rattle.nio_orderly.specs.Orderly.{IsOrderly}
use Rattle.nio_steps.specs.Lists.{KnowsList}
use Rattle.nio_steps.specs.SelectCalls.{Selection, Poll, done, SelectOutcome, closed}
use Rattle.nio_steps.specs.Selections.{IsBegun}
use Rattle.nio_steps.specs.TableCalls.{try_begin, told, try_finish, select, close}
use Rattle.nio_steps.specs.declared.looked.LookedKey.{LookedKey}
use Rattle.nio_steps.specs.declared.selected.Selected.{Selected}

-- In a legal and orderly history the caller made this call after `before`.
pub record MadeLast (l : Limits) (n : CallerNo) (before later : List Event) (call : Made) : Type 0 where
  pub fit : IsFit l
  pub legal : IsLegal l (before ++ later)
  pub orderly : IsOrderly l (before ++ later)
  pub runs : IsRun l call (mine n later)

-- ---- selections

-- `Selector.select`: "Each key in the cancelled-key set is removed from each key set of which it is a member". A key
-- that was published and cancelled before a `try_begin` that answers Ok is removed when the call returns, and isn't
-- among the keys that the selection looked at.
abbrev pub BeginRemovesCancelled : Type 0
BeginRemovesCancelled =
    (l : Limits) (n : CallerNo) (before later : List Event) (s : SelNo) (mode : Mode) (known : Option (List LookedKey))
    (selection : Selection) (i serial : ℕ)
    → MadeLast l n before later (table_call (try_begin s mode known) (Ok selection)) → KnowsGiven l n before s known
    → IsTrue (was_published ((state_after before).key s.0 i) serial)
    → IsTrue (was_cancelled ((state_after before).key s.0 i) serial)
    → IsTrue (was_removed ((state_after (before ++ later)).key s.0 i) serial)
    × All (λ entry. ¬ ((entry.index ≡ i) × (entry.serial ≡ serial))) selection.looked

-- A key that was published and cancelled before a `select` that begins is removed when the call returns, and isn't on
-- its looked list.
abbrev pub SelectRemovesCancelled : Type 0
SelectRemovesCancelled =
    (l : Limits) (n : CallerNo) (before later : List Event) (s : SelNo) (mode : Mode) (known : Option (List LookedKey))
    (polls : List Poll) (outcome : SelectOutcome) (i serial : ℕ)
    → MadeLast l n before later (waiting_call (select s mode known polls) outcome) → KnowsGiven l n before s known
    → IsOk outcome.begun
    → IsTrue (was_published ((state_after before).key s.0 i) serial)
    → IsTrue (was_cancelled ((state_after before).key s.0 i) serial)
    → IsTrue (was_removed ((state_after (before ++ later)).key s.0 i) serial)
    × IfOk outcome.begun (λ selection. All (λ entry. ¬ ((entry.index ≡ i) × (entry.serial ≡ serial))) selection.looked)

-- The selection is its caller's latest one on its selector, and what it looked at is the selector's list, which the
-- caller has.
pub record GoesByList (l : Limits) (n : CallerNo) (before : List Event) (selection : Selection) : Type 0 where
  pub begun : IsBegun (mine n before) selection
  pub knows : KnowsList l n before selection.selector selection.looked

-- "If any keys were added to the cancelled-key set while step (2) was in progress then they are processed as in step
-- (1)". A key that was published and cancelled before a `told` that ends a selection is removed when the call returns,
-- also one that was registered since the selection began.
abbrev pub ToldRemovesCancelled : Type 0
ToldRemovesCancelled =
    (l : Limits) (n : CallerNo) (before later : List Event) (selection : Selection) (poll : Poll) (answer : Selected)
    (i serial : ℕ)
    → MadeLast l n before later (table_call (told selection poll) (done answer))
    → (IsTrue selection.listed → GoesByList l n before selection)
    → IsTrue (was_published ((state_after before).key selection.selector.0 i) serial)
    → IsTrue (was_cancelled ((state_after before).key selection.selector.0 i) serial)
    → IsTrue (was_removed ((state_after (before ++ later)).key selection.selector.0 i) serial)

-- A looked key that was cancelled before such a `told` is removed when the call returns, whether the history is orderly
-- or not. Of a selection by the list its caller has to know the list.
abbrev pub ToldRemovesLooked : Type 0
ToldRemovesLooked =
    (l : Limits) (n : CallerNo) (before later : List Event) (selection : Selection) (poll : Poll) (answer : Selected)
    (entry : LookedKey)
    → IsLegal l (before ++ later) → IsBegun (mine n before) selection
    → (IsTrue selection.listed → KnowsList l n before selection.selector selection.looked)
    → IsRun l (table_call (told selection poll) (done answer)) (mine n later)
    → Contains selection.looked entry
    → IsTrue (was_cancelled ((state_after before).key selection.selector.0 entry.index) entry.serial)
    → IsTrue (was_removed ((state_after (before ++ later)).key selection.selector.0 entry.index) entry.serial)

-- ---- closings

-- A `close` that answers true looks at the selector's high-water mark. When it returns, each key that was claimed
-- before that look, at an index below the high-water mark, is removed, whether the history is orderly or not. `looked`
-- is what stands before the look.
abbrev pub CloseRemovesBelow : Type 0
CloseRemovesBelow =
    (l : Limits) (n : CallerNo) (before looked later : List Event) (s : SelNo) (mark i serial : ℕ)
    → let call = looked ++ event_of n (LookKeys s mark) ∷ later in
    IsLegal l (before ++ call) → IsRun l (waiting_call (close s) true) (mine n call)
    → IsTrue (was_claimed ((state_after (before ++ looked)).key s.0 i) serial) → i < mark
    → IsTrue (was_removed ((state_after (before ++ call)).key s.0 i) serial)

-- A key that was published before a `try_finish` that answers Closed is removed when the call returns.
abbrev pub FinishRemovesPublished : Type 0
FinishRemovesPublished =
    (l : Limits) (n : CallerNo) (before later : List Event) (s : SelNo) (i serial : ℕ)
    → MadeLast l n before later (table_call (try_finish s) closed)
    → IsTrue (was_published ((state_after before).key s.0 i) serial)
    → IsTrue (was_removed ((state_after (before ++ later)).key s.0 i) serial)

-- `Selector.close`: the keys that are "still associated with this selector" are removed. So is each key that was
-- published before a `close` that answers true, when the call returns.
abbrev pub CloseRemovesPublished : Type 0
CloseRemovesPublished =
    (l : Limits) (n : CallerNo) (before later : List Event) (s : SelNo) (i serial : ℕ)
    → MadeLast l n before later (waiting_call (close s) true)
    → IsTrue (was_published ((state_after before).key s.0 i) serial)
    → IsTrue (was_removed ((state_after (before ++ later)).key s.0 i) serial)
