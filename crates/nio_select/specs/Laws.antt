-- Laws of the calls of a selection, as passes see them.
use Rattle.std.specs.Prelude.{◌≡◌, ℕ, ◌+◌, ◌*◌, ◌<◌, ◌≤◌, Ok, Err, Some, None, IsTrue, IsFalse, List, [], ◌∷◌}
use Rattle.nio_steps.specs.declared.looked.LookedKey.{LookedKey}
use Rattle.std.specs.Prelude.{Option}
use Rattle.std.specs.Prelude.{◌++◌, length, map}
use Rattle.std.specs.List.{All}
use mathlib.Core.List.{IsPrefix}
use Rattle.nio_base.specs.Limits.{IsFit}
use Rattle.nio_base.specs.declared.numbers.CallerNo.{CallerNo}
use Rattle.nio_base.specs.declared.numbers.SelNo.{SelNo}
use Rattle.nio_history.specs.Histories.{state_after, event_of, IsLegal}
use Rattle.nio_history.specs.OwnEvents.{has, count, gives_turn}
use Rattle.nio_history.specs.PassViews.{PassView, known, done_between}
use Rattle.nio_history.specs.Sets.{was_claimed, was_published, was_cancelled, was_removed, is_valid_key}
use Rattle.nio_history.specs.Turns.{removes_on, selects_on}
use Rattle.nio_history.specs.declared.act.Act.TheVariants.{TakeTurn, BeginLook, LookKeys}
use Rattle.nio_history.specs.declared.event.Event.{Event}
use Rattle.nio_history.specs.declared.found.GateWord.{GateWord}
use Rattle.nio_history.specs.declared.found.Mode.{Mode}
use Rattle.nio_steps.specs.Bound.{unselects, count_not_free}
use Rattle.nio_steps.specs.Calls.{CallClause}
use Rattle.nio_steps.specs.ChannelCalls.{words_below}
use Rattle.nio_steps.specs.Runs.{Completes}
use Rattle.nio_steps.specs.SelectCalls.{Selection, Begins, Poll, Tells, done, leave_plan, closed, try_finish_plan}
use Rattle.nio_steps.specs.declared.refusal.BeginError.{BeginError}
use Rattle.nio_steps.specs.declared.selected.Selected.{Selected}
use Rattle.nio_steps.specs.ListLaws.{count_taken, count_touched, count_told}
use Rattle.nio_steps.specs.Laws.{HasEntry}
use Rattle.nio_steps.specs.Lists.{KnowsList}
use Rattle.nio_select.specs.InHand.{HeldList}
use Rattle.nio_select.specs.InProgress.{HasList, Selects}

-- ---- cancelled keys

-- A key that was published and cancelled before a `try_begin` without the list that answers Ok with a bound above its
-- index is removed after it, and isn't in the looked list.
abbrev pub CancelledKeysAreGone : Type 0
CancelledKeysAreGone =
    (old new : PassView) (me : CallerNo) (s : SelNo) (mode : Mode) (selection : Selection) (i serial : ℕ)
    → CallClause me (Begins s mode None) old new (Ok selection)
    → IsTrue (was_published ((known old).key s.0 i) serial) → IsTrue (was_cancelled ((known old).key s.0 i) serial)
    → i < selection.bound
    → IsTrue (was_removed ((known new).key s.0 i) serial)
    × All (λ entry. ¬ ((entry.index ≡ i) × (entry.serial ≡ serial))) selection.looked

-- A key that was published before a `try_begin` without the list that answers Ok with a bound above its index, and is
-- valid when that returns, is on the looked list.
abbrev pub ValidKeysAreAsked : Type 0
ValidKeysAreAsked =
    (old new : PassView) (me : CallerNo) (s : SelNo) (mode : Mode) (selection : Selection) (i serial : ℕ)
    → CallClause me (Begins s mode None) old new (Ok selection)
    → IsTrue (was_published ((known old).key s.0 i) serial) → IsTrue (is_valid_key ((known new).key s.0 i) serial)
    → i < selection.bound
    → HasEntry selection.looked i serial

-- between two moments of a pass the caller found `mark` as the keys' high-water mark, when `past` had happened
pub record FindsHigh (me : CallerNo) (old new : PassView) (s : SelNo) (mark : ℕ) (past : List Event) : Type 0 where
  pub later : List Event
  pub parts : new.seen ≡ past ++ event_of me (LookKeys s mark) ∷ later
  pub after : IsPrefix old.seen past

-- After a `told` that ends a selection without the list each key is removed whose index is below the high-water mark that it found, and
-- that was published and cancelled before that look: also one that was registered since the selection began.
abbrev pub CancelledKeysAreGoneAtEnd : Type 0
CancelledKeysAreGoneAtEnd =
    (old new : PassView) (me : CallerNo) (selection : Selection) (poll : Poll) (answer : Selected)
    (mark i serial : ℕ) (past : List Event)
    → let s = selection.selector in
    IsFalse selection.listed → CallClause me (Tells selection poll) old new (done answer)
    → FindsHigh me old new s mark past
    → IsTrue (was_published ((state_after past).key s.0 i) serial)
    → IsTrue (was_cancelled ((state_after past).key s.0 i) serial) → i < mark
    → IsTrue (was_removed ((known new).key s.0 i) serial)

-- Each such call found a keys' high-water mark.
abbrev pub EndsFindHigh : Type 0
EndsFindHigh =
    (old new : PassView) (me : CallerNo) (selection : Selection) (poll : Poll) (answer : Selected)
    → CallClause me (Tells selection poll) old new (done answer)
    → (mark : ℕ) × (past : List Event) × FindsHigh me old new selection.selector mark past

-- The same of a `KeyList::begin` by the caller that knows the selector's list.
abbrev pub CancelledListedKeysAreGone : Type 0
CancelledListedKeysAreGone =
    (old new : PassView) (me : CallerNo) (s : SelNo) (mode : Mode) (list : List LookedKey) (selection : Selection)
    (i serial : ℕ)
    → KnowsList old.limits me old.seen s list → CallClause me (Begins s mode (Some list)) old new (Ok selection)
    → IsTrue (was_published ((known old).key s.0 i) serial) → IsTrue (was_cancelled ((known old).key s.0 i) serial)
    → i < selection.bound
    → IsTrue (was_removed ((known new).key s.0 i) serial)
    × All (λ entry. ¬ ((entry.index ≡ i) × (entry.serial ≡ serial))) selection.looked

-- The same of the valid keys.
abbrev pub ValidListedKeysAreAsked : Type 0
ValidListedKeysAreAsked =
    (old new : PassView) (me : CallerNo) (s : SelNo) (mode : Mode) (list : List LookedKey) (selection : Selection)
    (i serial : ℕ)
    → KnowsList old.limits me old.seen s list → CallClause me (Begins s mode (Some list)) old new (Ok selection)
    → IsTrue (was_published ((known old).key s.0 i) serial) → IsTrue (is_valid_key ((known new).key s.0 i) serial)
    → i < selection.bound
    → HasEntry selection.looked i serial

-- And of the `told` that ends such a selection, at whose start the caller knows its looked list as the selector's list.
abbrev pub CancelledListedKeysAreGoneAtEnd : Type 0
CancelledListedKeysAreGoneAtEnd =
    (old new : PassView) (me : CallerNo) (selection : Selection) (poll : Poll) (answer : Selected)
    (mark i serial : ℕ) (past : List Event)
    → let s = selection.selector in
    IsTrue selection.listed → Selects old me selection → KnowsList old.limits me old.seen s selection.looked
    → CallClause me (Tells selection poll) old new (done answer) → FindsHigh me old new s mark past
    → IsTrue (was_published ((state_after past).key s.0 i) serial)
    → IsTrue (was_cancelled ((state_after past).key s.0 i) serial) → i < mark
    → IsTrue (was_removed ((known new).key s.0 i) serial)

-- ---- who has a list

-- A caller has a list for good: whatever is done with the pass later.
abbrev pub ListsAreKept : Type 0
ListsAreKept =
    (old new : PassView) (me : CallerNo) (list : HeldList) → HasList old me list → new.limits ≡ old.limits
    → IsPrefix old.seen new.seen → IsLegal new.limits new.seen → HasList new me list

-- ---- how many steps a selection makes

-- A whole selection by two calls on a pass, with the selector's list `known`, or without it: the beginning answered Ok, and
-- the `told` ended the selection. Between the two the caller doesn't give the turn back and removes no key there.
pub record IsSelection (me : CallerNo) (before_begin after_begin before_told after_told : PassView)
    (known : Option (List LookedKey)) (selection : Selection) (poll : Poll) (answer : Selected) : Type 0 where
  pub begins : CallClause me (Begins selection.selector selection.mode known) before_begin after_begin (Ok selection)
  pub goes_on : IsPrefix after_begin.seen before_told.seen
  pub keeps_turn : IsFalse (has (gives_turn selection.selector.0) (done_between me after_begin before_told))
  pub keeps_keys : IsFalse (has (removes_on selection.selector.0) (done_between me after_begin before_told))
  pub tells : CallClause me (Tells selection poll) before_told after_told (done answer)

-- `window` is what happened, by any caller, between the look with which the selection begins and the look at the keys'
-- high-water mark at its end, which found `mark`: the first stands in the `try_begin`, and the second in the `told`.
pub record IsWindow (me : CallerNo) (before_begin after_begin before_told after_told : PassView) (s : SelNo) (mark : ℕ)
    (window : List Event) : Type 0 where
  pub past : List Event
  pub found : GateWord
  pub rest : List Event
  pub parts : after_told.seen ≡ past ++ event_of me (BeginLook s found)
      ∷ (window ++ event_of me (LookKeys s mark) ∷ rest)
  pub begins_after : IsPrefix before_begin.seen past
  pub begins_before : IsPrefix (past ++ event_of me (BeginLook s found) ∷ []) after_begin.seen
  pub ends_after : IsPrefix before_told.seen (past ++ event_of me (BeginLook s found) ∷ window)

-- The steps of the two calls are at most 9, one for each 64 indexes below the bound and below the mark, 4 for each index
-- below the bound that the `try_begin` found not free, 3 for each index below the mark that the `told` found not free,
-- and one for each time that anybody took a key below the bound out of the selected set in the window.
abbrev pub CallsAreBounded : Type 0
CallsAreBounded =
    (me : CallerNo) (before_begin after_begin before_told after_told : PassView) (selection : Selection) (poll : Poll)
    (answer : Selected) (mark : ℕ) (window : List Event)
    → IsFit after_told.limits → IsSelection me before_begin after_begin before_told after_told None selection poll answer
    → IsWindow me before_begin after_begin before_told after_told selection.selector mark window
    → let s = selection.selector in
    let bound = selection.bound in
    let in_begin = done_between me before_begin after_begin in
    let in_told = done_between me before_told after_told in
    length in_begin + length in_told
    ≤ 9 + words_below bound + words_below mark + 4 * count_not_free s bound in_begin + 3 * count_not_free s mark in_told
    + count (unselects s.0 bound) (map (λ e. e.act) window)

-- Those of a selection that goes by the selector's list are at most 9, two for each 64 indexes below the bound and one for each 64 below the mark, 4 for each index
-- whose bit the beginning took, 3 for each that the `told` found touched, 2 for each looked key of which the poller told
-- something, and one for each time that anybody took a key out of the selected set in the window.
abbrev pub ListedCallsAreBounded : Type 0
ListedCallsAreBounded =
    (me : CallerNo) (before_begin after_begin before_told after_told : PassView) (list : List LookedKey)
    (selection : Selection) (poll : Poll) (answer : Selected) (mark : ℕ) (window : List Event)
    → KnowsList after_told.limits me before_begin.seen selection.selector list
    → IsSelection me before_begin after_begin before_told after_told (Some list) selection poll answer
    → IsWindow me before_begin after_begin before_told after_told selection.selector mark window
    → let s = selection.selector in
    let words = words_below selection.bound in
    let words_at_end = words_below mark in
    let in_begin = done_between me before_begin after_begin in
    let in_told = done_between me before_told after_told in
    length in_begin + length in_told
    ≤ 9 + 2 * words + words_at_end + 4 * count_taken s words in_begin + 3 * count_touched s words_at_end in_told
    + 2 * count_told selection poll + count (unselects s.0 after_told.limits.keys) (map (λ e. e.act) window)

-- Each whole selection has such a window.
abbrev pub SelectionsHaveWindows : Type 0
SelectionsHaveWindows =
    (me : CallerNo) (before_begin after_begin before_told after_told : PassView) (selection : Selection) (poll : Poll)
    (answer : Selected) (known : Option (List LookedKey))
    → IsSelection me before_begin after_begin before_told after_told known selection poll answer
    → (mark : ℕ) × (window : List Event)
    × IsWindow me before_begin after_begin before_told after_told selection.selector mark window

-- ---- one selection at a time

-- Of what is seen while a caller selects, until it gives the turn back, all takings of the selector's touched bits, all
-- marks and removals of its keys and all ends of its wakeup are the caller's own.
abbrev pub SelectionsAreAlone : Type 0
SelectionsAreAlone =
    (old new : PassView) (me : CallerNo) (selection : Selection) (between : List Event) (e : Event) (later : List Event)
    → Selects old me selection → IsLegal old.limits new.seen → new.seen ≡ old.seen ++ (between ++ e ∷ later)
    → IsFalse (has (gives_turn selection.selector.0) (done_between me old new))
    → IsTrue (selects_on selection.selector.0 e.act) → e.caller ≡ me

-- ---- closing

-- After a `try_finish` that answers Closed each key is removed whose index is below the high-water mark that it found,
-- and that was claimed before that look.
abbrev pub ClosingsRemoveKeys : Type 0
ClosingsRemoveKeys =
    (old new : PassView) (me : CallerNo) (s : SelNo) (mark i serial : ℕ) (past : List Event)
    → CallClause me (Completes (try_finish_plan s)) old new closed → FindsHigh me old new s mark past
    → IsTrue (was_claimed ((state_after past).key s.0 i) serial) → i < mark
    → IsTrue (was_removed ((known new).key s.0 i) serial)

-- Each such call found a keys' high-water mark.
abbrev pub ClosingsFindHigh : Type 0
ClosingsFindHigh =
    (old new : PassView) (me : CallerNo) (s : SelNo) → CallClause me (Completes (try_finish_plan s)) old new closed
    → (mark : ℕ) × (past : List Event) × FindsHigh me old new s mark past

-- ---- the turn after a poll that failed, and after want of memory

-- The turn of the selector is free, and a wakeup that was pending when `past` had happened is pending still.
pub record IsGivenBack (past : List Event) (now : PassView) (s : SelNo) : Type 0 where
  pub free : (known now).turn s.0 ≡ None
  pub wakeup : IsTrue ((state_after past).gate s.0).woken → IsTrue ((known now).gate s.0).woken

-- When `leave` returns the turn is free, and a wakeup that was pending before the call is pending still.
abbrev pub LeavingGivesBack : Type 0
LeavingGivesBack =
    (old new : PassView) (me : CallerNo) (selection : Selection)
    → Selects old me selection → CallClause me (Completes (leave_plan selection)) old new tt
    → IsGivenBack old.seen new selection.selector

-- between two moments of a pass the caller took the turn of the selector, when `past` had happened
pub record TakesTurn (me : CallerNo) (old new : PassView) (s : SelNo) (past : List Event) : Type 0 where
  pub later : List Event
  pub parts : new.seen ≡ past ++ event_of me (TakeTurn s None) ∷ later
  pub after : IsPrefix old.seen past

-- A `try_begin` for which there is no memory took the turn. When it returns the turn is free, and a wakeup that was
-- pending when it took the turn is pending still.
abbrev pub NoMemoryGivesBack : Type 0
NoMemoryGivesBack =
    (old new : PassView) (me : CallerNo) (s : SelNo) (mode : Mode) (known : Option (List LookedKey))
    → CallClause me (Begins s mode known) old new (Err BeginError.Memory)
    → (past : List Event) × TakesTurn me old new s past × IsGivenBack past new s
