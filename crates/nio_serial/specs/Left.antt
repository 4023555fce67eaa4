-- What a serial history leaves: what is in progress by its calls, and what holds of the state.
use Rattle.std.specs.Prelude.{◌≡◌, ℕ, None, List, [], ◌∷◌, ◌++◌, ⊤, IsTrue, Some}
use Rattle.nio_base.specs.declared.limits.Limits.{Limits}
use Rattle.nio_base.specs.declared.numbers.CallerNo.{CallerNo}
use Rattle.nio_history.specs.Histories.{state_after, IsLegal}
use Rattle.nio_history.specs.Sets.{in_key_set}
use Rattle.nio_history.specs.State.{State}
use Rattle.nio_history.specs.declared.event.Event.{Event}
use Rattle.nio_orderly.specs.Made.{Made, after_calls, draw, table_call, waiting_call}
use Rattle.nio_orderly.specs.Orderly.{MadeBy, AreRunsBy, calls_of, IsSerial}
use Rattle.nio_plain.specs.Seq.Selections.{is_caller}
use Rattle.nio_serial.specs.Called.{IsNamedCall}
use Rattle.nio_serial.specs.Between.{IsBetween}
use Rattle.nio_serial.specs.Documented.{Progress}
use Rattle.nio_serial.specs.Lines.{with_selection, with_closing, own_selection}
use Rattle.nio_steps.specs.Names.{selector}
use Rattle.nio_steps.specs.Ongoing.{Ongoing, nothing_ongoing, Change, no_change, selection_begins, selection_goes_on}
use Rattle.nio_steps.specs.Ongoing.{selection_ends, selection_made, closing_begins, closing_ends, list_taken}
use Rattle.nio_steps.specs.TableCalls.{row_of, wait_row_of}

-- ---- what is in progress

-- what is in progress after a call of the caller that changes this of what the caller has in progress
abbrev pub progress_changed : Progress → CallerNo → Change → Progress
progress_changed now me no_change = now
progress_changed now me (selection_begins s x) = with_selection now s (Some (record { caller = me; selection = x }))
-- a told that goes on answers the selection that it was given, so nothing changes
progress_changed now me (selection_goes_on s x) = now
progress_changed now me (selection_ends s) = with_selection now s None
progress_changed now me (selection_made s x) = with_selection now s None
progress_changed now me (closing_begins s) = with_closing now s (Some me)
progress_changed now me (closing_ends s) = with_closing now s None
-- the list of a selector is no part of it
progress_changed now me (list_taken s) = now

-- What is in progress after this call of the caller. The pipes and the group of a script are made and used by lines:
-- no call of a history is on them.
abbrev pub after_made : Progress → CallerNo → Made → Progress
after_made now me (draw n) = now
after_made now me (table_call call answer) = progress_changed now me ((row_of call).change answer)
after_made now me (waiting_call call answer) = progress_changed now me ((wait_row_of call).change answer)

-- what is in progress after these calls
abbrev pub in_progress : Progress → List MadeBy → Progress
in_progress now [] = now
in_progress now (made ∷ later) = in_progress (after_made now made.caller made.call) later

-- what caller n has in progress is what the progress shows of it
pub record IsOngoing (n : CallerNo) (now : Progress) (ongoing : Ongoing) : Type 0 where
  pub selection : (s : ℕ) → ongoing.selection s ≡ own_selection now n (selector s)
  pub closes : (s : ℕ) → ongoing.closes s ≡ is_caller n (now.closing s)

-- ---- serial histories

-- each call names what is there when it is made
abbrev pub AreNamed : (l : Limits) (past : List Event) (made : List MadeBy) (events : List Event)
    → AreRunsBy l made events → Type 0
AreNamed l past [] events runs = ⊤
AreNamed l past (one ∷ later) events runs =
    IsNamedCall l (state_after past) one × AreNamed l (past ++ runs.first) later runs.second runs.is_second

-- A legal serial history, whose calls name what is there: a call is given the selectors, channels and keys that
-- earlier calls answered with.
pub record IsSequence (l : Limits) (events : List Event) (made : List MadeBy) : Type 0 where
  pub legal : IsLegal l events
  pub serial : IsSerial l events made
  pub named : AreNamed l [] made events serial.runs

-- each key of a key set is enrolled for its channel
abbrev pub AreEnrolled : State → Type 0
AreEnrolled st = (s i : ℕ) → IsTrue (in_key_set (st.key s i))
    → st.enrolled (st.key s i).chan.0 s ≡ Some (record { index = i; serial = (st.key s i).serial })

-- What it leaves: a state between two calls, with what its calls left in progress, for each of its callers.
pub record IsLeftBy (l : Limits) (events : List Event) (made : List MadeBy) (now : Progress) : Type 0 where
  -- nobody holds a channel, has a pin or uses an index; the high-water marks are exact; a turn is that of a selection
  -- in progress, and a selector that is shut and not yet closed is that of a closing in progress
  pub between : IsBetween l (state_after events) now
  pub enrolled : AreEnrolled (state_after events)
  pub ongoing : (n : CallerNo) → IsOngoing n now (after_calls nothing_ongoing (calls_of n made))
