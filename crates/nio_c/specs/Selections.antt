-- What the exports do that are on selections and closings in progress: the clauses of the caller's own calls, in one.
use Rattle.std.specs.Prelude.{◌≡◌, ◌↔◌, ℕ, ◌<◌, ◌≤◌, Bool, true, false, ◌&&◌, ◌||◌, if◌then◌else◌, Option, Some, None}
use Rattle.std.specs.Prelude.{◌-◌, ◌^◌, Result, Ok, Err, List, [], ◌++◌, drop, length, map, min, take}
use Rattle.std.specs.Prelude.{IfOk, IfSome, OnErr, option_map}
use Rattle.nio_base.specs.declared.numbers.SelNo.{SelNo}
use Rattle.nio_caller.specs.Callers.{Acting, closing, held, sees, selection}
use Rattle.nio_caller.specs.NamedCalls.{Gives, MayRefuse, OnSelector}
use Rattle.nio_caller.specs.Selections.{CallsOn, Finishes, HasBack, IsMade, Starts, TellsKept}
use Rattle.nio_caller.specs.Selections.{closing_after, closing_left, shut_says}
use Rattle.nio_caller.specs.declared.refusal.CallError.{CallError}
use Rattle.nio_caller.specs.declared.refusal.CallError.TheVariants.{NoSuchSelector}
use Rattle.nio_caller.specs.declared.refusal.NotClosing.{NotClosing}
use Rattle.nio_caller.specs.declared.refusal.NotSelecting.{NotSelecting}
use Rattle.nio_history.specs.PassViews.{done_between}
use Rattle.nio_history.specs.declared.found.Mode.{Mode}
use Rattle.nio_poller.specs.Until.{tells_some}
use Rattle.nio_select.specs.InHand.{InHand, TakesOnList, empty_list, known_by, list_of, selection_of}
use Rattle.nio_select.specs.KeyChanges.{changes_by}
use Rattle.nio_select.specs.declared.changes.KeyChange.{KeyChange}
use Rattle.nio_steps.specs.Runs.{Completes}
use Rattle.nio_steps.specs.SelectCalls.{Begins, Poll, leave_plan, shut_plan, take_list_plan}
use Rattle.nio_steps.specs.declared.looked.LookedKey.{LookedKey}
use Rattle.nio_steps.specs.declared.refusal.BeginError.{BeginError}
use Rattle.nio_steps.specs.declared.selected.Selected.{Selected}
use Rattle.nio_c.specs.Holding.{Holding}
use Rattle.nio_c.specs.Values.{as_changed, selection_of as as_selection}
use Rattle.nio_c.specs.declared.status.Status.{Status}
use Rattle.nio_c.specs.declared.status.Status.TheVariants as status
use Rattle.nio_c.specs.declared.values.Changed.{Changed}
use Rattle.nio_c.specs.declared.values.Selection.{Selection}

-- the caller takes the selector's list
pub record TakesList (s : SelNo) (old new : Acting) (taken : Bool) : Type 0 where
  pub call : CallsOn s (λ l. OnSelector l s false (Completes (take_list_plan s))) old new taken
  pub list : held new s ≡ (if taken then record { number = s; list = Some (empty_list s) } else held old s)
  pub progress : new.progress ≡ old.progress

-- it begins a selection, which is in progress then
pub record BeginsOn (s : SelNo) (mode : Mode) (old new : Acting) (answer : Result (Unit {0}) (CallError BeginError))
    : Type 0 where
  pub call : CallsOn s (λ l. OnSelector l s (Err NoSuchSelector)
      (MayRefuse (Starts (selection new s) (Begins s mode (known_by (held old s)))))) old new answer
  pub lent : IfOk answer (λ _. IfSome (selection new s) (λ x.
      (held new s ≡ record { number = s; list = None }) × TakesOnList (held old s) x))
  pub refused : OnErr answer ((held new s ≡ held old s) × (selection new s ≡ selection old s))
  pub closings : new.progress.closings ≡ old.progress.closings

-- the keys that its selection in progress asks for, where it has one
abbrev pub asked_in : Acting → SelNo → Option (List LookedKey)
asked_in caller s = option_map (λ (x : InHand). x.asked.keys) (selection caller s)

-- it shows them
pub record Asks (s : SelNo) (old new : Acting) (answer : Option (List LookedKey)) : Type 0 where
  pub same : new ≡ old
  pub keys : answer ≡ asked_in old s

-- it tells its selection in progress
pub record TellsOn (s : SelNo) (poll : Poll) (old new : Acting) (answer : Result (Option Selected) NotSelecting)
    : Type 0 where
  pub none : (answer ≡ Err (record {})) ↔ (selection old s ≡ None)
  pub nothing : OnErr answer (new ≡ old)
  pub call : IfSome (selection old s) (λ x. CallsOn s (λ _. TellsKept x poll) old new answer)
  pub goes_on : answer ≡ Ok None → (new.selectors ≡ old.selectors) × (selection new s ≡ selection old s)
  pub done : IfSome (selection old s) (λ x. IfOk answer (λ selected. IfSome selected (λ _.
      (selection new s ≡ None) × HasBack (list_of x) old.selectors new.selectors)))
  pub closings : new.progress.closings ≡ old.progress.closings

-- whether something was told of what a selection in progress asks for
abbrev pub tells_asked : Option (List LookedKey) → List (ℕ × ℕ) → Bool
tells_asked (Some keys) pairs = tells_some keys pairs
tells_asked None pairs = false

-- whether a selection that asks for these keys is told that its time is over: the poll says so, or it is enough that
-- something was told of the keys
abbrev pub is_over : (enough : Bool) → Option (List LookedKey) → Poll → Bool
is_over enough asked poll = poll.elapsed || (enough && tells_asked asked poll.pairs)

-- its selection in progress was told what a poll found, and there is room for as much from now on
pub record Tells (s : SelNo) (enough : Bool) (poll : Poll) (old new : Holding)
    (answer : Result (Option Selected) NotSelecting) : Type 0 where
  pub call : TellsOn s (record poll { elapsed = is_over enough (asked_in old.caller s) poll }) old.caller new.caller
      answer
  pub room : old.room ≤ new.room
  pub fits : length poll.pairs ≤ new.room
  pub visitor : new.visitor ≡ old.visitor

-- nothing was told: there was no memory for more than there was room for
pub record LacksMemory (poll : Poll) (old new : Holding) : Type 0 where
  pub same : new.caller ≡ old.caller
  pub room : old.room ≤ new.room
  pub more : old.room < length poll.pairs
  pub visitor : new.visitor ≡ old.visitor

-- it tells its selection in progress what a poll found, or lacks memory
abbrev pub TellsFound : SelNo → (enough : Bool) → Poll → Holding → Holding
    → Option (Result (Option Selected) NotSelecting) → Type 0
TellsFound s enough poll old new (Some answer) = Tells s enough poll old new answer
TellsFound s enough poll old new None = LacksMemory poll old new

-- what the caller's acts did to keys of the selector, where its selection in progress there was told
abbrev pub told_changes : Option (Result (Option Selected) NotSelecting) → Option InHand → Acting → Acting
    → List KeyChange
told_changes (Some (Ok selected)) (Some x) old new =
    changes_by x.asked.keys (done_between old.number (sees old) (sees new))
told_changes (Some (Ok selected)) None old new = []
told_changes (Some (Err error)) o old new = []
told_changes None o old new = []

-- what a call that tells and lists answers, and the changes that it lists
pub record ToldListing : Type 0 where
  pub answer : Option (Result (Option Selected) NotSelecting)
  pub changes : List KeyChange

-- it tells its selection in progress what a poll found, and lists what that does to keys; or lacks memory
pub record TellsListing (s : SelNo) (enough : Bool) (poll : Poll) (old new : Holding) (told : ToldListing) : Type 0 where
  pub tells : TellsFound s enough poll old new told.answer
  pub lists : told.changes ≡ told_changes told.answer (selection old.caller s) old.caller new.caller
  -- a selection that goes on has done nothing to keys
  pub again : told.answer ≡ Some (Ok None) → told.changes ≡ []

-- it gives the turn of its selection in progress back
pub record LeavesOn (s : SelNo) (old new : Acting) (answer : Result (Unit {0}) NotSelecting) : Type 0 where
  pub none : (answer ≡ Err (record {})) ↔ (selection old s ≡ None)
  pub nothing : OnErr answer (new ≡ old)
  pub call : IfSome (selection old s) (λ x.
      CallsOn s (λ _. IsMade (Completes (leave_plan (selection_of x)))) old new answer)
  pub back : IfSome (selection old s) (λ x. HasBack (list_of x) old.selectors new.selectors)
  pub over : selection new s ≡ None
  pub closings : new.progress.closings ≡ old.progress.closings

-- it begins to close the selector
pub record ShutsOn (s : SelNo) (old new : Acting) (answer : Option Bool) : Type 0 where
  pub call : CallsOn s (λ l. OnSelector l s None (Gives (Completes (shut_plan s))))
      old new (option_map shut_says answer)
  pub lists : new.selectors ≡ old.selectors
  pub selections : new.progress.selections ≡ old.progress.selections
  pub its : closing new s ≡ closing_after answer s (closing old s)

-- it tries to finish its closing in progress
pub record FinishesOn (s : SelNo) (old new : Acting) (answer : Result Bool NotClosing) : Type 0 where
  pub none : (answer ≡ Err (record {})) ↔ (closing old s ≡ None)
  pub nothing : OnErr answer (new ≡ old)
  pub call : IfSome (closing old s) (λ _. CallsOn s (λ _. Finishes s) old new answer)
  pub lists : new.selectors ≡ old.selectors
  pub selections : new.progress.selections ≡ old.progress.selections
  pub its : closing new s ≡ closing_left answer (closing old s)

-- ---- statuses

abbrev pub told_status : Option (Result (Option Selected) NotSelecting) → Status
told_status (Some (Ok (Some selected))) = status.Done
told_status (Some (Ok None)) = status.Again
told_status (Some (Err error)) = status.NotSelecting
told_status None = status.NoMemory

abbrev pub finish_status : Result Bool NotClosing → Status
finish_status (Ok true) = status.Done
finish_status (Ok false) = status.Busy
finish_status (Err error) = status.NotClosing

-- where the selection is over its answer is written
abbrev pub told_selection : Option (Result (Option Selected) NotSelecting) → Selection → Selection
told_selection (Some (Ok (Some selected))) before = as_selection selected
told_selection (Some (Ok None)) before = before
told_selection (Some (Err error)) before = before
told_selection None before = before

-- ---- what was done to keys

-- the count, where a selection was told
abbrev pub changes_count : Option (Result (Option Selected) NotSelecting) → ℕ → ℕ → ℕ
changes_count (Some (Ok selected)) count before = count
changes_count (Some (Err error)) count before = before
changes_count None count before = before

-- the changes were written at the front of the array, as many as there is room for, and it was written how many there
-- were
pub record WroteChanges (told : ToldListing) (before after : List Changed) (counted counts : ℕ) : Type 0 where
  pub array : after ≡ map as_changed (take (length before) told.changes) ++ drop (length told.changes) before
  pub count : counts ≡ changes_count told.answer (min (length told.changes) (2 ^ 64 - 1)) counted
