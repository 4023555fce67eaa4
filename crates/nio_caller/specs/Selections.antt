-- Selections of a caller, and closings: by the lists that it took, and by what it has in progress.
use Rattle.std.specs.Prelude.{◌≡◌, ◌≢◌, Bool, true, false, if◌then◌else◌, Option, Some, None, IsSomeAnd, Result, Ok, Err}
use Rattle.std.specs.Prelude.{List}
use Rattle.nio_base.specs.declared.limits.Limits.{Limits}
use Rattle.nio_base.specs.declared.numbers.SelNo.{SelNo}
use Rattle.nio_history.specs.PassViews.{PassView}
use Rattle.nio_history.specs.declared.act.Act.{Act}
use Rattle.nio_poller.specs.declared.selecting.SelectError.{SelectError}
use Rattle.nio_select.specs.InHand.{HeldList, HeldSelector, InHand, selection_of}
use Rattle.nio_steps.specs.Calls.{CallClause}
use Rattle.nio_steps.specs.Runs.{Completes}
use Rattle.nio_steps.specs.SelectCalls.{Poll, Selection, ShutReply, Tells, again, already_closed, busy, closed}
use Rattle.nio_steps.specs.SelectCalls.{closing as closing_begun, done, try_finish_plan}
use Rattle.nio_steps.specs.declared.selected.Selected.{Selected}
use Rattle.nio_words.specs.Passes.{limits_of}
use Rattle.nio_caller.specs.Callers.{Acting, IsSameCaller, closing, held, held_in, selection, sees}
use Rattle.nio_caller.specs.NamedCalls.{FindsSelector, IsCalled}
use Rattle.nio_caller.specs.declared.refusal.CallError.{CallError}
use Rattle.nio_caller.specs.declared.refusal.NotClosing.{NotClosing}
use Rattle.nio_caller.specs.declared.refusal.NotSelecting.{NotSelecting}
use Rattle.nio_caller.specs.declared.refusal.CallError.TheVariants.{NoSuchSelector}

-- the caller has of each other selector what it had: its list or none, and what is in progress there
pub record KeepsOthers (s : SelNo) (old new : Acting) : Type 0 where
  pub lists : (t : SelNo) → t ≢ s → held new t ≡ held old t
  pub selections : (t : SelNo) → t ≢ s → selection new t ≡ selection old t
  pub closings : (t : SelNo) → t ≢ s → closing new t ≡ closing old t

-- The caller made a call of this shape, which answered this, and may have changed what it has of this selector.
pub record CallsOn {R : Type 0} (s : SelNo) (Shape : Limits → List Act → R → Type 0) (old new : Acting) (answer : R)
    : Type 0 where
  pub same : IsSameCaller old new
  pub others : KeepsOthers s old new
  pub call : CallClause old.number (Shape (limits_of old.table)) (sees old) (sees new) answer

-- this list is back at its place, where there is one
abbrev pub HasBack : Option HeldList → List (Option HeldSelector) → List (Option HeldSelector) → Type 0
HasBack None old new = new ≡ old
HasBack (Some list) old new =
    (held_in new list.selector ≡ record { number = list.selector; list = Some list })
    × ((t : SelNo) → t ≢ list.selector → held_in new t ≡ held_in old t)

-- ---- selections in progress

-- the call that begins a selection, which the caller has in progress then
abbrev pub Starts : {E : Type 0} → Option InHand → (List Act → Result Selection E → Type 0) → List Act
    → Result (Unit {0}) E → Type 0
Starts now Shape acts (Ok unit) = IsSomeAnd now (λ started. Shape acts (Ok (selection_of started)))
Starts now Shape acts (Err refusal) = Shape acts (Err refusal)

-- the call that tells the selection: it is over with an answer, or goes on
abbrev pub TellsKept : InHand → Poll → List Act → Result (Option Selected) NotSelecting → Type 0
TellsKept x poll acts (Ok (Some answer)) = Tells (selection_of x) poll acts (done answer)
TellsKept x poll acts (Ok None) = Tells (selection_of x) poll acts (again (selection_of x))
TellsKept x poll acts (Err error) = ⊥

-- the call that is made for what is in progress
abbrev pub IsMade : {E : Type 0} → (List Act → Unit {0} → Type 0) → List Act → Result (Unit {0}) E → Type 0
IsMade Shape acts (Ok unit) = Shape acts tt
IsMade Shape acts (Err error) = ⊥

-- ---- closings

-- whether this call began to close the selector
abbrev pub shut_says : Bool → ShutReply
shut_says began = if began then closing_begun else already_closed

-- the closing that the caller has after a call that answered so
abbrev pub closing_after : Option Bool → SelNo → Option SelNo → Option SelNo
closing_after (Some true) s before = Some s
closing_after (Some false) s before = before
closing_after None s before = before

-- the call that finishes a closing: it is closed, or busy
abbrev pub Finishes : SelNo → List Act → Result Bool NotClosing → Type 0
Finishes s acts (Ok is_closed) = Completes (try_finish_plan s) acts (if is_closed then closed else busy)
Finishes s acts (Err error) = ⊥

-- the closing that is left
abbrev pub closing_left : Result Bool NotClosing → Option SelNo → Option SelNo
closing_left (Ok true) before = None
closing_left (Ok false) before = before
closing_left (Err error) before = before

-- ---- whole selections

-- nothing was done after the look, and the caller has what it had
pub record IsUnmade (s : SelNo) (seen : PassView) (old new : Acting) (result : Result Selected (CallError SelectError))
    : Type 0 where
  pub nothing : sees new ≡ seen
  pub list : held new s ≡ held old s
  pub answer : result ≡ Err NoSuchSelector

-- where the selector was found the call, else that nothing was done
abbrev pub IfThere : {T E : Type 0} → Option SelNo → (Result T E → Type 0) → Type 0 → Result T (CallError E) → Type 0
IfThere (Some s) Made Unmade result = IsCalled result Made
IfThere None Made Unmade result = Unmade

-- A whole selection of the caller on this selector, which is looked up first. `Selects before after seen` says what it
-- promises: by what the caller had of the selector before and has after it, when it had seen `seen`.
pub record SelectsOn (s : SelNo) (Selects : HeldSelector → HeldSelector → PassView → Result Selected SelectError → Type 0)
    (old new : Acting) (result : Result Selected (CallError SelectError)) : Type 0 where
  pub same : IsSameCaller old new
  pub others : KeepsOthers s old new
  pub progress : new.progress ≡ old.progress
  pub found : Option SelNo
  -- what the caller had seen once it had looked
  pub seen : PassView
  pub looks : CallClause old.number (FindsSelector (limits_of old.table) s) (sees old) seen found
  pub selects : IfThere found (Selects (held old s) (held new s) seen) (IsUnmade s seen old new result) result
