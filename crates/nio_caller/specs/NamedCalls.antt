-- Calls of a caller. A call on a selector, a channel or a key looks it up first, as a line of a script does, and answers
-- a refusal of its own where it was never made.
use Rattle.std.specs.Prelude.{◌≡◌, ⊤, Bool, true, nat_lt, if◌then◌else◌, Option, Some, None, Result, Ok, Err, List, []}
use Rattle.nio_base.specs.declared.limits.Limits.{Limits}
use Rattle.nio_base.specs.declared.numbers.CallerNo.{CallerNo}
use Rattle.nio_base.specs.declared.numbers.ChanId.{ChanId}
use Rattle.nio_base.specs.declared.numbers.KeyNo.{KeyNo}
use Rattle.nio_base.specs.declared.numbers.SelNo.{SelNo}
use Rattle.nio_history.specs.declared.act.Act.{Act}
use Rattle.nio_steps.specs.Calls.{CallClause}
use Rattle.nio_steps.specs.KeyCalls.{find_selector_plan, find_channel_plan, find_plan}
use Rattle.nio_steps.specs.Runs.{Completes}
use Rattle.nio_steps.specs.Waiting.{Then}
use Rattle.nio_words.specs.Passes.{limits_of}
use Rattle.nio_caller.specs.Callers.{Acting, IsSameCaller, sees}
use Rattle.nio_caller.specs.declared.refusal.CallError.{CallError}
use Rattle.nio_caller.specs.declared.refusal.CallError.TheVariants.{NoSuchSelector, NoSuchChannel, NoSuchKey, Refused}

-- The caller made a call of this shape, which answered this. It is the same caller, and has the lists that it had, and
-- in progress what it had.
pub record Calls {R : Type 0} (Shape : Limits → List Act → R → Type 0) (old new : Acting) (answer : R) : Type 0 where
  pub same : IsSameCaller old new
  pub lists : new.selectors ≡ old.selectors
  pub progress : new.progress ≡ old.progress
  pub call : CallClause old.number (Shape (limits_of old.table)) (sees old) (sees new) answer

-- nothing more is done, and this is the answer
abbrev pub OnlyAnswers : {R : Type 0} → R → List Act → R → Type 0
OnlyAnswers given acts answer = (acts ≡ []) × (answer ≡ given)

-- where the name was found this is done, else the refusal is the answer
abbrev pub IfFound : {A R : Type 0} → R → (List Act → R → Type 0) → Option A → List Act → R → Type 0
IfFound refusal Shape (Some name) = Shape
IfFound refusal Shape None = OnlyAnswers refusal

-- ---- looking a name up: it is the answer where it was made

abbrev pub FindsSelector : Limits → SelNo → List Act → Option SelNo → Type 0
FindsSelector l s = Completes (find_selector_plan l s.0)

abbrev pub FindsChannel : Limits → ChanId → List Act → Option ChanId → Type 0
FindsChannel l c = Completes (find_channel_plan l c.number.0 c.serial)

-- a key in its selector, which is looked up before
abbrev pub FindsKey : Limits → KeyNo → List Act → Option KeyNo → Type 0
FindsKey l k = Then (FindsSelector l k.sel) (IfFound None (Completes (find_plan l k.sel k.index k.serial)))

-- a caller's number needs no step: it is there where it is below the limit
abbrev pub caller_in : Limits → CallerNo → Option CallerNo
caller_in l n = if nat_lt n.0 l.callers then Some n else None

-- ---- calls on a name: a look, and where it finds the name this call, else the refusal

abbrev pub OnSelector : {R : Type 0} → Limits → SelNo → R → (List Act → R → Type 0) → List Act → R → Type 0
OnSelector l s refusal Shape = Then (FindsSelector l s) (IfFound refusal Shape)

abbrev pub OnChannel : {R : Type 0} → Limits → ChanId → R → (List Act → R → Type 0) → List Act → R → Type 0
OnChannel l c refusal Shape = Then (FindsChannel l c) (IfFound refusal Shape)

abbrev pub OnKey : {R : Type 0} → Limits → KeyNo → R → (List Act → R → Type 0) → List Act → R → Type 0
OnKey l k refusal Shape = Then (FindsKey l k) (IfFound refusal Shape)

abbrev pub OnCaller : {R : Type 0} → Limits → CallerNo → R → (List Act → R → Type 0) → List Act → R → Type 0
OnCaller l n refusal Shape = IfFound refusal Shape (caller_in l n)

-- ---- what is answered

-- the call was made, and P holds of what it answered
abbrev pub IsCalled : {T E : Type 0} → Result T (CallError E) → (Result T E → Type 0) → Type 0
IsCalled (Ok value) P = P (Ok value)
IsCalled (Err NoSuchSelector) P = ⊥
IsCalled (Err NoSuchChannel) P = ⊥
IsCalled (Err NoSuchKey) P = ⊥
IsCalled (Err (Refused error)) P = P (Err error)

-- where the call was made: P of what it answered
abbrev pub IfCalled : {T E : Type 0} → Result T (CallError E) → (Result T E → Type 0) → Type 0
IfCalled (Ok value) P = P (Ok value)
IfCalled (Err NoSuchSelector) P = ⊤
IfCalled (Err NoSuchChannel) P = ⊤
IfCalled (Err NoSuchKey) P = ⊤
IfCalled (Err (Refused error)) P = P (Err error)

-- where a name wasn't found: P
abbrev pub IfUncalled : {T E : Type 0} → Result T (CallError E) → Type 0 → Type 0
IfUncalled (Ok value) P = ⊤
IfUncalled (Err NoSuchSelector) P = P
IfUncalled (Err NoSuchChannel) P = P
IfUncalled (Err NoSuchKey) P = P
IfUncalled (Err (Refused error)) P = ⊤

-- the call that may refuse: its refusal is passed on
abbrev pub MayRefuse : {T E : Type 0} → (List Act → Result T E → Type 0) → List Act → Result T (CallError E) → Type 0
MayRefuse Shape acts answer = IsCalled answer (Shape acts)

-- the answer of a call that was made
abbrev pub as_called : {T E : Type 0} → Result T E → Result T (CallError E)
as_called (Ok value) = Ok value
as_called (Err error) = Err (Refused error)

-- the call, with what it answers
abbrev pub Gives : {R : Type 0} → (List Act → R → Type 0) → List Act → Option R → Type 0
Gives Shape acts (Some answer) = Shape acts answer
Gives Shape acts None = ⊥

-- the call that answers nothing: that it was made is the answer
abbrev pub Does : (List Act → Unit {0} → Type 0) → List Act → Bool → Type 0
Does Shape acts done = (done ≡ true) × Shape acts tt
