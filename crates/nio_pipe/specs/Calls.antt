-- The steps of the calls on pipes, with what these calls answer.
use Rattle.std.specs.Prelude.{ℕ, Bool, Result, Ok, Err, List, length}
use Rattle.nio_base.specs.declared.limits.Limits.{Limits}
use Rattle.nio_base.specs.declared.numbers.ChanId.{ChanId}
use Rattle.nio_history.specs.PassViews.{PassView, HasChannel}
use Rattle.nio_history.specs.declared.act.Act.{Act}
use Rattle.nio_steps.specs.PipeCalls.{try_read_plan, try_write_plan, Waits}
use Rattle.nio_steps.specs.Plan.{Plan}
use Rattle.nio_steps.specs.Runs.{Completes}
use Rattle.nio_steps.specs.declared.refusal.PipeError.{PipeError}
use Rattle.nio_pipe.specs.Answers.{read_waits, write_waits}
use Rattle.nio_pipe.specs.declared.answers.PipeRead.{PipeRead}
use Rattle.nio_pipe.specs.declared.answers.PipeWrite.{PipeWrite}

-- The acts are a run of this plan, whose answer is a refusal or the channel's mode. The call is refused as
-- the plan is; what else it answers is told by no step.
abbrev pub RefusesBy : {A : Type 0} → Plan (Result Bool PipeError) → List Act → Result A PipeError → Type 0
RefusesBy plan acts (Ok answer) = (blocking : Bool) × Completes plan acts (Ok blocking)
RefusesBy plan acts (Err refusal) = Completes plan acts (Err refusal)

abbrev pub TriesRead : Limits → ChanId → List Act → Result PipeRead PipeError → Type 0
TriesRead l source = RefusesBy (try_read_plan l source)

abbrev pub TriesWrite : Limits → ChanId → ChanId → List Act → Result PipeWrite PipeError → Type 0
TriesWrite l source sink = RefusesBy (try_write_plan l source sink)

-- A call that waits runs the plan once or more. `none` says whether the last run found no bytes, or no room.
-- `HadToWait n` has to hold where `n` runs went before the last.
pub record WaitsWhere (HadToWait : ℕ → Type 0) (plan : Plan (Result Bool PipeError)) (none : Bool) (acts : List Act)
    (answer : Result Bool PipeError) : Type 0 where
  pub waits : Waits plan none acts answer
  pub had : HadToWait (length waits.runs.tries.runs)

-- The same with what the call answers: a refusal is the plan's.
abbrev pub WaitsBy : {A : Type 0} → (ℕ → Type 0) → Plan (Result Bool PipeError) → Bool → List Act → Result A PipeError
    → Type 0
WaitsBy HadToWait plan none acts (Ok answer) = (blocking : Bool) × WaitsWhere HadToWait plan none acts (Ok blocking)
WaitsBy HadToWait plan none acts (Err refusal) = WaitsWhere HadToWait plan none acts (Err refusal)

abbrev pub WaitsToRead : Limits → ChanId → (Result PipeRead PipeError → ℕ → Type 0) → List Act
    → Result PipeRead PipeError → Type 0
WaitsToRead l source HadToWait acts answer =
    WaitsBy (HadToWait answer) (try_read_plan l source) (read_waits answer) acts answer

abbrev pub WaitsToWrite : Limits → ChanId → ChanId → (Result PipeWrite PipeError → ℕ → Type 0) → List Act
    → Result PipeWrite PipeError → Type 0
WaitsToWrite l source sink HadToWait acts answer =
    WaitsBy (HadToWait answer) (try_write_plan l source sink) (write_waits answer) acts answer

-- both channels of a pipe may be passed to a call
pub record HasEnds (pass : PassView) (a b : ChanId) : Type 0 where
  pub source : HasChannel pass a
  pub sink : HasChannel pass b
