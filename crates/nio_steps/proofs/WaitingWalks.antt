-- What holds of the acts of each call holds of those of a call that waits.
use Rattle.std.proofs.Common.{◌≡◌, Bool, true, false, Option, Result, Ok, Err, List, [], ◌∷◌, refl, sym, subst}
use Rattle.std.specs.List.{All}
use Rattle.std.proofs.lemmas.List.Elements.{All-head, All-tail}
use Rattle.nio_base.specs.declared.limits.Limits.{Limits}
use Rattle.nio_base.specs.declared.numbers.SelNo.{SelNo}
use Rattle.nio_history.specs.declared.act.Act.{Act}
use Rattle.nio_history.specs.declared.found.Mode.{Mode}
use Rattle.nio_steps.proofs.PlanWalks.{Walk}
use Rattle.nio_steps.specs.PipeCalls.{Waits}
use Rattle.nio_steps.specs.Plan.{Plan}
use Rattle.nio_steps.specs.Runs.{Completes}
use Rattle.nio_steps.specs.SelectCalls.{Selection, Begins, Poll, SelectsRest, MakesSelection, selected}
use Rattle.nio_steps.specs.SelectCalls.{not_begun, left, ShutReply, closing, already_closed, ClosesRest}
use Rattle.nio_steps.specs.TableCalls.{TableCall, WaitCall, row_of, wait_row_of, try_set_blocking, try_register}
use Rattle.nio_steps.specs.TableCalls.{try_begin, told, leave, shut, try_finish, try_read, try_write}
use Rattle.nio_steps.specs.TableCalls.{set_blocking, register, select, close, read, write}
use Rattle.nio_steps.specs.Waiting.{Then, Run, acts_of, Tries, Repeats, Retries}
use Rattle.nio_steps.specs.declared.looked.LookedKey.{LookedKey}
use Rattle.nio_steps.specs.declared.refusal.BeginError.{BeginError}

-- it holds of the acts of each call of this shape
abbrev pub HoldsOf : Walk → {R : Type 0} → (List Act → R → Type 0) → Type 0
HoldsOf w {R} Shape = (acts : List Act) (answer : R) → Shape acts answer → w.Holds acts

-- it begins a selection
abbrev pub begins_selection : TableCall → Bool
begins_selection (try_begin s mode known) = true
begins_selection call = false

module _ (w : Walk) where
  runs-hold : {X R : Type 0} (Shape : X → List Act → R → Type 0) → ((x : X) → HoldsOf w (Shape x))
      → (runs : List (Run X R)) → All (λ run. Shape run.given run.acts run.answer) runs → w.Holds (acts_of runs)
  runs-hold Shape each [] made = w.none
  runs-hold Shape each (run ∷ later) made =
      let Made = λ (r : Run _ _). Shape r.given r.acts r.answer in
      w.append run.acts (acts_of later) (each run.given run.acts run.answer (All-head Made run later made))
      (runs-hold Shape each later (All-tail Made run later made))

  tries-hold : {X R : Type 0} {Shape : X → List Act → R → Type 0} {goes_on : X → R → Bool} (acts : List Act)
      → ((x : X) → HoldsOf w (Shape x)) → Tries Shape goes_on acts → w.Holds acts
  tries-hold {Shape = Shape} acts each tries =
      subst w.Holds (sym tries.parts) (runs-hold Shape each tries.runs tries.made)

  repeats-hold : {X R : Type 0} {Shape : X → List Act → R → Type 0} {goes_on : X → R → Bool}
      → ((x : X) → HoldsOf w (Shape x)) → HoldsOf w (Repeats Shape goes_on)
  repeats-hold each acts answer repeats =
      let last = repeats.last in
      subst w.Holds (sym repeats.parts)
      (w.append repeats.before last.acts (tries-hold repeats.before each repeats.tries)
      (each last.given last.acts last.answer repeats.made))

  retries-hold : {R : Type 0} {Shape : List Act → R → Type 0} {goes_on : R → Bool} → HoldsOf w Shape
      → HoldsOf w (Retries Shape goes_on)
  retries-hold each = repeats-hold (λ _. each)

  then-hold : {A R : Type 0} {First : List Act → A → Type 0} {Second : A → List Act → R → Type 0} → HoldsOf w First
      → ((a : A) → HoldsOf w (Second a)) → HoldsOf w (Then First Second)
  then-hold first second acts answer both =
      subst w.Holds (sym both.parts)
      (w.append both.first both.second (first both.first both.middle both.runs_first)
      (second both.middle both.second answer both.runs_second))

  waits-hold : {plan : Plan _} (none : Bool) → HoldsOf w (Completes plan) → HoldsOf w (Waits plan none)
  waits-hold none each acts answer waits = repeats-hold (λ _. each) acts waits.found waits.runs

  -- ---- each call that waits, where each that doesn't, but for the beginning of a selection, is such a call

  module _ (l : Limits)
      (each : (call : TableCall) → begins_selection call ≡ false → HoldsOf w (Completes ((row_of call).plan l false))) where
    rest-holds : (polls : List Poll) (begun : Result Selection BeginError) → HoldsOf w (SelectsRest polls begun)
    rest-holds polls (Ok selection) acts (selected answer) rest =
        repeats-hold (λ poll. each (told selection poll) refl) acts _ rest.tells
    rest-holds polls (Ok selection) acts (not_begun refusal) rest = absurd rest
    rest-holds polls (Ok selection) acts left rest =
        subst w.Holds (sym rest.parts)
        (w.append rest.told rest.leaves
        (tries-hold rest.told (λ poll. each (told selection poll) refl) rest.tells)
        (each (leave selection) refl rest.leaves tt rest.left))
    rest-holds polls (Err refusal) acts answer rest = subst w.Holds (sym rest.0) w.none

    pub selection-holds : (s : SelNo) (mode : Mode) (known : Option (List LookedKey)) (polls : List Poll)
        → HoldsOf w (Begins s mode known) → HoldsOf w (MakesSelection s mode known polls)
    selection-holds s mode known polls begins = then-hold (retries-hold begins) (rest-holds polls)

    closes-hold : (s : SelNo) (reply : ShutReply) → HoldsOf w (ClosesRest s reply)
    closes-hold s closing acts answer rest = retries-hold (each (try_finish s) refl) acts _ rest.1
    closes-hold s already_closed acts answer rest = subst w.Holds (sym rest.1) w.none

    pub waiting-holds : (call : WaitCall)
        → ((s : SelNo) (mode : Mode) (known : Option (List LookedKey)) (polls : List Poll)
        → call ≡ select s mode known polls → HoldsOf w (Begins s mode known))
        → HoldsOf w ((wait_row_of call).Shape l)
    waiting-holds (set_blocking c on) begins = retries-hold (each (try_set_blocking c on) refl)
    waiting-holds (register s c ops att) begins = retries-hold (each (try_register s c ops att) refl)
    waiting-holds (select s mode known polls) begins = λ acts outcome selects.
        selection-holds s mode known polls (begins s mode known polls refl) acts outcome.answer selects.makes
    waiting-holds (close s) begins = then-hold (each (shut s) refl) (closes-hold s)
    waiting-holds (read source none) begins = waits-hold none (each (try_read source) refl)
    waiting-holds (write source sink none) begins = waits-hold none (each (try_write source sink) refl)
