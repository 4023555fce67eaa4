-- A caller that made whole calls has no pin.
use Rattle.std.proofs.Common.{◌≡◌, ℕ, List, [], ◌∷◌, false, sym, ◌∙◌, subst, refl}
use Rattle.nio_base.specs.declared.limits.Limits.{Limits}
use Rattle.nio_base.specs.declared.numbers.CallerNo.{CallerNo}
use Rattle.nio_base.specs.declared.numbers.SelNo.{SelNo}
use Rattle.nio_history.proofs.OwnPins.{pins_are_own}
use Rattle.nio_history.specs.Conditions.{has_pin}
use Rattle.nio_history.specs.Histories.{IsLegal, mine, state_after}
use Rattle.nio_history.specs.declared.act.Act.{Act}
use Rattle.nio_history.specs.declared.event.Event.{Event}
use Rattle.nio_orderly.specs.Made.{IsRun, Made, draw, table_call, waiting_call}
use Rattle.nio_orderly.specs.Orderly.{AreRuns, HasMadeCalls}
use Rattle.nio_steps.proofs.PinBack.{NoPins, no_pins, no_pins-append}
use Rattle.nio_steps.proofs.PinLaws.{gives, waiting_gives}
use Rattle.nio_steps.specs.TableCalls.{row_of}

run-none : (l : Limits) (call : Made) (acts : List Act) → IsRun l call acts → NoPins acts
run-none l (draw n) acts run = subst NoPins (sym run) (λ s i. refl)
run-none l (table_call call answer) acts run = gives l ((row_of call).lacks_memory answer) call acts answer run
run-none l (waiting_call call answer) acts run = waiting_gives l call acts answer run

runs-none : (l : Limits) (calls : List Made) (acts : List Act) → AreRuns l calls acts → NoPins acts
runs-none l [] acts run = subst NoPins (sym run) no_pins
runs-none l (call ∷ later) acts run =
    subst NoPins (sym run.parts)
    (no_pins-append run.first run.second (run-none l call run.first run.is_first)
    (runs-none l later run.second run.is_second))

pub no_pin_left : (l : Limits) (h : List Event) (n : CallerNo) → IsLegal l h → HasMadeCalls l (mine n h)
    → (s : SelNo) (i : ℕ) → has_pin (state_after h) n s i ≡ false
no_pin_left l h n legal made s i = pins_are_own l n s i h legal ∙ runs-none l made.calls (mine n h) made.are.runs s.0 i
