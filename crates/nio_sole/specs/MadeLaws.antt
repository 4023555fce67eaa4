-- What holds of what callers made, and of what they have in progress.
use Rattle.std.specs.Prelude.{◌≡◌, IsTrue, Some, List, ◌++◌}
use Rattle.nio_base.specs.declared.limits.Limits.{Limits}
use Rattle.nio_base.specs.declared.numbers.CallerNo.{CallerNo}
use Rattle.nio_base.specs.declared.numbers.SelNo.{SelNo}
use Rattle.nio_history.specs.Histories.{mine, IsLegal}
use Rattle.nio_history.specs.State.{State}
use Rattle.nio_history.specs.declared.act.Act.{Act}
use Rattle.nio_history.specs.declared.event.Event.{Event}
use Rattle.nio_language.specs.declared.call.Call.{Call}
use Rattle.nio_orderly.specs.Made.{Made, after_calls}
use Rattle.nio_orderly.specs.Orderly.{AreCallsOf}
use Rattle.nio_serial.specs.Between.{IsBetween}
use Rattle.nio_serial.specs.Documented.{Progress}
use Rattle.nio_serial.specs.Lines.{Said, line_plan}
use Rattle.nio_sole.specs.Made.{HasMade}
use Rattle.nio_steps.specs.Ongoing.{nothing_ongoing}
use Rattle.nio_steps.specs.Runs.{Completes}
use Rattle.nio_steps.specs.SelectCalls.{Selection}
use Rattle.nio_steps.specs.Selections.{IsBegun, IsClosing}

-- A line is whole calls of its caller, which may come after those before, and leaves in progress what it says.
abbrev pub LinesAreCalls : Type 0
LinesAreCalls =
    (l : Limits) (st : State) (now : Progress) (me : CallerNo) (word : Call) (own acts : List Act) (said : Said)
    → IsBetween l st now → HasMade l own me now → Completes (line_plan l now me word) acts said
    → HasMade l (own ++ acts) me said.left

-- In a legal history a caller that made whole calls has begun each selection that it has in progress: it hasn't given
-- the turn back, and marked and removed no key since.
abbrev pub OngoingIsBegun : Type 0
OngoingIsBegun =
    (l : Limits) (events : List Event) (n : CallerNo) (calls : List Made) (s : SelNo) (x : Selection)
    → IsLegal l events → AreCallsOf l (mine n events) calls → (after_calls nothing_ongoing calls).selection s.0 ≡ Some x
    → IsBegun (mine n events) x × (x.selector ≡ s)

-- A caller that made whole calls has shut each selector whose closing it has in progress.
abbrev pub OngoingIsClosing : Type 0
OngoingIsClosing =
    (l : Limits) (acts : List Act) (calls : List Made) (s : SelNo)
    → AreCallsOf l acts calls → IsTrue ((after_calls nothing_ongoing calls).closes s.0)
    → IsClosing acts s
