-- What holds of whole, orderly and serial histories, by the calls in them alone.
use Rattle.std.specs.Prelude.{◌≡◌, List, [], ◌∷◌, ◌++◌, map}
use Rattle.nio_base.specs.declared.limits.Limits.{Limits}
use Rattle.nio_base.specs.declared.numbers.CallerNo.{CallerNo}
use Rattle.nio_history.specs.Histories.{mine, event_of}
use Rattle.nio_history.specs.declared.act.Act.{Act}
use Rattle.nio_history.specs.declared.event.Event.{Event}
use Rattle.nio_orderly.specs.Made.{Made, IsRun, after_calls, MayCome}
use Rattle.nio_orderly.specs.Orderly.{AreCallsOf, MakesCalls, IsWhole, IsOrderly, MadeBy, calls_of, IsSerial}
use Rattle.nio_steps.specs.Ongoing.{nothing_ongoing}

-- a beginning of an orderly history is orderly
abbrev pub BeginningsAreOrderly : Type 0
BeginningsAreOrderly = (l : Limits) (past later : List Event) → IsOrderly l (past ++ later) → IsOrderly l past

-- a whole history is orderly
abbrev pub WholeIsOrderly : Type 0
WholeIsOrderly = (l : Limits) (events : List Event) → IsWhole l events → IsOrderly l events

-- One call more. The caller made these calls, and this one may come after them: then it made these calls and this
-- one.
abbrev pub OneCallMore : Type 0
OneCallMore =
    (l : Limits) (own acts : List Act) (calls : List Made) (call : Made)
    → AreCallsOf l own calls → MayCome (after_calls nothing_ongoing calls) call → IsRun l call acts
    → AreCallsOf l (own ++ acts) (calls ++ call ∷ [])

-- The acts are whole calls, and then a beginning of one that may come after them.
pub record EndsInCall (l : Limits) (acts : List Act) : Type 0 where
  pub made : List Act
  pub begun : List Act
  pub parts : acts ≡ made ++ begun
  pub calls : List Made
  pub are : AreCallsOf l made calls
  pub call : Made
  pub may_come : MayCome (after_calls nothing_ongoing calls) call
  pub later : List Act
  pub runs : IsRun l call (begun ++ later)

-- so is what each caller did in an orderly history
abbrev pub OrderlyEndsInCall : Type 0
OrderlyEndsInCall = (l : Limits) (acts : List Act) → MakesCalls l acts → EndsInCall l acts

-- a serial history is whole: each caller made its calls of those in it
abbrev pub SerialIsWhole : Type 0
SerialIsWhole =
    (l : Limits) (events : List Event) (made : List MadeBy) (n : CallerNo) → IsSerial l events made
    → AreCallsOf l (mine n events) (calls_of n made)

-- a call after a serial history, with no event of another caller between, leaves a serial history
abbrev pub SerialCallMore : Type 0
SerialCallMore =
    (l : Limits) (events : List Event) (acts : List Act) (made : List MadeBy) (n : CallerNo) (call : Made)
    → IsSerial l events made → MayCome (after_calls nothing_ongoing (calls_of n made)) call → IsRun l call acts
    → IsSerial l (events ++ map (event_of n) acts) (made ++ record { caller = n; call = call } ∷ [])
