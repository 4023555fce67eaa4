-- Histories in which each caller makes whole calls, one after the other: orderly, whole and serial histories.
use Rattle.std.specs.Prelude.{◌≡◌, ◌==◌, List, [], ◌∷◌, ◌++◌, map, filter}
use Rattle.nio_base.specs.declared.limits.Limits.{Limits}
use Rattle.nio_base.specs.declared.numbers.CallerNo.{CallerNo}
use Rattle.nio_history.specs.Histories.{mine, event_of}
use Rattle.nio_history.specs.declared.act.Act.{Act}
use Rattle.nio_history.specs.declared.event.Event.{Event}
use Rattle.nio_orderly.specs.Made.{Made, IsRun, AreInOrder}
use Rattle.nio_steps.specs.Ongoing.{nothing_ongoing}

-- a list in two parts, one after the other
pub record Parts {X : Type 0} (First Second : List X → Type 0) (all : List X) : Type 0 where
  pub first : List X
  pub second : List X
  pub parts : all ≡ first ++ second
  pub is_first : First first
  pub is_second : Second second

-- ---- what one caller does

-- the acts are those of these calls, one after the other
abbrev pub AreRuns : Limits → List Made → List Act → Type 0
AreRuns l [] acts = acts ≡ []
AreRuns l (call ∷ later) acts = Parts (IsRun l call) (AreRuns l later) acts

-- and each of the calls may come after those before it
pub record AreCallsOf (l : Limits) (acts : List Act) (calls : List Made) : Type 0 where
  pub runs : AreRuns l calls acts
  pub in_order : AreInOrder nothing_ongoing calls

-- a caller that did this made whole calls
pub record HasMadeCalls (l : Limits) (acts : List Act) : Type 0 where
  pub calls : List Made
  pub are : AreCallsOf l acts calls

-- a caller that did this made whole calls, and may be in the middle of one more: if it does so much `later`,
-- all its calls are whole
pub record MakesCalls (l : Limits) (acts : List Act) : Type 0 where
  pub later : List Act
  pub whole : HasMadeCalls l (acts ++ later)

-- ---- histories

-- each caller made whole calls
abbrev pub IsWhole : Limits → List Event → Type 0
IsWhole l events = (n : CallerNo) → HasMadeCalls l (mine n events)

-- each caller made whole calls, and may be in the middle of one more
abbrev pub IsOrderly : Limits → List Event → Type 0
IsOrderly l events = (n : CallerNo) → MakesCalls l (mine n events)

-- ---- serial histories

-- a call, and who made it
pub record MadeBy : Type 0 where
  pub caller : CallerNo
  pub call : Made

-- the events are those of this call, with no event of another caller between
pub record IsRunBy (l : Limits) (made : MadeBy) (events : List Event) : Type 0 where
  pub acts : List Act
  pub runs : IsRun l made.call acts
  pub events_are : events ≡ map (event_of made.caller) acts

-- the events are those of these calls, each finished before the next begins
abbrev pub AreRunsBy : Limits → List MadeBy → List Event → Type 0
AreRunsBy l [] events = events ≡ []
AreRunsBy l (made ∷ later) events = Parts (IsRunBy l made) (AreRunsBy l later) events

-- the calls among these that the caller made
abbrev pub calls_of : CallerNo → List MadeBy → List Made
calls_of n made = map (λ m. m.call) (filter (λ m. m.caller.0 == n.0) made)

-- the history is these calls, each finished before the next begins, and each caller's may come in this order
pub record IsSerial (l : Limits) (events : List Event) (made : List MadeBy) : Type 0 where
  pub runs : AreRunsBy l made events
  pub in_order : (n : CallerNo) → AreInOrder nothing_ongoing (calls_of n made)
