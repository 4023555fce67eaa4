-- Histories: lists of events, oldest first. The state that a history leaves, which event is a step
-- from it, which histories are legal, and what a caller's pass sees grow.
use Rattle.std.specs.Prelude.{◌≡◌, ◌≢◌, ◌==◌, Bool, true, IsTrue, Option, Some, None, option_map, List, [], ◌∷◌, ◌++◌}
use Rattle.std.specs.Prelude.{map, filter, fold}
use mathlib.Core.List.{IsPrefix}
use Rattle.nio_base.specs.declared.limits.Limits.{Limits}
use Rattle.nio_base.specs.declared.numbers.CallerNo.{CallerNo}
use Rattle.nio_history.specs.Acts.{effect}
use Rattle.nio_history.specs.Answers.{Answers}
use Rattle.nio_history.specs.Conditions.{Condition, IsCaller}
use Rattle.nio_history.specs.State.{State, opening}
use Rattle.nio_history.specs.declared.act.Act.{Act}
use Rattle.nio_history.specs.declared.act.Act.TheVariants.{DrawBit}
use Rattle.nio_history.specs.declared.event.Event.{Event}

-- the state after a history, from the opening state
abbrev pub state_after : List Event → State
state_after events = fold (λ st e. effect st e.caller e.act) opening events

abbrev pub is_by : CallerNo → Event → Bool
is_by n e = e.caller.0 == n.0

-- the caller's own events: what caller n did, oldest first
abbrev pub mine : CallerNo → List Event → List Act
mine n events = map (λ e. e.act) (filter (is_by n) events)

-- the event may come next: its condition is true, and what it found is what the state gives. The
-- state after it is its effect
pub record IsStep (l : Limits) (past : List Event) (e : Event) : Type 0 where
  pub by_caller : IsCaller l e.caller
  pub condition : Condition l (mine e.caller past) (state_after past) e.caller e.act
  pub answers : Answers (state_after past) e.caller e.act

-- each event is a step after the events before it
pub record IsLegal (l : Limits) (events : List Event) : Type 0 where
  pub steps : (past : List Event) (e : Event) (later : List Event) → events ≡ past ++ e ∷ later → IsStep l past e

-- ---- what a pass sees grow

abbrev pub last_of : {A : Type 0} → List A → Option A
last_of xs = fold (λ _ x. Some x) None xs

abbrev pub event_of : CallerNo → Act → Event
event_of me act = record { caller = me; act = act }

-- where `me` did something, the last of it is the last event; where it did nothing, nothing was
-- added
abbrev pub EndsWith : CallerNo → List Event → List Act → List Event → Type 0
EndsWith me before [] after = after ≡ before
EndsWith me before (act ∷ acts) after = last_of after ≡ option_map (event_of me) (last_of (act ∷ acts))

-- The history clause of a call of `me` that did these acts, on a pass that holds the numbers
-- `Holds`: what the pass has seen went on, `me` has these acts more, and no other number that the
-- pass holds has any.
pub record HistoryClause (l : Limits) (Holds : CallerNo → Type 0) (me : CallerNo) (acts : List Act)
    (before after : List Event) : Type 0 where
  pub legal : IsLegal l after
  pub goes_on : IsPrefix before after
  pub own : mine me after ≡ mine me before ++ acts
  pub others : (n : CallerNo) → Holds n → n ≢ me → mine n after ≡ mine n before
  pub ends : EndsWith me before acts after

-- A draw that found its number drawn makes no event: what the pass has seen went on, and no number
-- that it holds has any act more.
pub record FindsDrawn (l : Limits) (Holds : CallerNo → Type 0) (number : CallerNo)
    (before after : List Event) : Type 0 where
  pub legal : IsLegal l after
  pub goes_on : IsPrefix before after
  pub drawn : IsTrue ((state_after after).drawn number.0)
  pub own : (n : CallerNo) → Holds n → mine n after ≡ mine n before

-- the history clause of a step
abbrev pub StepClause : Limits → (CallerNo → Type 0) → CallerNo → Act → List Event → List Event → Type 0
StepClause l Holds me (DrawBit number true) before after = FindsDrawn l Holds number before after
StepClause l Holds me act before after = HistoryClause l Holds me (act ∷ []) before after
