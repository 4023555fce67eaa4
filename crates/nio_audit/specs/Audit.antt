-- Which event of a list is the first that isn't a step, and which step may come after a list.
use Rattle.std.specs.Prelude.{◌≡◌, ℕ, List, ◌∷◌, ◌++◌, length}
use Rattle.nio_base.specs.declared.limits.Limits.{Limits}
use Rattle.nio_base.specs.declared.numbers.CallerNo.{CallerNo}
use Rattle.nio_history.specs.Conditions.{Condition, IsCaller}
use Rattle.nio_history.specs.Histories.{state_after, mine, IsStep, IsLegal}
use Rattle.nio_history.specs.declared.act.Act.{Act}
use Rattle.nio_history.specs.declared.event.Event.{Event}

-- the event at this place, counted from 0, isn't a step after those before it, and each of those is one
pub record IsFirstNoStep (l : Limits) (events : List Event) (place : ℕ) : Type 0 where
  pub before : List Event
  pub event : Event
  pub later : List Event
  pub split : events ≡ before ++ event ∷ later
  pub place_is : length before ≡ place
  pub legal : IsLegal l before
  pub no_step : ¬ IsStep l before event

-- the caller may make the step after these events, whatever the step finds
pub record MayStep (l : Limits) (past : List Event) (me : CallerNo) (act : Act) : Type 0 where
  pub by_caller : IsCaller l me
  pub condition : Condition l (mine me past) (state_after past) me act
