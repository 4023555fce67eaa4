-- For the tests: a table on which two callers do, step by step, what the worked history says.
use Rattle.std.specs.Prelude.{◌≡◌, ℕ, List, map, take, drop, length}
use Rattle.nio_base.specs.declared.numbers.CallerNo.{CallerNo}
use Rattle.nio_history.specs.Worked.{small_limits, u, v, worked_history}
use Rattle.nio_history.specs.declared.act.Act.{Act}
use Rattle.nio_history.specs.declared.event.Event.{Event}
use Rattle.nio_words.specs.Passes.{seen, Holds, IsOnly, IsPassOf, limits_of}
use Rattle.nio_words.specs.declared.words.Pass.{Pass}
use Rattle.nio_words.specs.declared.words.Words.{Words}

-- the table's only pass, which acts for both callers, after so many events of the worked history
pub record Follows (w : Words) (count : ℕ) (p : Pass) : Type 0 where
  pub pass : IsPassOf w p
  pub limits : limits_of w ≡ small_limits
  pub first : Holds p u
  pub second : Holds p v
  pub only : IsOnly p
  pub seen : seen p ≡ take count worked_history

-- who did what
abbrev pub step_of : Event → CallerNo × Act
step_of e = (e.caller, e.act)

abbrev pub worked_steps : List (CallerNo × Act)
worked_steps = map step_of worked_history

-- these steps stand in the worked history from this event on
abbrev pub IsPart : ℕ → List (CallerNo × Act) → Type 0
IsPart from steps = steps ≡ take (length steps) (drop from worked_steps)
