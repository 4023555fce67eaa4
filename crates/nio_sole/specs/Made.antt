-- What a caller made, where no two calls overlap: whole calls, and what is in progress is what they left.
use Rattle.std.specs.Prelude.{List}
use Rattle.nio_base.specs.declared.limits.Limits.{Limits}
use Rattle.nio_base.specs.declared.numbers.CallerNo.{CallerNo}
use Rattle.nio_history.specs.declared.act.Act.{Act}
use Rattle.nio_orderly.specs.Made.{Made, after_calls}
use Rattle.nio_orderly.specs.Orderly.{AreCallsOf}
use Rattle.nio_serial.specs.Documented.{Progress}
use Rattle.nio_serial.specs.Left.{IsOngoing}
use Rattle.nio_steps.specs.Ongoing.{nothing_ongoing}

-- a caller that did this made whole calls, and has in progress what the progress shows of it
pub record HasMade (l : Limits) (acts : List Act) (n : CallerNo) (now : Progress) : Type 0 where
  pub calls : List Made
  pub are : AreCallsOf l acts calls
  pub ongoing : IsOngoing n now (after_calls nothing_ongoing calls)
