-- A poll that answered.
use Rattle.std.specs.Prelude.{List}
use Rattle.nio_history.specs.declared.found.Mode.{Mode}
use Rattle.nio_steps.specs.SelectCalls.{Poll}
use Rattle.nio_steps.specs.declared.looked.LookedKey.{LookedKey}

-- the keys that it was asked for, how long it might wait, and its answer
pub record Polled : Type 0 where
  pub asked : List LookedKey
  pub mode : Mode
  pub answer : Poll
