-- What is behind a handle that isn't empty, as contracts see it.
use Rattle.std.specs.Prelude.{ℕ}
use Rattle.nio_caller.specs.Callers.{Acting}
use Rattle.nio_c.specs.Places.{VisitorView}

pub record Holding : Type 0 where
  pub caller : Acting
  -- how many pairs its selections can be told of at a time with no further memory
  pub room : ℕ
  -- who visits the places at its table where callers are left
  pub visitor : VisitorView
