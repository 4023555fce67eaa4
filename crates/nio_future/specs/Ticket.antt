-- What contracts see of a ticket.
use Rattle.std.specs.Prelude.{ℕ, List}
use Rattle.nio_base.specs.declared.numbers.OpNo.{OpNo}

-- the number of its operation, and the name of the desk that gave it out, alone in a list
pub record Ticket : Type 0 where
  pub op : OpNo
  pub desk : List ℕ
