-- What holds of every desk.
use Rattle.std.specs.Prelude.{◌≡◌, ℕ, ◌≤◌, ◌^◌, false, [], length, Option, Some, None, IsTrue}
use Rattle.nio_group.specs.declared.operation.Operation.{Operation}
use Rattle.nio_group.specs.declared.operation.Stage.TheVariants.{Pending}
use Rattle.nio_group.specs.Flight.{op_at, accepted}
use Rattle.nio_group.specs.Group.{IsLawful}
use Rattle.nio_group.specs.Stages.{is_queued, is_running, at_stage}
use Rattle.nio_future.specs.Desk.{DeskState, held_at, tickets_out}

-- what the desk holds for a ticket fits what the group has of the operation. Of an operation that has ended: its
-- result, or nothing where the ticket isn't out. Of one in flight: the operation, pending; no handler runs
abbrev pub Agrees : Option Operation → Option Operation → Type 0
Agrees None None = Unit {0}
Agrees None (Some held) = IsTrue (is_queued (Some held))
Agrees (Some op) held = (is_running (Some op) ≡ false) × (held ≡ Some (at_stage Pending op))

-- a desk whose group may have completions that nobody has taken yet
pub record IsSettling (d : DeskState) : Type 0 where
  pub lawful : IsLawful d.group
  pub same_limit : d.out.limit ≡ d.group.flight.limit
  pub few_ops : d.group.op_limit ≤ 2 ^ 62
  -- each operation that the group accepted has had a ticket
  pub same_count : length d.out.operations ≡ accepted d.group.flight
  pub few_out : tickets_out d ≤ d.out.limit
  pub agrees : (n : ℕ) → Agrees (op_at d.group.flight n) (held_at d n)

-- a desk between two calls: each completion was taken, and its operation has ended
pub record IsDesk (d : DeskState) : Type 0 where
  pub settling : IsSettling d
  pub empty : d.group.flight.queue ≡ []
