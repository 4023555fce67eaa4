-- A desk: a group whose operations have tickets, each of which is handed one result.
use Rattle.std.specs.Prelude.{ℕ, ◌+◌, ◌*◌, Bool, List, [], Option, Some, None, is_some, count_by, slice_index}
use Rattle.nio_base.specs.declared.numbers.GChan.{GChan}
use Rattle.nio_base.specs.declared.group.Finished.{Finished}
use Rattle.nio_base.specs.declared.group.OpKind.{OpKind}
use Rattle.nio_base.specs.declared.group.OpKind.TheVariants.{Accept, Connect, Read, Write}
use Rattle.nio_group.specs.declared.limits.GroupLimits.{GroupLimits}
use Rattle.nio_group.specs.declared.operation.Operation.{Operation}
use Rattle.nio_group.specs.declared.operation.Stage.{Stage}
use Rattle.nio_group.specs.declared.operation.Stage.TheVariants.{Pending, Queued, Running}
use Rattle.nio_group.specs.Group.{Group, empty_group}
use Rattle.nio_group.specs.Operations.{Accepted, operation_at}

-- the group; each operation that was ever started, by its number, where one whose ticket isn't out is `None`: it is
-- `Pending` while it has no result, and `Queued` with its result from then on; the name that tells this desk's tickets
-- from those of others; and the sources at which tasks wait, by place. So `Queued` in `out` means: the operation has
-- ended, and its result waits for the ticket
pub record DeskState : Type 0 where
  pub group : Group
  pub out : Accepted
  pub source : ℕ
  pub places : List ℕ

abbrev pub empty_desk : GroupLimits → ℕ → List ℕ → DeskState
empty_desk l source places = record {
  group = empty_group l;
  out = record { operations = []; limit = l.flight };
  source = source;
  places = places;
}

-- There is a place for the operations of each kind on the channels of each number. Of these one is pending at a time.
abbrev pub place_of : GChan → OpKind → ℕ
place_of chan Accept = 4 * chan.number
place_of chan Connect = 4 * chan.number + 1
place_of chan Read = 4 * chan.number + 2
place_of chan Write = 4 * chan.number + 3

-- the source at its place
abbrev pub source_at : List ℕ → GChan → OpKind → ℕ
source_at places chan kind = slice_index places (place_of chan kind)

-- what the desk holds for the ticket of the operation with this number
abbrev pub held_at : DeskState → ℕ → Option Operation
held_at d n = operation_at d.out n

-- the name at which a task waits that holds the ticket of this operation
abbrev pub source_in : DeskState → Option Operation → ℕ
source_in d None = d.source
source_in d (Some op) = source_at d.places op.chan op.kind

abbrev pub own_source : DeskState → ℕ → ℕ
own_source d n = source_in d (held_at d n)

-- the ticket of this operation is out: it was neither handed its result nor cancelled
abbrev pub is_out : DeskState → ℕ → Bool
is_out d n = is_some (held_at d n)

abbrev pub tickets_out : DeskState → ℕ
tickets_out d = count_by is_some d.out.operations

abbrev pub stage_result : Stage → Option Finished
stage_result Pending = None
stage_result (Queued result) = Some result
stage_result Running = None

abbrev pub result_in : Option Operation → Option Finished
result_in None = None
result_in (Some op) = stage_result op.stage

-- the result that waits for the ticket of this operation
abbrev pub result_at : DeskState → ℕ → Option Finished
result_at d n = result_in (held_at d n)
