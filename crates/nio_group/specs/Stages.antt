-- The stages of an operation. Each accepted operation is pending, queued, running or ended; an
-- operation that has ended is `None`, since nothing more is known of it.
use Rattle.std.specs.Prelude.{ℕ, Bool, true, false, ◌&&◌, ◌==◌, Option, Some, None}
use Rattle.nio_base.specs.declared.numbers.GChan.{GChan}
use Rattle.nio_base.specs.declared.group.OpKind.{OpKind}
use Rattle.nio_base.specs.declared.group.OpKind.TheVariants.{Accept, Connect, Read, Write}
use Rattle.nio_group.specs.declared.operation.Stage.{Stage}
use Rattle.nio_group.specs.declared.operation.Stage.TheVariants.{Pending, Queued, Running}
use Rattle.nio_group.specs.declared.operation.Operation.{Operation}

abbrev pub same_kind : OpKind → OpKind → Bool
same_kind Accept Accept = true
same_kind Accept Connect = false
same_kind Accept Read = false
same_kind Accept Write = false
same_kind Connect Accept = false
same_kind Connect Connect = true
same_kind Connect Read = false
same_kind Connect Write = false
same_kind Read Accept = false
same_kind Read Connect = false
same_kind Read Read = true
same_kind Read Write = false
same_kind Write Accept = false
same_kind Write Connect = false
same_kind Write Read = false
same_kind Write Write = true

abbrev pub stage_is_pending : Stage → Bool
stage_is_pending Pending = true
stage_is_pending (Queued r) = false
stage_is_pending Running = false

abbrev pub stage_is_queued : Stage → Bool
stage_is_queued Pending = false
stage_is_queued (Queued r) = true
stage_is_queued Running = false

abbrev pub stage_is_running : Stage → Bool
stage_is_running Pending = false
stage_is_running (Queued r) = false
stage_is_running Running = true

-- the two are one name: the same number with the same serial
abbrev pub same_name : GChan → GChan → Bool
same_name a b = (a.number == b.number) && (a.serial == b.serial)

-- the operation is in flight, and was started on the channel of this name
abbrev pub is_on : GChan → Option Operation → Bool
is_on chan None = false
is_on chan (Some op) = same_name chan op.chan

-- the operation is pending on the channel with this number. (It is of the channel that the number has now: see
-- `IsLawful`.)
abbrev pub is_pending_on : ℕ → Option Operation → Bool
is_pending_on c None = false
is_pending_on c (Some op) = stage_is_pending op.stage && (op.chan.number == c)

-- the operation is pending on the channel with this number, and of this kind
abbrev pub is_pending_as : ℕ → OpKind → Option Operation → Bool
is_pending_as c kind None = false
is_pending_as c kind (Some op) = (stage_is_pending op.stage && (op.chan.number == c)) && same_kind op.kind kind

abbrev pub is_pending : Option Operation → Bool
is_pending None = false
is_pending (Some op) = stage_is_pending op.stage

abbrev pub is_queued : Option Operation → Bool
is_queued None = false
is_queued (Some op) = stage_is_queued op.stage

abbrev pub is_running : Option Operation → Bool
is_running None = false
is_running (Some op) = stage_is_running op.stage

-- the operation in its next stage
abbrev pub at_stage : Stage → Operation → Operation
at_stage stage op = record op { stage = stage }
