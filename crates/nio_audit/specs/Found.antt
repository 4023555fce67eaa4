-- What a caller found in a span, by moments.
use Rattle.std.specs.Prelude.{ℕ, max, nat_lt, Bool, true, ◌&&◌, Option, Some, None, if◌then◌else◌}
use Rattle.nio_audit.specs.Remembering.{Knowledge, outside_at}
use Rattle.nio_audit.specs.declared.memory.HoldMemory.{HoldMemory}
use Rattle.nio_audit.specs.declared.memory.IndexMemory.{IndexMemory}
use Rattle.nio_audit.specs.declared.memory.EnrolledMemory.{EnrolledMemory}
use Rattle.nio_base.specs.declared.numbers.CallerNo.{CallerNo}
use Rattle.nio_base.specs.declared.numbers.KeyId.{KeyId}
use Rattle.nio_history.specs.declared.found.Stage.{Stage}

-- under its present hold it found the channel in non-blocking mode
abbrev pub unblocked_by : HoldMemory → Bool
unblocked_by m = nat_lt m.taken m.unblocked

-- what it found of the index last, since it took it
abbrev pub found_by : IndexMemory → Option Stage
found_by m = if nat_lt m.taken m.looked then Some m.found else None

-- under its present hold it found the enrolled key outside the key set, or none enrolled
abbrev pub clear_key : HoldMemory → EnrolledMemory → (ℕ → IndexMemory) → Option KeyId → Bool
clear_key hold enrolment indexes None = true
clear_key hold enrolment indexes (Some k) =
    nat_lt (max hold.taken (max enrolment.enrolled (indexes k.index).published)) (outside_at (indexes k.index) k.serial)

abbrev pub clear_by : HoldMemory → EnrolledMemory → (ℕ → IndexMemory) → Bool
clear_by hold enrolment indexes = nat_lt hold.taken enrolment.found_at && clear_key hold enrolment indexes enrolment.key

abbrev pub is_clear_for : Knowledge → CallerNo → ℕ → ℕ → Bool
is_clear_for k me c s = clear_by (k.holds me.0 c) (k.enrolments me.0 c s) (k.indexes me.0 s)
