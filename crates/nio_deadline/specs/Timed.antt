-- A group whose operations may have time limits.
use Rattle.std.specs.Prelude.{◌≡◌, ⊤, ℕ, ◌+◌, ◌-◌, ◌^◌, Bool, true, false, if◌then◌else◌, not, ◌&&◌, ◌==◌, nat_le}
use Rattle.std.specs.Prelude.{List, [], ◌∷◌, length, Option, Some, None, IsTrue, filter, replicate, slice_index_or}
use Rattle.std.specs.Option.{option_or}
use Rattle.nio_base.specs.declared.numbers.GChan.{GChan}
use Rattle.nio_base.specs.declared.group.OpKind.{OpKind}
use Rattle.nio_base.specs.declared.group.OpKind.TheVariants.{Accept, Connect, Read, Write}
use Rattle.nio_group.specs.declared.limits.GroupLimits.{GroupLimits}
use Rattle.nio_group.specs.Flight.{Flight, op_at, IsPendingAs}
use Rattle.nio_group.specs.Group as group
use Rattle.nio_group.specs.Group.{Group, empty_group, is_open}
use Rattle.nio_group.specs.Stages.{is_on, is_pending}
use Rattle.nio_deadline.specs.Deadlines.{Deadline, AreInOrder}
use Rattle.nio_deadline.specs.declared.kinds.Kinds.{Kinds}
use Rattle.nio_deadline.specs.declared.refusal.TimedError.{TimedError}
use Rattle.nio_deadline.specs.declared.refusal.TimedError.TheVariants.{NoLimitHere, LimitTooLong, TimedOut}

-- the group; the deadlines of pending operations, in the order in which they come; the numbers of the queued
-- operations that have timed out; and for each number that a channel can have which kinds of operation have timed out
-- on the channel of that number and of the serial that stands there
pub record Timed : Type 0 where
  pub group : Group
  pub deadlines : List Deadline
  pub timed_out : List ℕ
  pub kinds : List Kinds

abbrev pub no_kinds : Kinds
no_kinds = record { serial = 0; read = false; write = false }

abbrev pub empty_timed : GroupLimits → Timed
empty_timed l =
    record { group = empty_group l; deadlines = []; timed_out = []; kinds = replicate l.channels no_kinds }

-- only a read and a write may have a limit
abbrev pub may_have_limit : OpKind → Bool
may_have_limit Accept = false
may_have_limit Connect = false
may_have_limit Read = true
may_have_limit Write = true

abbrev pub has_kind : Kinds → OpKind → Bool
has_kind k Accept = false
has_kind k Connect = false
has_kind k Read = k.read
has_kind k Write = k.write

abbrev pub with_kind : Kinds → OpKind → Kinds
with_kind k Accept = k
with_kind k Connect = k
with_kind k Read = record k { read = true }
with_kind k Write = record k { write = true }

-- those that stand for a number, as the channel of this serial has them: none, where they are another channel's
abbrev pub kinds_of : ℕ → Kinds → Kinds
kinds_of serial k = if k.serial == serial then k else record no_kinds { serial = serial }

-- the kinds of operation that have timed out on a channel
abbrev pub kinds_at : Timed → GChan → Kinds
kinds_at t chan = kinds_of chan.serial (slice_index_or t.kinds chan.number no_kinds)

-- an operation of this kind has timed out on the channel
abbrev pub has_timed_out : Timed → GChan → OpKind → Bool
has_timed_out t chan kind = has_kind (kinds_at t chan) kind

-- the group goes on to this state, in which an operation that isn't pending any more has no deadline
abbrev pub with_group : Timed → Group → Timed
with_group t g = record t { group = g; deadlines = filter (λ d. is_pending (op_at g.flight d.op)) t.deadlines }

-- the last moment
abbrev pub last_moment : ℕ
last_moment = 2 ^ 64 - 1

-- the first cause, in the order that stands here, for which an operation isn't started; a limit of 0 is none
abbrev pub limit_refusal : OpKind → ℕ → ℕ → Option TimedError
limit_refusal kind now limit =
    if not (limit == 0) && not (may_have_limit kind) then Some NoLimitHere
    else if nat_le (now + limit) last_moment then None else Some LimitTooLong

abbrev pub late_refusal : Timed → GChan → OpKind → Option TimedError
late_refusal t chan kind = if is_open t.group chan && has_timed_out t chan kind then Some TimedOut else None

abbrev pub own_refusal : Timed → GChan → OpKind → ℕ → ℕ → Option TimedError
own_refusal t chan kind now limit = option_or (limit_refusal kind now limit) (late_refusal t chan kind)

-- ---- what holds of every group with time limits

-- the operation is pending on the channel of this name, and of this kind
abbrev pub IsPendingBy : Flight → GChan → OpKind → ℕ → Type 0
IsPendingBy f chan kind n = IsPendingAs f chan.number kind n × IsTrue (is_on chan (op_at f n))

-- each deadline is that of a pending read or write on its channel
abbrev pub ArePending : Group → List Deadline → Type 0
ArePending g [] = ⊤
ArePending g (d ∷ ds) = IsPendingBy g.flight d.chan d.kind d.op × IsTrue (may_have_limit d.kind) × ArePending g ds

-- some numbers of a list, in its order
pub data IsPartOf : List ℕ → List ℕ → Type 0 where
  no_number : (ns : List ℕ) → IsPartOf [] ns
  passed : {n : ℕ} {ms ns : List ℕ} → IsPartOf ms ns → IsPartOf ms (n ∷ ns)
  listed : {n : ℕ} {ms ns : List ℕ} → IsPartOf ms ns → IsPartOf (n ∷ ms) (n ∷ ns)

pub record IsLawful (t : Timed) : Type 0 where
  pub group : group.IsLawful t.group
  pub pending : ArePending t.group t.deadlines
  pub in_order : AreInOrder t.deadlines
  -- the operations that have timed out wait in the queue
  pub queued : IsPartOf t.timed_out t.group.flight.queue
  pub each_channel : length t.kinds ≡ t.group.channel_limit
