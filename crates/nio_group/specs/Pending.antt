-- Which operations are pending on a channel, and how many of it are in flight.
use Rattle.std.specs.Prelude.{ℕ, ◌+◌, ◌-◌, min, Bool, if◌then◌else◌, Option, Some, None}
use Rattle.nio_base.specs.declared.group.OpKind.{OpKind}
use Rattle.nio_base.specs.declared.group.OpKind.TheVariants.{Accept, Connect, Read, Write}
use Rattle.nio_group.specs.declared.pending.Pending.{Pending}

-- nothing pending, and nothing in flight
abbrev pub nothing_pending : Pending
nothing_pending = record { accept = None; connect = None; read = None; write = None; in_flight = 0 }

-- the number of the operation of this kind that is pending
abbrev pub slot_of : Pending → OpKind → Option ℕ
slot_of p Accept = p.accept
slot_of p Connect = p.connect
slot_of p Read = p.read
slot_of p Write = p.write

abbrev pub with_slot : Pending → OpKind → Option ℕ → Pending
with_slot p Accept n = record p { accept = n }
with_slot p Connect n = record p { connect = n }
with_slot p Read n = record p { read = n }
with_slot p Write n = record p { write = n }

-- the lesser of two numbers, each of which may be missing
abbrev pub lesser_of : Option ℕ → Option ℕ → Option ℕ
lesser_of None b = b
lesser_of (Some m) None = Some m
lesser_of (Some m) (Some n) = Some (min m n)

-- none is pending any more, and as many are in flight
abbrev pub none_pending : Pending → Pending
none_pending p = record nothing_pending { in_flight = p.in_flight }

-- one more is in flight, or one less, where it counts
abbrev pub with_one_more : Pending → Bool → Pending
with_one_more p counts = record p { in_flight = if counts then p.in_flight + 1 else p.in_flight }

abbrev pub with_one_less : Pending → Bool → Pending
with_one_less p counts = record p { in_flight = if counts then p.in_flight - 1 else p.in_flight }
