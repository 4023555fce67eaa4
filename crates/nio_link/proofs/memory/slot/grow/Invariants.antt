use Rattle.std.proofs.Common.{◌≡◌, ◌+◌, ◌-◌, ◌≤◌, ◌++◌, replicate, vec_len, vec_capacity}
use Rattle.nio_link.specs.declared.memory.slot.Slot.TheVariants as slot
use Rattle.nio_link.proofs.memory.slot.grow.Given as goal

abbrev pub invariant-loop : goal.invariant-loop
invariant-loop l = record {
  items : l.slots.items ≡ l.initial.slots.items ++ replicate l.counter slot.Free;
  spare : vec_len l.slots + (l.more - l.counter) ≤ vec_capacity l.slots;
}
