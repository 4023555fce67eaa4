use Rattle.std.proofs.Common.{◌≡◌, drop}
use Rattle.nio_link.specs.Slots.{carried_before}
use Rattle.nio_link.proofs.memory.slot.past_link.Given as goal

abbrev pub invariant-loop-at : goal.invariant-loop-at
invariant-loop-at l = carried_before (drop l.at l.past.items) l.chan ≡ carried_before l.past.items l.chan
