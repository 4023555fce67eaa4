use Rattle.std.proofs.Common.{◌≡◌, map, take}
use Rattle.nio_select.specs.Kept.{renumbered_slot}
use Rattle.nio_select.proofs.asked.Asked.renumbered.Given as goal

abbrev pub invariant-loop-slot : goal.invariant-loop-slot
invariant-loop-slot g l =
    l.slots.items ≡ map (renumbered_slot (g.B.Renumber.renumbered l.by)) (take l.slot-index l.slot-items)
