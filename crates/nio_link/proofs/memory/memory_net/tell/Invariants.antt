use Rattle.std.proofs.Common.{◌≡◌}
use Rattle.nio_link.specs.MemoryNet.{told_pairs}
use Rattle.nio_select.specs.Asked.{keys_to}
use Rattle.nio_link.proofs.memory.memory_net.tell.Given as goal

abbrev pub invariant-loop-index : goal.invariant-loop-index
invariant-loop-index l = l.pairs.items ≡ told_pairs l.slots l.log.occupants l.waiting (keys_to l.index l.asked.keys)
