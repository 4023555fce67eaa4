use Rattle.std.proofs.Common.{◌≡◌}
use Rattle.nio_datagram.specs.MemoryPackets.{told_pairs}
use Rattle.nio_select.specs.Asked.{keys_to}
use Rattle.nio_datagram.proofs.memory.memory_packets.tell.Given as goal

abbrev pub invariant-loop-index : goal.invariant-loop-index
invariant-loop-index l = l.pairs.items ≡ told_pairs l.sides (keys_to l.index l.asked.keys)
