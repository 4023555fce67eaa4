use Rattle.std.proofs.Common.{◌≡◌, length}
use Rattle.nio_link.specs.NetPlans.{client_end, target_end, ends_from, free_slots}
use Rattle.nio_link.proofs.memory.memory_net.MemoryNet.of_plan.Given as goal

abbrev pub invariant-loop-peer : goal.invariant-loop-peer
invariant-loop-peer l = record {
  slots : l.slots.items ≡ free_slots (length l.yielded);
  clients : l.clients.items ≡ ends_from client_end 0 l.yielded;
  targets : l.targets.items ≡ ends_from target_end 0 l.yielded;
}
