use Rattle.std.proofs.Common.{◌≡◌, ◌≢◌, ◌<◌, length}
use Rattle.std.specs.Prelude.{All, AllPairs}
use Rattle.nio_serve.specs.Changes.{new_slot}
use Rattle.nio_serve.specs.declared.slot.Slot.{Slot}
use Rattle.nio_serve.proofs.connections.make_slots.Given as goal

abbrev pub invariant-loop-number : goal.invariant-loop-number
invariant-loop-number l = record {
  slots : All (λ (slot : Slot). slot ≡ new_slot) l.slots.items;
  count : length l.slots.items ≡ l.number;
  idle : All (λ i. i < l.number) l.idle.items;
  once : AllPairs (λ i j. i ≢ j) l.idle.items;
  all : length l.idle.items ≡ l.number;
}
