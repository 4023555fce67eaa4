use Rattle.std.proofs.Common.{◌≡◌, length, take}
use Rattle.nio_pool.specs.Batches.{TakesInto}
use Rattle.nio_pool.proofs.worker.next_batch.Given as goal

abbrev pub invariant-loop-slot : goal.invariant-loop-slot
invariant-loop-slot l = record {
  taken : TakesInto (take l.slot-index l.slot-items) l.fn.core l.core;
  count : length l.slot-items ≡ 16;
}
