use Rattle.std.specs.Prelude.{◌≡◌, ◌++◌}
use Rattle.std.specs.Array.Iter.{array_into_iter_items}
use Rattle.nio_pool.specs.Batches.{numbers_in}
use Rattle.nio_pool.specs.Queues.{GoesOn}
use Rattle.nio_pool.proofs.worker.Worker.put_all.Given as goal

abbrev pub invariant-loop-slot : goal.invariant-loop-slot
invariant-loop-slot g l = record {
  pass : GoesOn l.self.queue.now l.fn.pass l.pass;
  put : l.pass.hand.put ≡ l.fn.pass.hand.put ++ numbers_in l.yielded;
  all : l.fn.batch ≡ l.yielded ++ array_into_iter_items l.slot-iterator;
}
