use Rattle.nio_operations.specs.Handling.{Handles}
use Rattle.nio_pool.specs.Queues.{IsPassOf}
use Rattle.nio_operations.proofs.handlers.handle_batch.Given as goal

abbrev pub invariant-loop-count : goal.invariant-loop-count
invariant-loop-count g l = record {
  handles : Handles l.fn.first (record { held = l.fn.streams.held; group = l.fn.core })
      (record { held = l.streams.held; group = l.core }) l.fn.pass l.pass l.count;
  pass : IsPassOf l.queue l.pass;
}
