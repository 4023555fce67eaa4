use Rattle.nio_pool.specs.Batches.{PutsBatches}
use Rattle.nio_pool.specs.Queues.{GoesOn}
use Rattle.nio_pool.proofs.worker.Worker.work.Given as goal

abbrev pub invariant-loop : goal.invariant-loop
invariant-loop g l = record {
  pass : GoesOn l.self.queue.now l.fn.pass l.pass;
  put : PutsBatches l.fn.pass.hand.put l.pass.hand.put;
}
