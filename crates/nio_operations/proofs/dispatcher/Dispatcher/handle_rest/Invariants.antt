use Rattle.nio_pool.specs.Queues.{GoesOn}
use Rattle.nio_operations.proofs.dispatcher.Dispatcher.handle_rest.Given as goal

abbrev pub invariant-loop : goal.invariant-loop
invariant-loop g l = record {
  pass : GoesOn l.fn.self.queue.now l.fn.self.pass l.self.pass;
}
