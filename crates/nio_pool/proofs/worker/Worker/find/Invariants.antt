use Rattle.std.specs.Prelude.{◌≡◌}
use Rattle.nio_pool.specs.Queues.{GoesOn, IsDrained}
use Rattle.nio_pool.proofs.worker.Worker.find.Given as goal

abbrev pub invariant-loop : goal.invariant-loop
invariant-loop g l = record {
  pass : GoesOn l.self.queue.now l.fn.pass l.pass;
  put : l.pass.hand.put ≡ l.fn.pass.hand.put;
  drained : IsDrained l.self.queue.now l.pass;
}
