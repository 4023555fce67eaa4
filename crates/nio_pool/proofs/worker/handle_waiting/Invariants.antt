use Rattle.std.specs.Prelude.{◌≡◌}
use Rattle.nio_pool.specs.Queues.{GoesOn}
use Rattle.nio_pool.proofs.worker.handle_waiting.Given as goal

abbrev pub invariant-loop : goal.invariant-loop
invariant-loop g l = record {
  pass : GoesOn l.queue l.fn.pass l.pass;
  put : l.pass.hand.put ≡ l.fn.pass.hand.put;
}
