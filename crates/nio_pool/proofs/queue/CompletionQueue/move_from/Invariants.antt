use Rattle.nio_pool.proofs.MoveLemmas.{MovesSo}
use Rattle.nio_pool.specs.Queues.{IsPassOf}
use Rattle.nio_pool.proofs.queue.CompletionQueue.move_from.Given as goal

abbrev pub invariant-loop : goal.invariant-loop
invariant-loop g l = record {
  pass : IsPassOf l.self l.pass;
  so : MovesSo l.fn.core l.core l.fn.pass l.pass l.moved;
}
