use Rattle.crossbeam_queue.specs.Passes.{ruled_capacity}
use Rattle.nio_pool.specs.Hands.{Puts}
use Rattle.nio_pool.proofs.queue.CompletionQueue.put.Given as goal

abbrev pub ghosts-push_as-M-Outcome : goal.ghosts-push_as-M-Outcome
ghosts-push_as-M-Outcome g a = record { then = Puts (ruled_capacity a.self.now) }
