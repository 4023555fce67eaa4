use Rattle.std.proofs.Common.{arith}
use Rattle.nio_pool.proofs.Balance.{opens}
use Rattle.nio_pool.proofs.queue.open.Goals as goal

pub another-requires-clause-rule : goal.another-requires-clause-rule
another-requires-clause-rule g c = opens _ _ _ (omega arith) c.requires.1.1.1
