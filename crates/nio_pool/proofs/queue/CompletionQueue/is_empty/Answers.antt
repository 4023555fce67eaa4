use Rattle.std.proofs.Common.{arith}
use Rattle.nio_pool.proofs.Balance.{moment}
use Rattle.nio_pool.proofs.queue.CompletionQueue.is_empty.Goals as goal

pub is_empty_as-requires-clause-rule : goal.is_empty_as-requires-clause-rule
is_empty_as-requires-clause-rule c =
    let kept = c.pass.invariant in
    moment _ _ (omega arith)
