use Rattle.std.proofs.Common.{ap, arith}
use Rattle.nio_pool.specs.Queues.{PassFields}
use Rattle.nio_pool.proofs.Balance.{cuts}
use Rattle.nio_pool.proofs.queue.QueuePass.cut.Goals as goal

pub another-pass-requires-clause-rule : goal.another-pass-requires-clause-rule
another-pass-requires-clause-rule c =
    let parts = ap (λ (p : PassFields). p.hand.parts) c.self.view_is in
    cuts _ _ (omega arith)
