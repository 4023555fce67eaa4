use Rattle.std.proofs.Common.{ap, arith}
use Rattle.nio_pool.specs.declared.hand.Hand.{Hand}
use Rattle.nio_pool.proofs.Balance.{shares, merges}
use Rattle.nio_pool.proofs.queue.CompletionQueue.join.Goals as goal

pub absorb-requires-clause-rule : goal.absorb-requires-clause-rule
absorb-requires-clause-rule c =
    let kept = c.pass.invariant in
    merges _ _ _ _ (omega arith)

pub learn_as-requires-clause-rule : goal.learn_as-requires-clause-rule
learn_as-requires-clause-rule c =
    let kept = c.pass.invariant in
    let joined = ap (λ (v : Hand). v.parts) c.absorb.ensures.rule in
    shares _ _ (omega arith)
