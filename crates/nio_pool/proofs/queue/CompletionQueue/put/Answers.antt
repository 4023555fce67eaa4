use Rattle.std.proofs.Common.{◌≡◌, ◌↔◌, IsOk, sym, ◌∙◌, subst, arith}
use Rattle.nio_pool.specs.Queues.{QueueFields, PassFields, HasAllParts, HasRoom}
use Rattle.nio_pool.proofs.Balance.{puts, moment}
use Rattle.nio_pool.proofs.Whole.{put_whole}
use Rattle.nio_pool.proofs.queue.CompletionQueue.put.Goals as goal

pub push_as-requires-clause-rule : goal.push_as-requires-clause-rule
push_as-requires-clause-rule g c =
    let kept = c.pass.invariant in
    (puts _ _ _ _ (omega arith), moment _ _ (omega arith))

pub returns-clause-exact : goal.returns-clause-exact
returns-clause-exact g c =
    let P : QueueFields → PassFields → Type 0 = λ q p. p.hand.all ≡ q.parts → HasAllParts q p
    → IsOk c.push_as.result ↔ HasRoom q p in
    subst (λ (x : QueueFields × PassFields). P x.0 x.1) (λ i. (c.self.view_is i, c.pass.view_is i))
    (λ all whole. put_whole _ _ _ _ _ (whole ∙ sym all) c.push_as.ensures.rule) c.requires.parts
