use Rattle.std.proofs.Common.{rules, ◌≡◌, true≢false, sym, ◌∙◌, subst, arith}
use Rattle.nio_pool.specs.Queues.{QueueFields, PassFields, HasAllParts, HasTakenAll}
use Rattle.nio_pool.proofs.Balance.{takes, moment}
use Rattle.nio_pool.proofs.Whole.{take_whole, empty_whole}
use Rattle.nio_pool.proofs.queue.CompletionQueue.take.Goals as goal

pub pop_as-requires-clause-rule : goal.pop_as-requires-clause-rule
pop_as-requires-clause-rule g c =
    let kept = c.pass.invariant in
    (takes _ _ (omega arith), moment _ _ (omega arith))

pub returns-clause-exact : goal.returns-clause-exact
returns-clause-exact g c =
    let P : QueueFields → PassFields → Type 0 = λ q p. p.hand.all ≡ q.parts → HasAllParts q p → HasTakenAll p → ⊥ in
    let none = subst (λ (x : QueueFields × PassFields). P x.0 x.1) (λ i. (c.self.view_is i, c.pass.view_is i))
    (λ all whole. take_whole _ _ _ (whole ∙ sym all) c.in_ok-done.ensures.rule) c.requires.parts in
    λ whole. ((λ e. absurd (true≢false e)), λ same. absurd (none whole same))

pub returns-in_err-done-clause-exact : goal.returns-in_err-done-clause-exact
returns-in_err-done-clause-exact g c =
    let P : QueueFields → PassFields → Type 0 = λ q p. p.hand.all ≡ q.parts → HasAllParts q p → HasTakenAll p in
    let all = subst (λ (x : QueueFields × PassFields). P x.0 x.1) (λ i. (c.self.view_is i, c.pass.view_is i))
    (λ all whole. empty_whole _ (whole ∙ sym all) c.in_err-done.ensures.rule.1) c.requires.parts in
    λ whole. ((λ none. all whole), λ same. search rules)
