use Rattle.nio_history.specs.Permanent.{index_claimed}
use Rattle.nio_history.proofs.PassViews.{lasts_over}
use Rattle.nio_steps.proofs.CallLaws.{returned, ran_then, left_after_call}
use Rattle.nio_steps.specs.KeyCalls.{cancel_plan}
use Rattle.nio_steps.specs.Names.{key}
use Rattle.nio_steps.specs.Plan.{reply, when}
use Rattle.nio_channel.proofs.Chains.{left_choice}
use Rattle.nio_channel.proofs.closing.cancel_its.Goals as goal

pub cancel-requires-clause-claimed : goal.cancel-requires-clause-claimed
cancel-requires-clause-claimed c =
    lasts_over (index_claimed c.args.sel.0 c.args.k.index) c.has_number.ensures.call.acts c.requires.claimed

pub cancel-requires-clause-unpinned : goal.cancel-requires-clause-unpinned
cancel-requires-clause-unpinned c = c.has_number.ensures.unpinned c.requires.unpinned

pub returns-then-has_number-clause-call : goal.returns-then-has_number-clause-call
returns-then-has_number-clause-call c =
    returned (ran_then (λ present. when present (cancel_plan (key c.args.sel c.args.k))) c.has_number.ensures.call
    (left_choice (λ b. when b (cancel_plan (key c.args.sel c.args.k))) c.if-has_number.true
    (ran_then (λ _. reply tt) c.cancel.ensures.call (left_after_call c.cancel.ensures.call))))

pub returns-else-has_number-clause-call : goal.returns-else-has_number-clause-call
returns-else-has_number-clause-call c =
    returned (ran_then (λ present. when present (cancel_plan (key c.args.sel c.args.k))) c.has_number.ensures.call
    (left_choice (λ b. when b (cancel_plan (key c.args.sel c.args.k))) c.if-has_number.false
    (left_after_call c.has_number.ensures.call)))

pub returns-else-has_number-clause-unpinned : goal.returns-else-has_number-clause-unpinned
returns-else-has_number-clause-unpinned c = c.has_number.ensures.unpinned c.requires.unpinned
