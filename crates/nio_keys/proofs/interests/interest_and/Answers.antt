use Rattle.nio_steps.proofs.CallLaws.{ran_pinned}
use Rattle.nio_steps.specs.KeyCalls.{if_valid, keep_set, interest_and_plan}
use Rattle.nio_keys.proofs.interests.interest_and.Goals as goal

pub returns-clause-call : goal.returns-clause-call
unfolding interest_and_plan
returns-clause-call c =
    ran_pinned (if_valid c.args.key (λ _. keep_set c.args.key c.args.ops)) c.pin-stage.ensures.act
    c.interest_and_present-answer.ensures.call c.unpin.ensures.act
