use Rattle.nio_steps.proofs.CallLaws.{ran_pinned}
use Rattle.nio_steps.specs.KeyCalls.{if_valid, look_set, interest_plan}
use Rattle.nio_keys.proofs.interests.interest.Goals as goal

pub returns-clause-call : goal.returns-clause-call
unfolding interest_plan
returns-clause-call c =
    ran_pinned (if_valid c.args.key (λ _. look_set c.args.key)) c.pin-stage.ensures.act
    c.interest_present-answer.ensures.call c.unpin.ensures.act
