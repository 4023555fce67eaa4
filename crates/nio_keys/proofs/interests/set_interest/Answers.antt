use Rattle.nio_steps.proofs.CallLaws.{ran_pinned}
use Rattle.nio_steps.specs.KeyCalls.{if_valid, on_supported, put_set, set_interest_plan}
use Rattle.nio_keys.proofs.interests.set_interest.Goals as goal

pub returns-clause-call : goal.returns-clause-call
unfolding set_interest_plan
returns-clause-call c =
    ran_pinned (if_valid c.args.key (on_supported c.args.ops (put_set c.args.key c.args.ops))) c.pin-stage.ensures.act
    c.set_interest_present-answer.ensures.call c.unpin.ensures.act
