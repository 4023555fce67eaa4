use Rattle.nio_steps.proofs.CallLaws.{ran_pinned}
use Rattle.nio_steps.specs.KeyCalls.{if_valid, on_supported, add_set, interest_or_plan}
use Rattle.nio_keys.proofs.interests.interest_or.Goals as goal

pub returns-clause-call : goal.returns-clause-call
unfolding interest_or_plan
returns-clause-call c =
    ran_pinned (if_valid c.args.key (on_supported c.args.ops (add_set c.args.key c.args.ops))) c.pin-stage.ensures.act
    c.interest_or_present-answer.ensures.call c.unpin.ensures.act
