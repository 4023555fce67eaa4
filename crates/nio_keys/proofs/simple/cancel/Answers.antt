use Rattle.nio_steps.proofs.CallLaws.{ran_pinned}
use Rattle.nio_steps.specs.KeyCalls.{cancel_present, cancel_plan}
use Rattle.nio_keys.proofs.simple.cancel.Goals as goal

pub returns-clause-call : goal.returns-clause-call
unfolding cancel_plan
returns-clause-call c =
    ran_pinned (cancel_present c.args.key) c.pin-stage.ensures.act c.cancel_present.ensures.call c.unpin.ensures.act
