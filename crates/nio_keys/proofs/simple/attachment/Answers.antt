use Rattle.nio_steps.proofs.CallLaws.{ran_pinned}
use Rattle.nio_steps.specs.KeyCalls.{attachment_present, attachment_plan}
use Rattle.nio_keys.proofs.simple.attachment.Goals as goal

pub returns-clause-call : goal.returns-clause-call
unfolding attachment_plan
returns-clause-call c =
    ran_pinned (attachment_present c.args.key) c.pin-stage.ensures.act c.attachment_present-answer.ensures.call
    c.unpin.ensures.act
