use Rattle.nio_steps.proofs.CallLaws.{ran_pinned}
use Rattle.nio_steps.specs.KeyCalls.{attach_present, attach_plan}
use Rattle.nio_keys.proofs.simple.attach.Goals as goal

pub returns-clause-call : goal.returns-clause-call
unfolding attach_plan
returns-clause-call c =
    ran_pinned (attach_present c.args.key c.args.att) c.pin-stage.ensures.act c.attach_present-answer.ensures.call
    c.unpin.ensures.act
