use Rattle.nio_steps.proofs.CallLaws.{ran_pinned}
use Rattle.nio_steps.specs.KeyCalls.{unselect_present, unselect_plan}
use Rattle.nio_keys.proofs.selected.unselect.Goals as goal

pub returns-clause-call : goal.returns-clause-call
unfolding unselect_plan
returns-clause-call c =
    ran_pinned (unselect_present c.args.key) c.pin-stage.ensures.act c.unselect_present-answer.ensures.call
    c.unpin.ensures.act
