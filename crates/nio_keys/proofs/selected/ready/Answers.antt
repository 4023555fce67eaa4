use Rattle.nio_steps.proofs.CallLaws.{ran_pinned}
use Rattle.nio_steps.specs.KeyCalls.{if_valid, look_ready, ready_plan}
use Rattle.nio_keys.proofs.selected.ready.Goals as goal

pub returns-clause-call : goal.returns-clause-call
unfolding ready_plan
returns-clause-call c =
    ran_pinned (if_valid c.args.key (λ _. look_ready c.args.key)) c.pin-stage.ensures.act
    c.ready_present-answer.ensures.call c.unpin.ensures.act
