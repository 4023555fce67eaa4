use Rattle.nio_steps.proofs.CallLaws.{returned, ran_then, left_after_call}
use Rattle.nio_steps.specs.Plan.{reply}
use Rattle.nio_steps.specs.SelectCalls.{open_selector_plan, opened_selector}
use Rattle.nio_select.proofs.opening.open_selector.Goals as goal

pub returns-in-Some-clause-call : goal.returns-in-Some-clause-call
unfolding open_selector_plan
returns-in-Some-clause-call c =
    returned (ran_then (λ made. reply (opened_selector made)) c.in-Some.ensures.call
    (left_after_call c.in-Some.ensures.call))

pub returns-in-None-clause-call : goal.returns-in-None-clause-call
unfolding open_selector_plan
returns-in-None-clause-call c =
    returned (ran_then (λ made. reply (opened_selector made)) c.in-None.ensures.call
    (left_after_call c.in-None.ensures.call))
