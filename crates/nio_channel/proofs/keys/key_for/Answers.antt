use Rattle.std.proofs.Common.{if◌then◌else◌, Some, None, ap}
use Rattle.nio_history.proofs.PassViews.{key_after}
use Rattle.nio_steps.proofs.CallLaws.{returned, ran_then, left_after_call}
use Rattle.nio_steps.specs.ChannelCalls.{key_for_plan, key_of_channel}
use Rattle.nio_steps.specs.Plan.{reply}
use Rattle.nio_channel.proofs.Chains.{left_at}
use Rattle.nio_channel.proofs.keys.key_for.Goals as goal

pub returns-in_default-clause-call : goal.returns-in_default-clause-call
unfolding key_for_plan
returns-in_default-clause-call c =
    returned (ran_then (key_of_channel c.args.chan) c.in_default.ensures.call
    (left_after_call c.in_default.ensures.call))

pub returns-then-has_number-clause-call : goal.returns-then-has_number-clause-call
unfolding key_for_plan
returns-then-has_number-clause-call c =
    returned (ran_then (key_of_channel c.args.chan) c.in-Some.ensures.call
    (ran_then (λ present. reply (if present then Some c.in-Some.found else None)) c.has_number.ensures.call
    (left_at (ap (λ b. reply (if b then Some c.in-Some.found else None)) c.if-has_number.true)
    c.has_number.ensures.call.acts)))

pub returns-then-has_number-clause-found : goal.returns-then-has_number-clause-found
returns-then-has_number-clause-found c = key_after c.has_number.ensures.call.acts c.in-Some.ensures.found

pub returns-else-has_number-clause-call : goal.returns-else-has_number-clause-call
unfolding key_for_plan
returns-else-has_number-clause-call c =
    returned (ran_then (key_of_channel c.args.chan) c.in-Some.ensures.call
    (ran_then (λ present. reply (if present then Some c.in-Some.found else None)) c.has_number.ensures.call
    (left_at (ap (λ b. reply (if b then Some c.in-Some.found else None)) c.if-has_number.false)
    c.has_number.ensures.call.acts)))
