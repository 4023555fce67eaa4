use Rattle.std.proofs.Common.{if◌then◌else◌, false}
use Rattle.nio_steps.proofs.CallLaws.{returned, ran_then, left_then, left_else, left_of_call, left_after_call}
use Rattle.nio_steps.specs.ChannelCalls.{has_number, is_registered_plan}
use Rattle.nio_steps.specs.Plan.{reply}
use Rattle.nio_channel.proofs.keys.is_registered.Goals as goal

pub returns-then-has_keys-clause-call : goal.returns-then-has_keys-clause-call
unfolding is_registered_plan
returns-then-has_keys-clause-call c =
    returned (ran_then (λ registered. if registered then has_number c.args.chan else reply false)
    c.has_keys.ensures.call (left_then _ _ _ c.if-has_keys.true (left_of_call c.has_number.ensures.call)))

pub returns-else-has_keys-clause-call : goal.returns-else-has_keys-clause-call
unfolding is_registered_plan
returns-else-has_keys-clause-call c =
    returned (ran_then (λ registered. if registered then has_number c.args.chan else reply false)
    c.has_keys.ensures.call (left_else _ _ _ c.if-has_keys.false (left_after_call c.has_keys.ensures.call)))
