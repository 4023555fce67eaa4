use Rattle.nio_steps.proofs.CallLaws.{returned, ran_then, left_of_call}
use Rattle.nio_steps.specs.ChannelCalls.{set_mode_clear}
use Rattle.nio_channel.proofs.modes.set_mode_open.Goals as goal

pub returns-clause-call : goal.returns-clause-call
returns-clause-call c =
    returned (ran_then (set_mode_clear c.args.number c.args.on) c.key_if_blocking-registered.ensures.call
    (left_of_call c.set_mode_clear.ensures.call))
