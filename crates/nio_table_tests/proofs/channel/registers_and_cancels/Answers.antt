use Rattle.nio_history.proofs.PassViews.{channel_after}
use Rattle.nio_table_tests.proofs.Callers.{may_after}
use Rattle.nio_table_tests.proofs.channel.registers_and_cancels.Goals as goal

pub returns-in-Ok-clause-may : goal.returns-in-Ok-clause-may
returns-in-Ok-clause-may c =
    let first = c.try_register.ensures in
    let second = c.cancel.ensures in
    may_after second.call.acts second.ready second.unpinned
    (may_after first.call.acts first.ready first.unpinned c.requires.may)

pub returns-in_default-clause-may : goal.returns-in_default-clause-may
returns-in_default-clause-may c =
    let first = c.try_register.ensures in
    may_after first.call.acts first.ready first.unpinned c.requires.may

pub returns-in-Ok-clause-channel : goal.returns-in-Ok-clause-channel
returns-in-Ok-clause-channel c =
    channel_after c.cancel.ensures.call.acts (channel_after c.try_register.ensures.call.acts c.requires.channel)

pub returns-in_default-clause-channel : goal.returns-in_default-clause-channel
returns-in_default-clause-channel c = channel_after c.try_register.ensures.call.acts c.requires.channel
