use Rattle.nio_steps.proofs.PinLaws.{pins_are_given_back}
use Rattle.nio_bench.proofs.SetUp.{stays_after, stays_call}
use Rattle.nio_bench.proofs.reopening.turn.Goals as goal

pub register-requires-clause-idle : goal.register-requires-clause-idle
register-requires-clause-idle g c =
    (stays_call (pins_are_given_back.reopen_channel _ _) c.reopen_channel.ensures.call c.reopen_channel.ensures.ready
    c.requires.idle).idle

pub close_channel-requires-clause-channel : goal.close_channel-requires-clause-channel
close_channel-requires-clause-channel g c =
    c.in_ok-select.ensures.channels _ (c.in_ok-register.ensures.channels _ c.in_ok-chan.ensures.opened)

pub returns-clause-idle : goal.returns-clause-idle
returns-clause-idle g c =
    (stays_after c.close_channel.ensures.call.acts c.close_channel.ensures.ready c.close_channel.ensures.unpinned
    c.in_ok-select.ensures.idle).idle

pub returns-clause-channel : goal.returns-clause-channel
returns-clause-channel g c =
    (stays_after c.close_channel.ensures.call.acts c.close_channel.ensures.ready c.close_channel.ensures.unpinned
    c.in_ok-select.ensures.idle).channels _
    (c.in_ok-select.ensures.channels _ (c.in_ok-register.ensures.channels _ c.in_ok-chan.ensures.opened))
