use Rattle.nio_history.proofs.PassViews.{selector_after, channel_after}
use Rattle.nio_steps.proofs.PinBack.{no_pin_after}
use Rattle.nio_steps.proofs.PinLaws.{pins_are_given_back}
use Rattle.nio_table_tests.proofs.channel.waits_and_registers.Goals as goal

pub register-key-requires-clause-selector : goal.register-key-requires-clause-selector
register-key-requires-clause-selector g c = selector_after c.set_blocking-mode.ensures.call.acts c.requires.may.selector

pub register-key-requires-clause-channel : goal.register-key-requires-clause-channel
register-key-requires-clause-channel g c = channel_after c.set_blocking-mode.ensures.call.acts c.requires.channel

pub register-key-requires-clause-unpinned : goal.register-key-requires-clause-unpinned
register-key-requires-clause-unpinned g c =
    no_pin_after (λ acts shape. pins_are_given_back.set_blocking _ c.args.chan _ acts _ shape)
    c.set_blocking-mode.ensures.call c.requires.may.unpinned
