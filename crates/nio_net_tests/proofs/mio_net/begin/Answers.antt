use Rattle.nio_history.proofs.PassViews.{selector_after, channel_after}
use Rattle.nio_steps.proofs.PinBack.{no_pin_after}
use Rattle.nio_steps.proofs.PinLaws.{pins_are_given_back}
use Rattle.nio_net_tests.proofs.mio_net.begin.Goals as goal

pub register-requires-clause-selector : goal.register-requires-clause-selector
register-requires-clause-selector g c =
    selector_after c.in_ok-set_blocking.ensures.call.acts
    (selector_after c.in_ok-chan.ensures.call.acts c.in_ok-sel.ensures.made)

pub register-requires-clause-channel : goal.register-requires-clause-channel
register-requires-clause-channel g c = channel_after c.in_ok-set_blocking.ensures.call.acts c.in_ok-chan.ensures.made

pub register-requires-clause-unpinned : goal.register-requires-clause-unpinned
register-requires-clause-unpinned g c =
    no_pin_after (λ acts shape. pins_are_given_back.set_blocking _ _ _ acts _ shape) c.in_ok-set_blocking.ensures.call
    (no_pin_after (λ acts shape. pins_are_given_back.open_channel _ _ acts _ shape) c.in_ok-chan.ensures.call
    (no_pin_after (λ acts shape. pins_are_given_back.open_selector _ acts _ shape)
    c.in_ok-sel.ensures.call c.requires.unpinned))

pub try_begin-requires-clause-selector : goal.try_begin-requires-clause-selector
try_begin-requires-clause-selector g c =
    selector_after c.in_ok-_key.ensures.call.acts
    (selector_after c.in_ok-set_blocking.ensures.call.acts
    (selector_after c.in_ok-chan.ensures.call.acts c.in_ok-sel.ensures.made))
