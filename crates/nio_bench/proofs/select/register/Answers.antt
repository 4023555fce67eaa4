use Rattle.nio_history.proofs.PassViews.{channel_after}
use Rattle.nio_steps.proofs.PinLaws.{pins_are_given_back}
use Rattle.nio_bench.proofs.SetUp.{idle_call, stays_after}
use Rattle.nio_bench.proofs.select.register.Goals as goal

pub returns : goal.returns
returns c =
    let opened = idle_call (pins_are_given_back.open_channel _ _) c.open_channel.ensures.call
    c.open_channel.ensures.ready c.requires in
    let set = idle_call (pins_are_given_back.try_set_blocking _ _ _) c.try_set_blocking.ensures.call
    c.try_set_blocking.ensures.ready opened in
    (stays_after c.try_register.ensures.call.acts c.try_register.ensures.ready c.try_register.ensures.unpinned set).idle

pub try_register-requires-clause-channel : goal.try_register-requires-clause-channel
try_register-requires-clause-channel c = channel_after c.try_set_blocking.ensures.call.acts c.in_ok-chan.ensures.made

pub try_register-requires-clause-selector : goal.try_register-requires-clause-selector
try_register-requires-clause-selector c =
    let opened = idle_call (pins_are_given_back.open_channel _ _) c.open_channel.ensures.call
    c.open_channel.ensures.ready c.requires in
    (idle_call (pins_are_given_back.try_set_blocking _ _ _) c.try_set_blocking.ensures.call
    c.try_set_blocking.ensures.ready opened).selector

pub try_register-requires-clause-unpinned : goal.try_register-requires-clause-unpinned
try_register-requires-clause-unpinned c =
    let opened = idle_call (pins_are_given_back.open_channel _ _) c.open_channel.ensures.call
    c.open_channel.ensures.ready c.requires in
    (idle_call (pins_are_given_back.try_set_blocking _ _ _) c.try_set_blocking.ensures.call
    c.try_set_blocking.ensures.ready opened).unpinned
