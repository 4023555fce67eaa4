use Rattle.nio_steps.proofs.PinLaws.{pins_are_given_back}
use Rattle.nio_bench.proofs.SetUp.{stays_after, stays_call, stays_then}
use Rattle.nio_bench.proofs.reopening.register.Goals as goal

pub try_register-requires-clause-selector : goal.try_register-requires-clause-selector
try_register-requires-clause-selector c =
    (stays_call (pins_are_given_back.try_set_blocking _ _ _) c.try_set_blocking.ensures.call
    c.try_set_blocking.ensures.ready c.requires.idle).idle.selector

pub try_register-requires-clause-channel : goal.try_register-requires-clause-channel
try_register-requires-clause-channel c =
    (stays_call (pins_are_given_back.try_set_blocking _ _ _) c.try_set_blocking.ensures.call
    c.try_set_blocking.ensures.ready c.requires.idle).channels _ c.requires.channel

pub try_register-requires-clause-unpinned : goal.try_register-requires-clause-unpinned
try_register-requires-clause-unpinned c =
    (stays_call (pins_are_given_back.try_set_blocking _ _ _) c.try_set_blocking.ensures.call
    c.try_set_blocking.ensures.ready c.requires.idle).idle.unpinned

pub returns : goal.returns
returns c =
    let set = stays_call (pins_are_given_back.try_set_blocking _ _ _) c.try_set_blocking.ensures.call
    c.try_set_blocking.ensures.ready c.requires.idle in
    let made = stays_after c.try_register.ensures.call.acts c.try_register.ensures.ready
    c.try_register.ensures.unpinned set.idle in
    stays_then set (stays_then made
    (stays_after c.cancel.ensures.call.acts c.cancel.ensures.ready c.cancel.ensures.unpinned made.idle))
