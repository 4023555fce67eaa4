use Rattle.std.proofs.Common.{refl, ap, not}
use Rattle.nio_channel.proofs.Idle.{just_pinned, still_pinned, idle_unpinned}
use Rattle.nio_history.proofs.PassViews.{channel_after}
use Rattle.nio_words.proofs.Views.{step_acts, key_claimed}
use Rattle.nio_table_tests.proofs.calls.registered_beside_pin.Goals as goal

pub pin-requires-clause-claimed : goal.pin-requires-clause-claimed
pin-requires-clause-claimed c = key_claimed c.requires.idle.zero_ready.pass c.requires.key

pub pin-requires-clause-unpinned : goal.pin-requires-clause-unpinned
pin-requires-clause-unpinned c = ap not (c.requires.idle.one_unpinned c.args.key.sel c.args.key.index)

pub try_register-answer-requires-clause-ready : goal.try_register-answer-requires-clause-ready
try_register-answer-requires-clause-ready c = (just_pinned c.pin.ensures c.requires.idle).zero_ready

pub try_register-answer-requires-clause-selector : goal.try_register-answer-requires-clause-selector
try_register-answer-requires-clause-selector c = (just_pinned c.pin.ensures c.requires.idle).selector

pub try_register-answer-requires-clause-channel : goal.try_register-answer-requires-clause-channel
try_register-answer-requires-clause-channel c = channel_after (step_acts c.pin.ensures refl) c.requires.channel

pub try_register-answer-requires-clause-unpinned : goal.try_register-answer-requires-clause-unpinned
try_register-answer-requires-clause-unpinned c = (just_pinned c.pin.ensures c.requires.idle).zero_unpinned

pub unpin-requires-clause-ready : goal.unpin-requires-clause-ready
unpin-requires-clause-ready c =
    (still_pinned c.try_register-answer.ensures.call.acts c.try_register-answer.ensures.ready.pass
    c.try_register-answer.ensures.unpinned (just_pinned c.pin.ensures c.requires.idle)).one_ready

pub unpin-requires-clause-pinned : goal.unpin-requires-clause-pinned
unpin-requires-clause-pinned c =
    (still_pinned c.try_register-answer.ensures.call.acts c.try_register-answer.ensures.ready.pass
    c.try_register-answer.ensures.unpinned (just_pinned c.pin.ensures c.requires.idle)).pin.here

pub returns : goal.returns
returns c =
    idle_unpinned c.unpin.ensures
    (still_pinned c.try_register-answer.ensures.call.acts c.try_register-answer.ensures.ready.pass
    c.try_register-answer.ensures.unpinned (just_pinned c.pin.ensures c.requires.idle))
