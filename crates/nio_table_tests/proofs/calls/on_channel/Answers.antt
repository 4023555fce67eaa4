use Rattle.std.proofs.Common.{refl}
use Rattle.nio_steps.proofs.PinLaws.{pins_are_given_back}
use Rattle.nio_words.proofs.Pins.{no_pin_stays}
use Rattle.nio_words.proofs.Views.{step_acts}
use Rattle.nio_channel.proofs.Idle.{idle_after, idle_after_other}
use Rattle.nio_table_tests.proofs.Idle.{idle_call}
use Rattle.nio_table_tests.proofs.calls.on_channel.Goals as goal

pub returns-in-IsOpen : goal.returns-in-IsOpen
returns-in-IsOpen c =
    idle_call (pins_are_given_back.is_open _) c.is_open.ensures.call c.is_open.ensures.ready c.requires.idle

pub returns-in-IsBlocking : goal.returns-in-IsBlocking
returns-in-IsBlocking c =
    idle_call (pins_are_given_back.is_blocking _) c.is_blocking.ensures.call c.is_blocking.ensures.ready c.requires.idle

pub returns-in-IsRegistered : goal.returns-in-IsRegistered
returns-in-IsRegistered c =
    idle_call (pins_are_given_back.is_registered _ _) c.is_registered.ensures.call c.is_registered.ensures.ready
    c.requires.idle

pub returns-in-KeyFor : goal.returns-in-KeyFor
returns-in-KeyFor c =
    idle_call (pins_are_given_back.key_for _ _) c.key_for.ensures.call c.key_for.ensures.ready c.requires.idle

pub returns-in-SetBlocking : goal.returns-in-SetBlocking
returns-in-SetBlocking c =
    idle_call (pins_are_given_back.try_set_blocking _ _ _) c.try_set_blocking.ensures.call
    c.try_set_blocking.ensures.ready c.requires.idle

pub returns-in-Register : goal.returns-in-Register
returns-in-Register c =
    idle_after c.try_register.ensures.call.acts c.try_register.ensures.ready.pass c.try_register.ensures.unpinned
    c.requires.idle

pub returns-in-Close : goal.returns-in-Close
returns-in-Close c =
    idle_after c.close_channel.ensures.call.acts c.close_channel.ensures.ready.pass c.close_channel.ensures.unpinned
    c.requires.idle

pub returns-in-Hold : goal.returns-in-Hold
returns-in-Hold c =
    idle_after_other (step_acts c.try_hold_bit.ensures refl) c.try_hold_bit.ensures.pass
    (no_pin_stays (step_acts c.try_hold_bit.ensures refl) refl c.requires.idle.one_unpinned) c.requires.idle

pub returns-in-Reopen : goal.returns-in-Reopen
returns-in-Reopen c =
    idle_call (pins_are_given_back.reopen_channel _ _) c.reopen_channel.ensures.call c.reopen_channel.ensures.ready
    c.requires.idle
