use Rattle.std.proofs.Common.{refl}
use Rattle.nio_steps.proofs.PinLaws.{pins_are_given_back}
use Rattle.nio_words.proofs.Pins.{no_pin_stays}
use Rattle.nio_words.proofs.Views.{step_acts}
use Rattle.nio_channel.proofs.Idle.{idle_after, idle_after_other, idle_step}
use Rattle.nio_caller.proofs.GoingOn.{keys}
use Rattle.nio_table_tests.proofs.Idle.{idle_call}
use Rattle.nio_table_tests.proofs.calls.answer.Goals as goal

pub returns-in-OpenSelector : goal.returns-in-OpenSelector
returns-in-OpenSelector c =
    idle_call (pins_are_given_back.open_selector _) c.open_selector.ensures.call c.open_selector.ensures.ready
    c.requires

pub returns-in-FindSelector : goal.returns-in-FindSelector
returns-in-FindSelector c =
    idle_call (pins_are_given_back.find_selector _ _) c.find_selector.ensures.call c.find_selector.ensures.ready
    c.requires

pub returns-in-Keys : goal.returns-in-Keys
returns-in-Keys c = idle_call (keys _).pins c.keys.ensures.call c.keys.ensures.ready c.requires

pub returns-in-SelectedKeys : goal.returns-in-SelectedKeys
returns-in-SelectedKeys c =
    idle_after c.selected_keys.ensures.call.acts c.selected_keys.ensures.ready.pass c.selected_keys.ensures.unpinned
    c.requires

pub returns-in-Wake : goal.returns-in-Wake
returns-in-Wake c =
    idle_after_other (step_acts c.wake.ensures refl) c.wake.ensures.pass
    (no_pin_stays (step_acts c.wake.ensures refl) refl c.requires.one_unpinned) c.requires

pub returns-in-Interrupt : goal.returns-in-Interrupt
returns-in-Interrupt c =
    idle_after_other (step_acts c.set_interrupt.ensures refl) c.set_interrupt.ensures.pass
    (no_pin_stays (step_acts c.set_interrupt.ensures refl) refl c.requires.one_unpinned) c.requires

pub returns-in-TakeInterrupt : goal.returns-in-TakeInterrupt
returns-in-TakeInterrupt c = idle_step c.take_interrupt.ensures refl refl c.requires

pub returns-in-Shut : goal.returns-in-Shut
returns-in-Shut c =
    idle_after_other (step_acts c.shut_bit.ensures refl) c.shut_bit.ensures.pass
    (no_pin_stays (step_acts c.shut_bit.ensures refl) refl c.requires.one_unpinned) c.requires
