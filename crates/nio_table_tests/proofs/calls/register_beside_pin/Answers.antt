use Rattle.nio_history.proofs.PassViews.{key_after}
use Rattle.nio_steps.proofs.PinLaws.{pins_are_given_back}
use Rattle.nio_table_tests.proofs.Idle.{idle_call}
use Rattle.nio_table_tests.proofs.calls.register_beside_pin.Goals as goal

pub registered_beside_pin-requires-clause-idle : goal.registered_beside_pin-requires-clause-idle
registered_beside_pin-requires-clause-idle c =
    idle_call (pins_are_given_back.find_channel _ _ _) c.find_channel.ensures.call c.find_channel.ensures.ready
    c.requires.idle

pub registered_beside_pin-requires-clause-key : goal.registered_beside_pin-requires-clause-key
registered_beside_pin-requires-clause-key c = key_after c.find_channel.ensures.call.acts c.requires.key

pub returns-in-None : goal.returns-in-None
returns-in-None c =
    idle_call (pins_are_given_back.find_channel _ _ _) c.find_channel.ensures.call c.find_channel.ensures.ready
    c.requires.idle
