use Rattle.std.proofs.Common.{refl}
use Rattle.nio_history.proofs.PassViews.{channel_after}
use Rattle.nio_steps.proofs.CallLaws.{returned, left_ask, left_then, left_after_call, ran_then}
use Rattle.nio_words.proofs.Pins.{no_pin_stays}
use Rattle.nio_words.proofs.Views.{step_acts}
use Rattle.nio_pipe.proofs.checks.check_interrupt.Goals as goal

pub returns-then-not-look_interrupt-clause-unpinned : goal.returns-then-not-look_interrupt-clause-unpinned
returns-then-not-look_interrupt-clause-unpinned c =
    no_pin_stays (step_acts c.look_interrupt.ensures refl) refl c.requires.unpinned

pub close_channel-requires-clause-channel : goal.close_channel-requires-clause-channel
close_channel-requires-clause-channel c = channel_after (step_acts c.look_interrupt.ensures refl) c.requires.channel

pub close_channel-requires-clause-unpinned : goal.close_channel-requires-clause-unpinned
close_channel-requires-clause-unpinned c =
    no_pin_stays (step_acts c.look_interrupt.ensures refl) refl c.requires.unpinned

pub returns-clause-call : goal.returns-clause-call
returns-clause-call c =
    returned (left_ask _ (step_acts c.look_interrupt.ensures refl)
    (left_then _ _ _ c.if-not-look_interrupt.false
    (ran_then _ c.close_channel.ensures.call (left_after_call c.close_channel.ensures.call))))
