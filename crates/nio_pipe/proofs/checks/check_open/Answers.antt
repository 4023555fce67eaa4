use Rattle.std.proofs.Common.{◌≡◌, true, false, not, refl, rules}
use Rattle.nio_history.proofs.PassViews.{channel_after}
use Rattle.nio_history.specs.Sets.{is_open_channel}
use Rattle.nio_steps.proofs.CallLaws.{returned, left_ask, left_then, left_else, left_of_call}
use Rattle.nio_steps.specs.PipeCalls.{try_read_plan}
use Rattle.nio_words.proofs.Pins.{no_pin_stays}
use Rattle.nio_words.proofs.Views.{step_acts}
use Rattle.nio_pipe.proofs.checks.check_open.Goals as goal

pub returns-then-not-is_open-clause-unpinned : goal.returns-then-not-is_open-clause-unpinned
returns-then-not-is_open-clause-unpinned c =
    no_pin_stays (step_acts c.look_channel-found.ensures refl) refl c.requires.unpinned

pub returns-then-not-found-clause-unpinned : goal.returns-then-not-found-clause-unpinned
returns-then-not-found-clause-unpinned c =
    no_pin_stays (step_acts c.look_channel-found.ensures refl) refl c.requires.unpinned

pub check_interrupt-requires-clause-channel : goal.check_interrupt-requires-clause-channel
check_interrupt-requires-clause-channel c =
    channel_after (step_acts c.look_channel-found.ensures refl) c.requires.channel

pub check_interrupt-requires-clause-unpinned : goal.check_interrupt-requires-clause-unpinned
check_interrupt-requires-clause-unpinned c =
    no_pin_stays (step_acts c.look_channel-found.ensures refl) refl c.requires.unpinned

pub returns-clause-call : goal.returns-clause-call
unfolding try_read_plan
returns-clause-call c =
    let opens : not (is_open_channel c.look_channel-found.result c.args.chan.serial) ≡ false = search rules in
    let blocking : c.look_channel-found.result.blocking ≡ true = search rules in
    returned (left_ask _ (step_acts c.look_channel-found.ensures refl)
    (left_else _ _ _ opens (left_then _ _ _ blocking (left_of_call c.check_interrupt.ensures.call))))
