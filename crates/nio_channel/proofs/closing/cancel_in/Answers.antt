use Rattle.std.proofs.Common.{refl}
use Rattle.nio_steps.proofs.CallLaws.{returned, left_ask, left_of_call}
use Rattle.nio_words.proofs.Pins.{no_pin_stays}
use Rattle.nio_words.proofs.Views.{step_acts}
use Rattle.nio_channel.proofs.closing.cancel_in.Goals as goal

pub cancel_its-requires-clause-unpinned : goal.cancel_its-requires-clause-unpinned
cancel_its-requires-clause-unpinned c =
    no_pin_stays (step_acts c.look_enrolled.ensures.step refl) refl c.requires.unpinned

pub returns-in-Some-clause-call : goal.returns-in-Some-clause-call
returns-in-Some-clause-call c =
    returned (left_ask _ (step_acts c.in-Some.ensures.step refl) (left_of_call c.cancel_its.ensures.call))

pub returns-in_default-clause-unpinned : goal.returns-in_default-clause-unpinned
returns-in_default-clause-unpinned c =
    no_pin_stays (step_acts c.look_enrolled.ensures.step refl) refl c.requires.unpinned
