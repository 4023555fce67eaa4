use Rattle.std.proofs.Common.{refl}
use Rattle.nio_words.proofs.Pins.{stays_pinned}
use Rattle.nio_words.proofs.Views.{step_acts, touched_amid}
use Rattle.nio_keys.proofs.interests.interest_and_present.Goals as goal

pub and_interest-requires-clause-pinned : goal.and_interest-requires-clause-pinned
and_interest-requires-clause-pinned c = (stays_pinned c.touch.ensures refl refl c.requires).only.here

pub and_interest-requires-clause-touched : goal.and_interest-requires-clause-touched
and_interest-requires-clause-touched c =
    touched_amid (step_acts c.touch.ensures refl) (stays_pinned c.touch.ensures refl refl c.requires).only.here

pub returns-clause-pinned : goal.returns-clause-pinned
returns-clause-pinned c =
    stays_pinned c.and_interest.ensures refl refl (stays_pinned c.touch.ensures refl refl c.requires)
