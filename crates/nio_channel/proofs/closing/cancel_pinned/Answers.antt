use Rattle.std.proofs.Common.{refl}
use Rattle.nio_words.proofs.Pins.{stays_pinned, pinned_claimed}
use Rattle.nio_words.proofs.Views.{step_acts, touched_amid}
use Rattle.nio_channel.proofs.closing.cancel_pinned.Goals as goal

pub cancel_key-requires-clause-claimed : goal.cancel_key-requires-clause-claimed
cancel_key-requires-clause-claimed c = pinned_claimed (stays_pinned c.touch.ensures refl refl c.requires)

pub cancel_key-requires-clause-pinned : goal.cancel_key-requires-clause-pinned
cancel_key-requires-clause-pinned c = (stays_pinned c.touch.ensures refl refl c.requires).only.here

pub cancel_key-requires-clause-touched : goal.cancel_key-requires-clause-touched
cancel_key-requires-clause-touched c =
    touched_amid (step_acts c.touch.ensures refl) (stays_pinned c.touch.ensures refl refl c.requires).only.here

pub returns-then-not-stage-clause-pinned : goal.returns-then-not-stage-clause-pinned
returns-then-not-stage-clause-pinned c =
    stays_pinned c.cancel_key.ensures refl refl (stays_pinned c.touch.ensures refl refl c.requires)
