use Rattle.std.proofs.Common.{refl}
use Rattle.nio_words.proofs.Pins.{none_unpinned}
use Rattle.nio_words.proofs.Views.{step_acts}
use Rattle.nio_keys.proofs.pinned.unpin.Goals as goal

pub returns-clause-act : goal.returns-clause-act
returns-clause-act c = step_acts c.unpin.ensures refl

pub returns-clause-unpinned : goal.returns-clause-unpinned
returns-clause-unpinned c = none_unpinned (step_acts c.unpin.ensures refl) c.requires.only
