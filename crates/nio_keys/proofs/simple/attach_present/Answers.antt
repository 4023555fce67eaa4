use Rattle.std.proofs.Common.{refl}
use Rattle.nio_words.proofs.Pins.{stays_pinned}
use Rattle.nio_keys.proofs.simple.attach_present.Goals as goal

pub returns-then-fits-clause-pinned : goal.returns-then-fits-clause-pinned
returns-then-fits-clause-pinned c = stays_pinned c.swap_note.ensures refl refl c.requires
