use Rattle.std.proofs.Common.{refl}
use Rattle.nio_words.proofs.Pins.{stays_pinned}
use Rattle.nio_select.proofs.listing.list_pinned.Goals as goal

pub returns-then-look_mark-clause-pinned : goal.returns-then-look_mark-clause-pinned
returns-then-look_mark-clause-pinned c = stays_pinned c.look_mark.ensures refl refl c.requires.pinned

pub returns-else-look_mark-clause-pinned : goal.returns-else-look_mark-clause-pinned
returns-else-look_mark-clause-pinned c = stays_pinned c.look_mark.ensures refl refl c.requires.pinned
