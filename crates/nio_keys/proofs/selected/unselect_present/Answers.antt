use Rattle.std.proofs.Common.{refl}
use Rattle.nio_words.proofs.Pins.{stays_pinned}
use Rattle.nio_keys.proofs.selected.unselect_present.Goals as goal

pub returns-then-is_in_key_set-clause-pinned : goal.returns-then-is_in_key_set-clause-pinned
returns-then-is_in_key_set-clause-pinned c = stays_pinned c.unselect_bit.ensures refl refl c.requires
