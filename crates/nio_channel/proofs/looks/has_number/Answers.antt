use Rattle.std.proofs.Common.{refl}
use Rattle.nio_words.proofs.Pins.{no_pin_stays}
use Rattle.nio_words.proofs.Views.{step_acts}
use Rattle.nio_channel.proofs.looks.has_number.Goals as goal

pub returns-clause-unpinned : goal.returns-clause-unpinned
returns-clause-unpinned c = λ none. no_pin_stays (step_acts c.look_channel.ensures refl) refl none
