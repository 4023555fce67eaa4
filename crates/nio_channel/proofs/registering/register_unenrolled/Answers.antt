use Rattle.std.proofs.Common.{refl}
use Rattle.nio_words.proofs.Pins.{no_pin_stays}
use Rattle.nio_words.proofs.Views.{step_acts}
use Rattle.nio_channel.proofs.Held.{may_enrol_stays}
use Rattle.nio_channel.proofs.registering.register_unenrolled.Goals as goal

pub returns-then-look_gate-clause-may : goal.returns-then-look_gate-clause-may
returns-then-look_gate-clause-may c = may_enrol_stays c.look_gate.ensures refl refl c.requires.may

pub returns-then-look_gate-clause-unpinned : goal.returns-then-look_gate-clause-unpinned
returns-then-look_gate-clause-unpinned c = no_pin_stays (step_acts c.look_gate.ensures refl) refl c.requires.unpinned

pub returns-else-look_gate-clause-may : goal.returns-else-look_gate-clause-may
returns-else-look_gate-clause-may c = may_enrol_stays c.look_gate.ensures refl refl c.requires.may

pub returns-else-look_gate-clause-unpinned : goal.returns-else-look_gate-clause-unpinned
returns-else-look_gate-clause-unpinned c = no_pin_stays (step_acts c.look_gate.ensures refl) refl c.requires.unpinned
