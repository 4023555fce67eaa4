use Rattle.std.proofs.Common.{refl}
use Rattle.nio_history.proofs.PassViews.{channel_after}
use Rattle.nio_words.proofs.Pins.{no_pin_stays}
use Rattle.nio_words.proofs.Stepping.{still_ready}
use Rattle.nio_words.proofs.Views.{step_acts}
use Rattle.nio_table_tests.proofs.Callers.{may_after}
use Rattle.nio_table_tests.proofs.select.wakes_and_closes.Goals as goal

pub registers_and_closes-requires-clause-may : goal.registers_and_closes-requires-clause-may
registers_and_closes-requires-clause-may c =
    let acts = step_acts c.wake.ensures refl in
    may_after acts (still_ready _ _ _ _ _ _ c.wake.ensures c.requires.may.ready)
    (no_pin_stays acts refl c.requires.may.unpinned) c.requires.may

pub registers_and_closes-requires-clause-channel : goal.registers_and_closes-requires-clause-channel
registers_and_closes-requires-clause-channel c = channel_after (step_acts c.wake.ensures refl) c.requires.channel
