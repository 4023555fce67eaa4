use Rattle.nio_channel.proofs.Idle.{idle_after_other}
use Rattle.nio_table_tests.proofs.Idle.{selects_beside, zero_held}
use Rattle.nio_table_tests.proofs.select.cancels_beside.Goals as goal

pub returns-in-Ok-clause-idle : goal.returns-in-Ok-clause-idle
returns-in-Ok-clause-idle c =
    let first = c.try_register.ensures in
    let second = c.cancel.ensures in
    idle_after_other second.call.acts second.ready.pass second.unpinned
    (idle_after_other first.call.acts first.ready.pass first.unpinned c.requires.idle)

pub returns-in-Err-clause-idle : goal.returns-in-Err-clause-idle
returns-in-Err-clause-idle c =
    let first = c.try_register.ensures in
    idle_after_other first.call.acts first.ready.pass first.unpinned c.requires.idle

pub returns-in-Ok-clause-selecting : goal.returns-in-Ok-clause-selecting
returns-in-Ok-clause-selecting c = λ selection has.
    let first = c.try_register.ensures in
    selects_beside c.cancel.ensures.call.acts
    (zero_held (idle_after_other first.call.acts first.ready.pass first.unpinned c.requires.idle))
    (selects_beside first.call.acts (zero_held c.requires.idle) has)

pub returns-in-Err-clause-selecting : goal.returns-in-Err-clause-selecting
returns-in-Err-clause-selecting c =
    λ selection has. selects_beside c.try_register.ensures.call.acts (zero_held c.requires.idle) has
