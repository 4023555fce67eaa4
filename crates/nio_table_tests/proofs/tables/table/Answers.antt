use Rattle.nio_channel.proofs.Idle.{idle_made}
use Rattle.nio_table_tests.proofs.Callers.{first_fits}
use Rattle.nio_table_tests.proofs.tables.table.Goals as goal

pub make_selector-requires-clause-selector : goal.make_selector-requires-clause-selector
make_selector-requires-clause-selector c = first_fits c.in_ok-words.words c.in_ok-words.ensures.limits c.requires

pub returns-clause-idle : goal.returns-clause-idle
returns-clause-idle c =
    let drawn = c.in_ok-words.ensures.drawn in
    idle_made c.make_selector.ensures drawn.zero_ready drawn.one_ready drawn.seen
    (first_fits c.in_ok-words.words c.in_ok-words.ensures.limits c.requires)
