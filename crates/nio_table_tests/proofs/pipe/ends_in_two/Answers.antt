use Rattle.std.proofs.Common.{refl}
use Rattle.nio_pipe.proofs.Idle.{may_idle, may_stay, may_go, may_same}
use Rattle.nio_table_tests.proofs.pipe.ends_in_two.Goals as goal

pub returns-clause-reader : goal.returns-clause-reader
returns-clause-reader c =
    may_stay c.in_ok-q.ensures (may_idle c.in_ok-source.ensures.idle c.in_ok-source.ensures.channels)

pub returns-clause-writer : goal.returns-clause-writer
returns-clause-writer c =
    let made = c.in_ok-source.ensures in
    may_same made.ends.channel refl (may_go c.in_ok-q.ensures made.idle made.channels)
