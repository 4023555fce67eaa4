use Rattle.std.proofs.Common.{refl}
use Rattle.nio_pipe.proofs.Idle.{may_idle, may_stay, may_go, may_same}
use Rattle.nio_bench.proofs.checked.run.Goals as goal

pub carry-read-requires-clause-reader : goal.carry-read-requires-clause-reader
carry-read-requires-clause-reader g c κs within =
    may_stay c.in_ok-q.ensures (may_idle c.in_ok-source.ensures.idle c.in_ok-source.ensures.channels)

pub carry-read-requires-clause-writer : goal.carry-read-requires-clause-writer
carry-read-requires-clause-writer g c κs within =
    let made = c.in_ok-source.ensures in
    may_same made.ends.ends.channel refl (may_go c.in_ok-q.ensures made.idle made.channels)
