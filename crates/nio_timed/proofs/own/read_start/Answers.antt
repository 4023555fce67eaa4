use Rattle.std.proofs.Common.{arith}
use Rattle.nio_timed.proofs.Starts.{reads_start}
use Rattle.nio_timed.proofs.own.read_start.Goals as goal

pub returns : goal.returns
returns c =
    reads_start c.in_ok-chan.chan c.in_ok-kind.kind c.in_ok-len.len c.in_ok-now.now c.in_ok-limit.limit _
    (omega (arith, c.from.ensures)) c.args.args.now _
    (omega (arith, c.in-len5.len_at_least)) (omega (arith, c.in-len5.len_below)) c.in_ok-chan.ensures
    c.in_ok-kind.ensures c.in_ok-len.ensures c.in_ok-now.ensures c.in_ok-limit.ensures
