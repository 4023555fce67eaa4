use Rattle.std.proofs.Common.{Some, sym}
use Rattle.nio_kept.specs.Counts.{count_of}
use Rattle.nio_kept.specs.Readiness.{polls_of, ready_of}
use Rattle.nio_mio_packets.proofs.Calls.{closes_none}
use Rattle.nio_mio_packets.proofs.net.MioPacketsPacketNet.close_packets.Goals as goal

pub returns-then-not-is_bound : goal.returns-then-not-is_bound
returns-then-not-is_bound g c =
    closes_none c.args.self.now.sides.items c.args.chan (count_of c.args.self.now.counts)
    (ready_of c.args.self.now.readiness) c.args.self.now.poll_faults (Some (polls_of c.args.self.now.readiness))
    (sym c.if-not-is_bound.ensures.bound)
