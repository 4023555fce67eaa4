use Rattle.std.proofs.Common.{◌≡◌}
use Rattle.std.specs.Io.KnownBytes.{Keeps}
use Rattle.nio_bytes.proofs.std_sink.StdSinkSink.flush.Given as goal

abbrev pub invariant-loop : goal.invariant-loop
invariant-loop g l =
    (l.self.faults ≡ l.initial.self.faults)
    × Keeps (g.T.Write.contents l.initial.self.inner) (g.T.Write.contents l.self.inner)
