use Rattle.std.proofs.Common.{◌≡◌, ◌-◌, ◌<◌, ◌≤◌, false, length, take}
use Rattle.nio_bytes.specs.Sink.{shown}
use Rattle.nio_script.specs.Output.{Writes}
use Rattle.nio_script.proofs.output.write_all.Given as goal

abbrev pub invariant-loop-taken : goal.invariant-loop-taken
invariant-loop-taken g l = record {
  within : l.taken ≤ length l.bytes;
  written : Writes g.K.Sink l.initial.sink l.sink (take l.taken l.bytes);
  untouched : l.taken ≡ 0 → l.sink ≡ l.initial.sink;
  unflushed : 0 < l.taken → g.K.Sink.flushed l.sink ≡ shown (g.K.Sink.flushed l.initial.sink) false;
  still : g.K.Sink.faults l.sink ≡ g.K.Sink.faults l.initial.sink;
}

abbrev pub decreases-loop-taken : goal.decreases-loop-taken
decreases-loop-taken g l = length l.bytes - l.taken
