use Rattle.std.specs.Prelude.{◌≡◌, ◌≤◌, vec_len, vec_capacity}
use Rattle.nio_record.specs.Recorded.{draws}
use Rattle.nio_record.proofs.recorder.drawn.Given as goal

abbrev pub invariant-loop-number : goal.invariant-loop-number
invariant-loop-number l = record {
  items : l.events.items ≡ draws l.number;
  count : vec_len l.events ≡ l.number;
  room : l.callers ≤ vec_capacity l.events;
}
