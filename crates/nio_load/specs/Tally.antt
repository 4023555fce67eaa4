-- How a tally grows. No public contract cites this file.
use Rattle.std.specs.Prelude.{ℕ, ◌+◌, Option, None, Some}
use Rattle.nio_load.specs.declared.summary.Tally.{Tally}

-- with the count of one reply more, where it has one
abbrev pub with_count : Tally → Option ℕ → Tally
with_count tally None = tally
with_count tally (Some count) = record {
  selections = tally.selections + 1;
  updates = tally.updates + count;
}
