-- How many threads a group may have.
use Rattle.std.specs.Prelude.{ℤ, pos, ◌≤ℤ◌}

abbrev pub IsThreadCount : ℤ → Type 0
IsThreadCount threads = (pos 1 ≤ℤ threads) × (threads ≤ℤ pos 64)
