-- How long a selection waits for a time in milliseconds.
use Rattle.std.specs.Prelude.{zero, suc, ℤ, pos, negsuc, Result, Ok, Err}
use Rattle.nio_history.specs.declared.found.Mode.{Mode}
use Rattle.nio_history.specs.declared.found.Mode.TheVariants.{Wait, For}
use Rattle.nio_history.specs.declared.timeout.NegativeTimeout.{NegativeTimeout}

-- 0 waits without limit, and a negative time is refused
abbrev pub mode_for : ℤ → Result Mode NegativeTimeout
mode_for (pos zero) = Ok Wait
mode_for (pos (suc ms)) = Ok (For (record { after_the_first = ms }))
mode_for (negsuc _) = Err (record {})
