-- Which limits a system can be made with.
use Rattle.std.specs.Prelude.{◌≤◌}
use Rattle.nio_base.specs.declared.limits.Limits.{Limits}

-- 1 to 64 callers, 1 to 16 selectors, 1 to 262,144 channels, and 1 to 262,144 indexes of keys for each selector
pub record IsFit (l : Limits) : Type 0 where
  pub some_callers : 1 ≤ l.callers
  pub few_callers : l.callers ≤ 64
  pub some_selectors : 1 ≤ l.selectors
  pub few_selectors : l.selectors ≤ 16
  pub some_channels : 1 ≤ l.channels
  pub few_channels : l.channels ≤ 262144
  pub some_keys : 1 ≤ l.keys
  pub few_keys : l.keys ≤ 262144
