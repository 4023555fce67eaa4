-- Which limits a group can be made with.
use Rattle.std.specs.Prelude.{◌≤◌, ◌^◌}
use Rattle.nio_group.specs.declared.limits.GroupLimits.{GroupLimits}

-- 1 to 65,536 channels, 1 to 65,536 operations in flight, and 1 to 2 ^ 62 operations in all
pub record IsFit (l : GroupLimits) : Type 0 where
  pub some_channels : 1 ≤ l.channels
  pub few_channels : l.channels ≤ 65536
  pub some_flight : 1 ≤ l.flight
  pub few_flight : l.flight ≤ 65536
  pub some_ops : 1 ≤ l.ops
  pub few_ops : l.ops ≤ 2 ^ 62
