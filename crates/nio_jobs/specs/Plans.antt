-- Which plans a proxy can serve by the operations of a group or of a desk.
use Rattle.std.specs.Prelude.{◌≤◌}
use Rattle.nio_relay.specs.Plan.{IsServable}
use Rattle.nio_relay.specs.declared.plan.ProxyPlan.{ProxyPlan}

-- A group names its channels by itself, and gives no number of one to a later connection. So each connection needs a slot
-- of its own: there are 1 to 16,000.
pub record HasSlotForEach (plan : ProxyPlan) : Type 0 where
  pub servable : IsServable plan
  pub each : plan.conns ≤ plan.at_once
