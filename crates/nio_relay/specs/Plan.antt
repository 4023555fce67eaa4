-- Which plans a proxy and a relay of packets can serve.
use Rattle.std.specs.Prelude.{◌≤◌}
use Rattle.nio_relay.specs.declared.plan.PacketPlan.{PacketPlan}
use Rattle.nio_relay.specs.declared.plan.ProxyPlan.{ProxyPlan}

-- 1 to 4,294,967,295 connections, and 1 to 16,000 at once
pub record IsServable (p : ProxyPlan) : Type 0 where
  pub some_connections : 1 ≤ p.conns
  pub few_connections : p.conns ≤ 4294967295
  pub some_at_once : 1 ≤ p.at_once
  pub few_at_once : p.at_once ≤ 16000

-- 1 to 1,000,000 packets
pub record IsRelayable (plan : PacketPlan) : Type 0 where
  pub some_packets : 1 ≤ plan.count
  pub few_packets : plan.count ≤ 1000000
