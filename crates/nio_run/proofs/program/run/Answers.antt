use Rattle.std.proofs.Common.{ℕ, map, refl, subst, sym}
use Rattle.std.specs.String.{string_bytes}
use Rattle.nio_link.specs.Nets.{view_of}
use Rattle.nio_script.specs.Output.{WritesOrFails}
use Rattle.nio_script.specs.declared.status.Status.TheVariants as status
use Rattle.nio_run.specs.declared.program.TheConstants.{PROGRAM_LIMITS}
use Rattle.nio_relay.specs.declared.plan.ProxyPlan.{ProxyPlan}
use Rattle.nio_command.specs.declared.way.ProxyWay.TheVariants.{Many}
use Rattle.nio_run.specs.Load.{DoesLoad}
use Rattle.nio_run.specs.Many.{DoesMany}
use Rattle.nio_relay.specs.declared.plan.PacketPlan.{PacketPlan}
use Rattle.nio_run.specs.Packets.{DoesPackets}
use Rattle.nio_run.specs.Proxy.{DoesProxy, HasOneNet}
use Rattle.nio_run.specs.Relays.{EndsRelay}
use Rattle.nio_load.specs.Load.{EndsLoad}
use Rattle.nio_reactor.proofs.Nets.{members}
use Rattle.nio_run.proofs.Legal.{writes_legal}
use Rattle.nio_run.proofs.ByWorkers.{unserved_many}
use Rattle.nio_run.proofs.Named.{begins_packets, begins_proxy, its_packets, its_plan, its_rounds, its_way, its_workers}
use Rattle.nio_run.proofs.Named.{no_packets, no_plan, not_many, packets_no_proxy, proxy_no_packets, takes_none}
use Rattle.nio_run.proofs.Serves.{unserved}
use Rattle.nio_run.proofs.Unsent.{unsent}
use Rattle.nio_run.proofs.program.run.Goals as goal

pub returns-in-Ok-Script-clause-legal : goal.returns-in-Ok-Script-clause-legal
returns-in-Ok-Script-clause-legal g c = λ words done.
    let read = c.run_on_table.ensures.script.done done in (
      read.0,
      read.1,
      writes_legal g.K.Sink c.args.table.now c.args.output.now c.run_on_table.new.output
          c.run_on_table.new.pass PROGRAM_LIMITS read.0 c.requires.limits read.2,
    )

pub returns-in-Err-Usage-clause-usage_said : goal.returns-in-Err-Usage-clause-usage_said
returns-in-Err-Usage-clause-usage_said g c = λ usage. record {
  said = subst (WritesOrFails g.K.Sink c.args.output.now c.offer.new.output) c.as_bytes.ensures.value
      c.offer.ensures.said;
  unread = refl;
  uncalled = refl;
}

pub returns-in-Err-Usage-clause-too_long : goal.returns-in-Err-Usage-clause-too_long
returns-in-Err-Usage-clause-too_long g c =
    takes_none g.S.Source c.args.input.now status.Usage (λ long. absurd (cc long))

pub returns-in-Ok-Proxy-clause-proxy : goal.returns-in-Ok-Proxy-clause-proxy
returns-in-Ok-Proxy-clause-proxy g c = λ plan way says one.
    subst (λ (p : ProxyPlan). DoesProxy g.K.Sink p (view_of (members g.N.Poller g.N.Net) c.args.net) (view_of (members g.N.Poller g.N.Net) c.serve.result.net)
    c.args.output.now c.serve.new.output c.serve.result.status)
    (its_plan c.in-Ok-Proxy.field-0 c.in-Ok-Proxy.plan plan c.in-Ok-Proxy.way way c.in-Ok-Proxy.field-0-is
    (c.in-Ok-Proxy.ensures.proxy_only plan way says))
    (c.serve.ensures.proxy (subst HasOneNet (sym
    (its_way c.in-Ok-Proxy.field-0 c.in-Ok-Proxy.plan plan c.in-Ok-Proxy.way way c.in-Ok-Proxy.field-0-is
    (c.in-Ok-Proxy.ensures.proxy_only plan way says))) one))

pub returns-in-Ok-Proxy-clause-many : goal.returns-in-Ok-Proxy-clause-many
returns-in-Ok-Proxy-clause-many g c = λ plan workers says.
    subst (λ (p : ProxyPlan). DoesMany g.K.Sink (members g.N.Poller g.N.Net) p workers c.args.net
    c.serve.result.net c.args.more.now.items c.serve.new.more.items c.args.output.now c.serve.new.output
    c.serve.result.status)
    (its_plan c.in-Ok-Proxy.field-0 c.in-Ok-Proxy.plan plan c.in-Ok-Proxy.way (Many workers) c.in-Ok-Proxy.field-0-is
    (c.in-Ok-Proxy.ensures.proxy_only plan (Many workers) says))
    (c.serve.ensures.many workers
    (its_way c.in-Ok-Proxy.field-0 c.in-Ok-Proxy.plan plan c.in-Ok-Proxy.way (Many workers) c.in-Ok-Proxy.field-0-is
    (c.in-Ok-Proxy.ensures.proxy_only plan (Many workers) says)))

pub returns-in-Ok-Proxy-clause-no_workers : goal.returns-in-Ok-Proxy-clause-no_workers
returns-in-Ok-Proxy-clause-no_workers g c = λ none.
    c.serve.ensures.alone
    (not_many (map string_bytes c.args.words.now) c.in-Ok-Proxy.field-0 c.in-Ok-Proxy.plan c.in-Ok-Proxy.way
    c.in-Ok-Proxy.field-0-is c.in-Ok-Proxy.ensures.proxy none)

pub returns-in-Ok-Proxy-clause-too_long : goal.returns-in-Ok-Proxy-clause-too_long
returns-in-Ok-Proxy-clause-too_long g c = takes_none g.S.Source c.args.input.now c.serve.result.status
    (λ long. subst EndsRelay long c.serve.ensures.ends)

pub returns-in-Ok-Proxy-clause-no_net : goal.returns-in-Ok-Proxy-clause-no_net
returns-in-Ok-Proxy-clause-no_net g c = λ other. absurd (other
    (begins_proxy (map string_bytes c.args.words.now) c.in-Ok-Proxy.field-0 c.in-Ok-Proxy.plan c.in-Ok-Proxy.way
    c.in-Ok-Proxy.field-0-is c.in-Ok-Proxy.ensures.proxy))

pub returns-in-Ok-Load-clause-load : goal.returns-in-Ok-Load-clause-load
returns-in-Ok-Load-clause-load g c = λ rounds says.
    subst (λ (n : ℕ). DoesLoad g.K.Sink c.args.table.now n c.args.output.now c.load_on_table.new.output
    c.args.pass.now c.load_on_table.new.pass c.load_on_table.result)
    (its_rounds c.in-Ok-Load.field-0 c.in-Ok-Load.rounds rounds c.in-Ok-Load.field-0-is
    ((c.in-Ok-Load.ensures.load rounds).1 says)) c.load_on_table.ensures.load

pub returns-in-Ok-Load-clause-too_long : goal.returns-in-Ok-Load-clause-too_long
returns-in-Ok-Load-clause-too_long g c =
    takes_none g.S.Source c.args.input.now c.load_on_table.result
    (λ long. subst EndsLoad long c.load_on_table.ensures.load.ends)

pub returns-in-Err-Usage-clause-proxy : goal.returns-in-Err-Usage-clause-proxy
returns-in-Err-Usage-clause-proxy g c =
    λ plan way says one. absurd
    (no_plan c.in-Err-Usage.field-0 plan way c.in-Err-Usage.field-0-is
    (c.in-Err-Usage.ensures.proxy_only plan way says))

pub returns-in-Err-Usage-clause-many : goal.returns-in-Err-Usage-clause-many
returns-in-Err-Usage-clause-many g c =
    λ plan workers says. absurd
    (no_plan c.in-Err-Usage.field-0 plan (Many workers) c.in-Err-Usage.field-0-is
    (c.in-Err-Usage.ensures.proxy_only plan (Many workers) says))

pub returns-clause-proxy : goal.returns-clause-proxy
returns-clause-proxy g c = λ plan way says one.
    unserved g.K.Sink plan (view_of (members g.N.Poller g.N.Net) c.args.net) c.args.output.now c.requires.fresh

pub returns-clause-many : goal.returns-clause-many
returns-clause-many g c = λ plan workers says.
    unserved_many (members g.N.Poller g.N.Net) plan c.args.more.now.items c.requires.more workers c.args.net c.requires.fresh g.K.Sink
    c.args.output.now

pub returns-in-Ok-Timed-clause-timed : goal.returns-in-Ok-Timed-clause-timed
returns-in-Ok-Timed-clause-timed g c = λ words.
    let does = c.run_timed.ensures in
    record {
      done = does.done;
      bad_script = does.bad_script;
      write_fault = does.write_fault;
      memory = does.memory;
      unread = does.unread;
      ends = does.ends;
      of_script = does.of_script;
      of_bad = does.of_bad;
      of_long = does.of_long;
      complete = does.complete;
    }

pub serve-requires-clause-way : goal.serve-requires-clause-way
serve-requires-clause-way g c κs within =
    its_workers c.in-Ok-Proxy.field-0 c.in-Ok-Proxy.plan c.in-Ok-Proxy.way c.in-Ok-Proxy.field-0-is
    c.in-Ok-Proxy.ensures.servable

pub returns-in-Ok-Proxy-clause-packets : goal.returns-in-Ok-Proxy-clause-packets
returns-in-Ok-Proxy-clause-packets g c = λ plan says. absurd
    (proxy_no_packets c.in-Ok-Proxy.field-0 c.in-Ok-Proxy.plan c.in-Ok-Proxy.way plan c.in-Ok-Proxy.field-0-is
    (c.in-Ok-Proxy.ensures.packets_only plan says))

pub returns-in-Ok-Packets-clause-proxy : goal.returns-in-Ok-Packets-clause-proxy
returns-in-Ok-Packets-clause-proxy g c = λ plan way says one. absurd
    (packets_no_proxy c.in-Ok-Packets.field-0 c.in-Ok-Packets.plan plan way c.in-Ok-Packets.field-0-is
    (c.in-Ok-Packets.ensures.proxy_only plan way says))

pub returns-in-Ok-Packets-clause-many : goal.returns-in-Ok-Packets-clause-many
returns-in-Ok-Packets-clause-many g c = λ plan workers says. absurd
    (packets_no_proxy c.in-Ok-Packets.field-0 c.in-Ok-Packets.plan plan (Many workers) c.in-Ok-Packets.field-0-is
    (c.in-Ok-Packets.ensures.proxy_only plan (Many workers) says))

pub returns-clause-too_long : goal.returns-clause-too_long
returns-clause-too_long g c =
    takes_none g.S.Source c.args.input.now status.Memory (λ long. absurd (cc long))

pub returns-in-Ok-Packets-clause-packets : goal.returns-in-Ok-Packets-clause-packets
returns-in-Ok-Packets-clause-packets g c = λ plan says.
    subst (λ (p : PacketPlan). DoesPackets g.K.Sink p (g.D.PacketNet.traffic c.args.packets.now)
    (g.D.PacketNet.traffic c.relay_packets.new.packets) (g.D.PacketNet.place c.args.packets.now)
    (g.D.PacketNet.place c.relay_packets.new.packets) (g.D.PacketNet.packet_faults c.args.packets.now)
    (g.D.PacketNet.packet_faults c.relay_packets.new.packets) (g.D.Poller.poll_faults c.args.packets.now)
    (g.D.Poller.poll_faults c.relay_packets.new.packets) c.args.output.now c.relay_packets.new.output
    c.relay_packets.result)
    (its_packets c.in-Ok-Packets.field-0 c.in-Ok-Packets.plan plan c.in-Ok-Packets.field-0-is
    (c.in-Ok-Packets.ensures.packets_only plan says)) c.relay_packets.ensures.packets

pub returns-in-Ok-Packets-clause-too_long : goal.returns-in-Ok-Packets-clause-too_long
returns-in-Ok-Packets-clause-too_long g c = takes_none g.S.Source c.args.input.now c.relay_packets.result
    (λ long. subst EndsRelay long c.relay_packets.ensures.packets.ends)

pub returns-in-Ok-Packets-clause-no_packets : goal.returns-in-Ok-Packets-clause-no_packets
returns-in-Ok-Packets-clause-no_packets g c = λ other. absurd (other
    (begins_packets (map string_bytes c.args.words.now) c.in-Ok-Packets.field-0 c.in-Ok-Packets.plan
    c.in-Ok-Packets.field-0-is c.in-Ok-Packets.ensures.packets))

pub returns-in-Err-Usage-clause-packets : goal.returns-in-Err-Usage-clause-packets
returns-in-Err-Usage-clause-packets g c =
    λ plan says. absurd
    (no_packets c.in-Err-Usage.field-0 plan c.in-Err-Usage.field-0-is
    (c.in-Err-Usage.ensures.packets_only plan says))

pub returns-clause-packets : goal.returns-clause-packets
returns-clause-packets g c = λ plan says.
    unsent g.K.Sink plan (g.D.PacketNet.traffic c.args.packets.now) (g.D.PacketNet.place c.args.packets.now)
    (g.D.PacketNet.packet_faults c.args.packets.now) (g.D.Poller.poll_faults c.args.packets.now) c.args.output.now
    c.requires.client_unused c.requires.target_unused c.requires.client_free c.requires.target_free
