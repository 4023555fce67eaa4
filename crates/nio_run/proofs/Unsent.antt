-- A relay of packets that doesn't begin, for want of memory.
use Rattle.std.proofs.Common.{◌≡◌, ℕ, inr, refl, [], arith}
use Rattle.nio_base.specs.declared.numbers.ChanId.{ChanId}
use Rattle.nio_bytes.specs.declared.sink.Sink as sink
use Rattle.nio_datagram.specs.Packets.{Traffic, no_traffic}
use Rattle.nio_datagram.specs.Places.{IsFree}
use Rattle.nio_datagram.specs.Serving.{RelaysPackets, client_chan, target_chan}
use Rattle.nio_datagram.specs.declared.net.Place.{Place}
use Rattle.nio_relay.specs.declared.plan.PacketPlan.{PacketPlan}
use Rattle.nio_base.specs.declared.numbers.Addr.{Addr}
use Rattle.nio_script.specs.declared.status.Status.TheVariants.{Memory}
use Rattle.nio_run.specs.Packets.{DoesPackets}

relays_none : (target : Addr) (traffic : ChanId → Traffic) → traffic client_chan ≡ no_traffic
    → traffic target_chan ≡ no_traffic → RelaysPackets target traffic
relays_none target traffic no_client no_target = record {
  to_target = rw (no_client, no_target) (record {
    sent_to = λ i default within. absurd (omega arith);
    rest = [];
    order = refl;
    at_most_one = omega arith;
  });
  to_client = rw (no_client, no_target) (record {
    sent_to = λ i default within. absurd (omega arith);
    rest = [];
    order = refl;
    at_most_one = omega arith;
  });
}

pub unsent : {K : Type 0} (k : sink.Ghosts K) (plan : PacketPlan) (traffic : ChanId → Traffic) (place : ChanId → Place)
    (faults : ChanId → ℕ) (polls : ℕ) (output : K)
    → traffic client_chan ≡ no_traffic → traffic target_chan ≡ no_traffic → IsFree place client_chan
    → IsFree place target_chan
    → DoesPackets k plan traffic traffic place place faults faults polls polls output output Memory
unsent k plan traffic place faults polls output client_unused target_unused client_free target_free = record {
  done = λ e. absurd (cc e);
  write_fault = λ e. absurd (cc e);
  rose = λ e. absurd (cc e);
  net_fault = λ e. absurd (cc e);
  unwritten = λ _. refl;
  ends = tt;
  relays = relays_none plan.target traffic client_unused target_unused;
  leaves = record {
    listened = rw (client_free.later 0 (omega arith)) tt;
    bound = rw (target_free.later 0 (omega arith)) tt;
    other_traffic = λ c not_client not_target. refl;
    other_places = λ c not_client not_target. refl;
    other_faults = λ c not_client not_target. refl;
    later = λ c. omega arith;
    polls = omega arith;
  };
  complete = λ _ _. inr refl;
}
