-- A relay of packets at work.
use Rattle.std.specs.Prelude.{◌≡◌, ◌≢◌, ◌-◌, ◌^◌, ◌≤◌, min, None, IsSome, length}
use Rattle.nio_base.specs.declared.numbers.Addr.{Addr}
use Rattle.nio_base.specs.declared.numbers.ChanId.{ChanId}
use Rattle.nio_datagram.specs.Nets.{PacketView}
use Rattle.nio_datagram.specs.Packets.{first_sender}
use Rattle.nio_datagram.specs.Passing.{IsPassing}
use Rattle.nio_datagram.specs.Datagrams.{StandsAs}
use Rattle.nio_datagram.specs.Places.{place_after_close}
use Rattle.nio_datagram.specs.Serving.{client_chan, target_chan, RelaysPackets}
use Rattle.nio_datagram.specs.declared.link.DatagramState.TheVariants as state
use Rattle.nio_datagram.specs.declared.net.Place.{Place}
use Rattle.nio_datagram.specs.declared.net.Place.TheVariants.{Unbound, Bound, Closed}
use Rattle.nio_relay.specs.declared.plan.PacketPlan.{PacketPlan}
use Rattle.nio_datagram.specs.declared.relay.Relay.{Relay}

-- both directions of the relay pass on what came
pub record IsRelaying (r : Relay) (net : PacketView) : Type 0 where
  pub client_is : r.client.channel ≡ client_chan
  pub target_is : r.target.channel ≡ target_chan
  pub client : r.client.peer ≡ first_sender (net.traffic client_chan).came
  pub target : IsSome r.target.peer
  pub forth : IsPassing (record { source = r.client; sink = r.target; direction = r.forth; net = net })
  pub back : IsPassing (record { source = r.target; sink = r.client; direction = r.back; net = net })

-- From one state of the net to a later one only the two channels have received and sent. What stands is the same.
pub record Moves (x y : PacketView) : Type 0 where
  pub traffic : (c : ChanId) → c ≢ client_chan → c ≢ target_chan → y.traffic c ≡ x.traffic c
  pub faults : (c : ChanId) → c ≢ client_chan → c ≢ target_chan → y.faults c ≡ x.faults c
  pub later : (c : ChanId) → x.faults c ≤ y.faults c
  pub places : (c : ChanId) → y.place c ≡ x.place c
  pub polls : x.poll_faults ≤ y.poll_faults

-- ---- its beginning and its end

-- neither bound nor connected, and nothing passed on
abbrev pub relay_between : ChanId → ChanId → Relay
relay_between a b = record {
  client = record { channel = a; state = state.Unbound; peer = None };
  target = record { channel = b; state = state.Unbound; peer = None };
  forth = record { held = None; sent = 0 };
  back = record { held = None; sent = 0 };
}

abbrev pub fresh_relay : Relay
fresh_relay = relay_between client_chan target_chan

-- nothing was bound there yet, or a socket is bound to this address
abbrev pub IsAsked : Addr → Place → Type 0
IsAsked wanted Unbound = Unit {0}
IsAsked wanted (Bound at) = at ≡ wanted
IsAsked wanted (Closed at) = ⊥

-- what stands under the relay's channels is what their links say, and was asked for by the plan
pub record IsPlaced (plan : PacketPlan) (r : Relay) (y : PacketView) : Type 0 where
  pub client_is : r.client.channel ≡ client_chan
  pub target_is : r.target.channel ≡ target_chan
  pub client_stands : StandsAs r.client.state y.place client_chan
  pub target_stands : StandsAs r.target.state y.place target_chan
  pub client_asked : IsAsked plan.listen (y.place client_chan)
  pub target_asked : IsAsked plan.local (y.place target_chan)

-- From one state of the net to a later one only the two channels have received, sent, failed or were bound.
pub record Works (x y : PacketView) : Type 0 where
  pub traffic : (c : ChanId) → c ≢ client_chan → c ≢ target_chan → y.traffic c ≡ x.traffic c
  pub faults : (c : ChanId) → c ≢ client_chan → c ≢ target_chan → y.faults c ≡ x.faults c
  pub later : (c : ChanId) → x.faults c ≤ y.faults c
  pub places : (c : ChanId) → c ≢ client_chan → c ≢ target_chan → y.place c ≡ x.place c
  pub polls : x.poll_faults ≤ y.poll_faults

-- the sockets were bound, or one of them couldn't be
pub record Opens (plan : PacketPlan) (r : Relay) (x y : PacketView) : Type 0 where
  pub placed : IsPlaced plan r y
  pub works : Works x y
  pub carried : (c : ChanId) → y.traffic c ≡ x.traffic c
  pub sent : r.forth.sent ≡ 0

-- both are bound as the plan says
pub record AreBound (plan : PacketPlan) (y : PacketView) : Type 0 where
  pub listening : y.place client_chan ≡ Bound plan.listen
  pub bound : y.place target_chan ≡ Bound plan.local

-- all packets of the plan went
pub record IsDone (plan : PacketPlan) (r : Relay) (y : PacketView) : Type 0 where
  pub bound : AreBound plan y
  pub all_went : length (y.traffic target_chan).went ≡ plan.count
  pub forth_count : r.forth.sent ≡ plan.count
  pub back_count : r.back.sent ≡ min (length (y.traffic client_chan).went) (2 ^ 32 - 1)

-- a relay was served, as far as it came
pub record Ran (plan : PacketPlan) (r : Relay) (x y : PacketView) : Type 0 where
  pub placed : IsPlaced plan r y
  pub works : Works x y
  pub relays : RelaysPackets plan.target y.traffic

-- both sockets were closed
pub record Quits (x y : PacketView) : Type 0 where
  pub traffic : (c : ChanId) → y.traffic c ≡ x.traffic c
  pub faults : (c : ChanId) → y.faults c ≡ x.faults c
  pub places : (c : ChanId) → c ≢ client_chan → c ≢ target_chan → y.place c ≡ x.place c
  pub client_place : y.place client_chan ≡ place_after_close (x.place client_chan)
  pub target_place : y.place target_chan ≡ place_after_close (x.place target_chan)
  pub polls : y.poll_faults ≡ x.poll_faults
