-- One direction of a relay: what it has passed on.
use Rattle.std.specs.Prelude.{◌≡◌, ◌≢◌, ℕ, ◌+◌, ◌-◌, ◌^◌, ◌≤◌, min, Bool, true, false, IsTrue, Option, Some, None}
use Rattle.std.specs.Prelude.{Result, Ok, Err, List, [], ◌++◌, length, take}
use Rattle.std.specs.List.{All}
use Rattle.std.specs.Option.{option_to_list}
use Rattle.nio_base.specs.declared.numbers.Addr.{Addr}
use Rattle.nio_base.specs.declared.numbers.ChanId.{ChanId}
use Rattle.nio_link.specs.declared.net.Failed.{Failed}
use Rattle.nio_base.specs.Ops.{is_within}
use Rattle.nio_datagram.specs.Datagrams.{Datagram, heard_of, as_fault}
use Rattle.nio_datagram.specs.Nets.{PacketView, Receives, Sends}
use Rattle.nio_datagram.specs.Packets.{Packet, bytes_of, heard_from, first_sender}
use Rattle.nio_datagram.specs.Places.{IsBound}
use Rattle.nio_datagram.specs.declared.direction.Readiness.{Readiness}
use Rattle.nio_datagram.specs.declared.link.DatagramState.TheVariants as state
use Rattle.nio_datagram.specs.declared.link.Heard.{Heard}
use Rattle.nio_datagram.specs.declared.link.Heard.TheVariants as heard
use Rattle.nio_datagram.specs.declared.link.PacketError.{PacketError}
use Rattle.nio_datagram.specs.declared.net.Came.{Came}

-- what a direction holds, and how many packets it has sent
pub record Passing : Type 0 where
  pub held : Option (List ℕ)
  pub sent : ℕ

-- what was heard from a peer, if there is one yet
abbrev pub heard_by : Option Addr → List Packet → List (List ℕ)
heard_by None came = []
heard_by (Some peer) came = heard_from peer came

-- the packet's address is this one
abbrev pub IsTo : Option Addr → Packet → Type 0
IsTo to p = Some p.addr ≡ to

-- What went is what came from the peer, in its order, but for the packet that the direction holds.
pub record PassesOn (peer to : Option Addr) (came went : List Packet) (d : Passing) : Type 0 where
  pub order : bytes_of went ++ option_to_list d.held ≡ heard_by peer came
  pub unheard : peer ≡ None → came ≡ []
  pub sent_to : All (IsTo to) went
  pub count : d.sent ≡ min (length went) (2 ^ 32 - 1)

-- ---- its calls

abbrev pub held_after : Result Heard PacketError → List ℕ → Option (List ℕ) → Option (List ℕ)
held_after (Ok (heard.Packet len from)) filled before = Some (take len filled)
held_after (Ok heard.Stranger) filled before = before
held_after (Ok heard.NotYet) filled before = before
held_after (Err error) filled before = before

-- a packet was looked for on channel c
pub record Takes (c : ChanId) (peer : Option Addr) (before now : Passing) (old new : PacketView)
    (result : Result Heard PacketError) : Type 0 where
  pub made : Result Came Failed
  pub filled : List ℕ
  pub told : result ≡ heard_of peer made
  pub net : Receives c old new filled made
  pub direction : now ≡ record before { held = held_after result filled before.held }

-- to whom the source is connected, after a packet from this address
abbrev pub peer_after : Addr → Option Addr → Option Addr
peer_after from None = Some from
peer_after from (Some peer) = Some peer

abbrev pub peer_told : Result Heard PacketError → Option Addr → Option Addr
peer_told (Ok (heard.Packet len from)) peer = peer_after from peer
peer_told (Ok heard.Stranger) peer = peer
peer_told (Ok heard.NotYet) peer = peer
peer_told (Err error) peer = peer

-- whether another packet may have come
abbrev pub more_of : Result Heard PacketError → Result Bool PacketError
more_of (Ok (heard.Packet len from)) = Ok true
more_of (Ok heard.Stranger) = Ok true
more_of (Ok heard.NotYet) = Ok false
more_of (Err error) = Err error

abbrev pub after_give : Result Bool PacketError → Passing → Passing
after_give (Ok true) d = record { held = None; sent = min (d.sent + 1) (2 ^ 32 - 1) }
after_give (Ok false) d = d
after_give (Err error) d = d

-- the packet that it held was to be sent on channel c
pub record Gives (c : ChanId) (to : Addr) (before now : Passing) (old new : PacketView)
    (result : Result Bool PacketError) : Type 0 where
  pub made : Result Bool Failed
  pub bytes : List ℕ
  pub held : before.held ≡ Some bytes
  pub told : result ≡ as_fault made
  pub net : Sends c to old new bytes made
  pub direction : now ≡ after_give result before

-- ---- a direction with its two links and their net

pub record PassState : Type 0 where
  pub source : Datagram
  pub sink : Datagram
  pub direction : Passing
  pub net : PacketView

-- both links are bound, under two numbers, and what came is passed on
pub record IsPassing (s : PassState) : Type 0 where
  pub source : s.source.state ≡ state.Bound
  pub sink : s.sink.state ≡ state.Bound
  pub apart : s.source.channel.number ≢ s.sink.channel.number
  pub source_stands : IsBound (s.net.place s.source.channel)
  pub sink_stands : IsBound (s.net.place s.sink.channel)
  pub passes : PassesOn s.source.peer s.sink.peer (s.net.traffic s.source.channel).came
      (s.net.traffic s.sink.channel).went s.direction

-- From one state to a later one only the source, on channel a, has received, and only the sink, on channel b, has sent.
-- The source may have come to be connected to the sender of the first packet. The source's readiness for writing and
-- the sink's for reading stay.
pub record Advances (a b : ChanId) (s t : PassState) : Type 0 where
  pub sink : t.sink ≡ s.sink
  pub source : t.source ≡ record s.source { peer = t.source.peer }
  pub connected : (peer : Addr) → s.source.peer ≡ Some peer → t.source.peer ≡ Some peer
  pub first : s.source.peer ≡ first_sender (s.net.traffic a).came
      → t.source.peer ≡ first_sender (t.net.traffic a).came
  pub went : (t.net.traffic a).went ≡ (s.net.traffic a).went
  pub came : (t.net.traffic b).came ≡ (s.net.traffic b).came
  pub traffic : (c : ChanId) → c ≢ a → c ≢ b → t.net.traffic c ≡ s.net.traffic c
  pub faults : (c : ChanId) → c ≢ a → c ≢ b → t.net.faults c ≡ s.net.faults c
  pub later : (c : ChanId) → s.net.faults c ≤ t.net.faults c
  pub places : (c : ChanId) → t.net.place c ≡ s.net.place c
  pub polls : t.net.poll_faults ≡ s.net.poll_faults
  pub writes : IsTrue (is_within 4 (s.net.ready a.number)) → IsTrue (is_within 4 (t.net.ready a.number))
  pub reads : IsTrue (is_within 1 (s.net.ready b.number)) → IsTrue (is_within 1 (t.net.ready b.number))

-- what is known of a direction's readiness: for reading from the source, and for writing to the sink
pub record IsKnown (r : Readiness) (s : PassState) : Type 0 where
  pub read : IsTrue r.read → IsTrue (is_within 1 (s.net.ready s.source.channel.number))
  pub write : IsTrue r.write → IsTrue (is_within 4 (s.net.ready s.sink.channel.number))
