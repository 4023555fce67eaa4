-- What the calls of a net of packets need, and what they promise, by its meanings before and after.
use Rattle.std.specs.Prelude.{◌≡◌, ℕ, Bool, Option, IsTrue, Result, IfOk, List}
use Rattle.nio_base.specs.Ops.{is_within}
use Rattle.nio_base.specs.declared.numbers.Addr.{Addr}
use Rattle.nio_base.specs.declared.numbers.ChanId.{ChanId}
use Rattle.nio_base.specs.declared.numbers.ChanNo.{ChanNo}
use Rattle.nio_bytes.specs.Cause.{HasCause}
use Rattle.nio_link.specs.Links.{IsSameBut}
use Rattle.nio_link.specs.declared.net.Failed.{Failed}
use Rattle.nio_poller.specs.Polled.{Polled}
use Rattle.nio_datagram.specs.Packets.{Traffic, IsCame, after_receive, after_send}
use Rattle.nio_datagram.specs.Places.{IsBound, place_after_bind, place_after_close}
use Rattle.nio_datagram.specs.Readiness.{ready_after_bind, ready_after_receive, ready_after_send, ready_after_close}
use Rattle.nio_datagram.specs.declared.net.Came.{Came}
use Rattle.nio_datagram.specs.declared.net.Place.{Place}

-- the meanings of a net of packets at a moment
pub record PacketView : Type 0 where
  pub traffic : ChanId → Traffic
  pub faults : ChanId → ℕ
  pub place : ChanId → Place
  pub ready : ChanNo → ℕ
  pub poll_faults : ℕ
  pub polls : Option (List Polled)

-- the meanings of a type of nets of packets, those of pollers first
abbrev pub Members : Type 0 → Type 1
Members N = record {
  poll_faults : N → ℕ;
  ready : N → ChanNo → ℕ;
  polls : N → Option (List Polled);
  kept : N → N → Type 0;
  traffic : N → ChanId → Traffic;
  packet_faults : N → ChanId → ℕ;
  place : N → ChanId → Place;
}

-- what a net of such a type shows
abbrev pub view_of : {N : Type 0} → Members N → N → PacketView
view_of n net = record {
  traffic = n.traffic net;
  faults = n.packet_faults net;
  place = n.place net;
  ready = n.ready net;
  poll_faults = n.poll_faults net;
  polls = n.polls net;
}

-- every count is as it was: no poll failed, and no call on a channel
pub record NoneFailed (before now : ChanId → ℕ) (polls_before polls_now : ℕ) : Type 0 where
  pub calls : (c : ChanId) → now c ≡ before c
  pub polls : polls_now ≡ polls_before

-- ---- what the calls need

pub record MayReceive (c : ChanId) (v : PacketView) : Type 0 where
  pub ready : IsTrue (is_within 1 (v.ready c.number))
  pub bound : IsBound (v.place c)

pub record MaySend (c : ChanId) (v : PacketView) : Type 0 where
  pub ready : IsTrue (is_within 4 (v.ready c.number))
  pub bound : IsBound (v.place c)

-- ---- what they promise

-- a socket was bound; where that failed, the channel can be asked again
pub record Binds (c : ChanId) (at : Addr) (old new : PacketView) (result : Result (Unit {0}) Failed) : Type 0 where
  pub cause : HasCause (old.faults c) (new.faults c) result
  pub others : IsSameBut c old.faults new.faults
  pub traffic : (k : ChanId) → new.traffic k ≡ old.traffic k
  pub ready : new.ready c.number ≡ ready_after_bind result (old.ready c.number)
  pub ready_else : IsSameBut c.number old.ready new.ready
  pub place : new.place c ≡ place_after_bind result at
  pub places : IsSameBut c old.place new.place
  pub polls : new.poll_faults ≡ old.poll_faults
  pub shown : new.polls ≡ old.polls

-- a packet was looked for, and the buffer filled so
pub record Receives (c : ChanId) (old new : PacketView) (filled : List ℕ) (result : Result Came Failed) : Type 0 where
  pub cause : HasCause (old.faults c) (new.faults c) result
  pub others : IsSameBut c old.faults new.faults
  pub came : IfOk result IsCame
  pub traffic : new.traffic c ≡ after_receive result filled (old.traffic c)
  pub traffic_else : IsSameBut c old.traffic new.traffic
  pub ready : new.ready c.number ≡ ready_after_receive result (old.ready c.number)
  pub ready_else : IsSameBut c.number old.ready new.ready
  pub places : (k : ChanId) → new.place k ≡ old.place k
  pub polls : new.poll_faults ≡ old.poll_faults
  pub shown : new.polls ≡ old.polls

-- these bytes were to be sent to this address
pub record Sends (c : ChanId) (to : Addr) (old new : PacketView) (bytes : List ℕ) (result : Result Bool Failed) : Type 0
  where
    pub cause : HasCause (old.faults c) (new.faults c) result
    pub others : IsSameBut c old.faults new.faults
    pub traffic : new.traffic c ≡ after_send result to bytes (old.traffic c)
    pub traffic_else : IsSameBut c old.traffic new.traffic
    pub ready : new.ready c.number ≡ ready_after_send result (old.ready c.number)
    pub ready_else : IsSameBut c.number old.ready new.ready
    pub places : (k : ChanId) → new.place k ≡ old.place k
    pub polls : new.poll_faults ≡ old.poll_faults
    pub shown : new.polls ≡ old.polls

-- a socket was connected, or the system refused that: nothing that the net shows changed
pub record Stays (old new : PacketView) : Type 0 where
  pub faults : (k : ChanId) → new.faults k ≡ old.faults k
  pub traffic : (k : ChanId) → new.traffic k ≡ old.traffic k
  pub ready : (n : ChanNo) → new.ready n ≡ old.ready n
  pub places : (k : ChanId) → new.place k ≡ old.place k
  pub polls : new.poll_faults ≡ old.poll_faults
  pub shown : new.polls ≡ old.polls

-- a socket was closed, where one was bound there
pub record Closes (c : ChanId) (old new : PacketView) : Type 0 where
  pub faults : (k : ChanId) → new.faults k ≡ old.faults k
  pub traffic : (k : ChanId) → new.traffic k ≡ old.traffic k
  pub ready : new.ready c.number ≡ ready_after_close (old.place c) (old.ready c.number)
  pub ready_else : IsSameBut c.number old.ready new.ready
  pub place : new.place c ≡ place_after_close (old.place c)
  pub places : IsSameBut c old.place new.place
  pub polls : new.poll_faults ≡ old.poll_faults
  pub shown : new.polls ≡ old.polls
