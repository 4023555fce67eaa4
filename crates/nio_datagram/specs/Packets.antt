-- Packets, and what a channel has received and sent.
use Rattle.std.specs.Prelude.{ℕ, ◌≤◌, ◌==◌, Bool, true, false, ◌&&◌, not, Option, Some, None, Result, Ok, Err}
use Rattle.std.specs.Prelude.{List, [], ◌∷◌, ◌++◌, take, map, filter}
use Rattle.std.specs.Str.{bytes_eq}
use Rattle.nio_base.specs.declared.numbers.Addr.{Addr}
use Rattle.nio_link.specs.declared.net.Failed.{Failed}
use Rattle.nio_datagram.specs.declared.net.Came.{Came}
use Rattle.nio_datagram.specs.declared.net.Came.TheVariants as came

-- a packet, with the address that it came from or was sent to
pub record Packet : Type 0 where
  pub addr : Addr
  pub bytes : List ℕ

-- the packets that a channel has received, and those that it has sent, the oldest first
pub record Traffic : Type 0 where
  pub came : List Packet
  pub went : List Packet

abbrev pub no_traffic : Traffic
no_traffic = record { came = []; went = [] }

-- ---- the calls of a net

-- no packet has more than 65,507 bytes
abbrev pub IsCame : Came → Type 0
IsCame (came.Packet len from) = len ≤ 65507
IsCame came.NotYet = Unit {0}

-- after a receive that left the buffer so
abbrev pub after_receive : Result Came Failed → List ℕ → Traffic → Traffic
after_receive (Ok (came.Packet len from)) buffer t =
    record t { came = t.came ++ record { addr = from; bytes = take len buffer } ∷ [] }
after_receive (Ok came.NotYet) buffer t = t
after_receive (Err failed) buffer t = t

-- after these bytes were to be sent to this address
abbrev pub after_send : Result Bool Failed → Addr → List ℕ → Traffic → Traffic
after_send (Ok true) to bytes t = record t { went = t.went ++ record { addr = to; bytes = bytes } ∷ [] }
after_send (Ok false) to bytes t = t
after_send (Err failed) to bytes t = t

-- ---- whose packets they are

abbrev pub is_same_addr : Addr → Addr → Bool
is_same_addr a b = bytes_eq a.ip b.ip && (a.port == b.port)

-- a channel is connected, and this is another address
abbrev pub is_stranger : Option Addr → Addr → Bool
is_stranger None from = false
is_stranger (Some peer) from = not (is_same_addr peer from)

-- the bytes of these packets
abbrev pub bytes_of : List Packet → List (List ℕ)
bytes_of packets = map (λ (p : Packet). p.bytes) packets

-- the bytes of those of the packets that came from this address
abbrev pub heard_from : Addr → List Packet → List (List ℕ)
heard_from peer packets = bytes_of (filter (λ (p : Packet). is_same_addr peer p.addr) packets)

-- who sent the first of the packets
abbrev pub first_sender : List Packet → Option Addr
first_sender [] = None
first_sender (p ∷ later) = Some p.addr
