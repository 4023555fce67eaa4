-- One number of a net of packets in memory: what is to come there, and what calls answer and leave.
use Rattle.std.specs.Prelude.{ℕ, ◌+◌, Bool, true, false, if◌then◌else◌, Option, Some, None, is_some, Result, Ok, Err}
use Rattle.std.specs.Prelude.{List, [], ◌++◌, length, take, drop, map, bit_or, Vec}
use Rattle.std.specs.List.{slice_get}
use Rattle.std.specs.declared.alloc.Global.{Global}
use Rattle.nio_base.specs.declared.numbers.Addr.{Addr}
use Rattle.nio_link.specs.declared.net.Failed.{Failed}
use Rattle.nio_datagram.specs.Packets.{Packet}
use Rattle.nio_datagram.specs.Sockets.{SocketState, Sockets, no_sockets, is_bound_as, comes_after, with_socket, after_close}
use Rattle.nio_datagram.specs.Sockets.{after_came, after_went}
use Rattle.nio_datagram.specs.declared.net.Came.{Came}
use Rattle.nio_datagram.specs.declared.net.Came.TheVariants as came

pub record SideState : Type 0 where
  -- the packets that come there, in their order
  pub coming : List Packet
  -- how many of them have come
  pub at : ℕ
  -- the sockets that were bound there
  pub sockets : Sockets

-- the first 65,507 of these bytes
abbrev pub cut : List ℕ → List ℕ
cut bytes = take 65507 bytes

-- a packet of a plan
abbrev pub packet_of : Addr × Vec ℕ Global → Packet
packet_of (from, bytes) = record { addr = from; bytes = cut bytes.items }

abbrev pub planned_side : List (Addr × Vec ℕ Global) → SideState
planned_side plan = record { coming = map packet_of plan; at = 0; sockets = no_sockets }

-- ---- binding

abbrev pub side_after_bind : SideState → ℕ → Addr → SideState
side_after_bind side s at = record side { sockets = with_socket side.sockets s at }

abbrev pub side_after_close : SideState → ℕ → SideState
side_after_close side s = record side { sockets = after_close side.sockets s }

-- ---- receiving

-- the packet that comes next
abbrev pub next_packet : SideState → Option Packet
next_packet side = slice_get side.coming side.at

abbrev pub came_of : Option Packet → Came
came_of (Some p) = came.Packet (length p.bytes) p.addr
came_of None = came.NotYet

-- where the channel of this serial has no socket, a receive fails
abbrev pub receive_answer : SideState → ℕ → Result Came Failed
receive_answer side s =
    if is_bound_as side.sockets.last s then Ok (came_of (next_packet side)) else Err (record {})

-- these bytes stand at the front of the buffer
abbrev pub put_front : List ℕ → List ℕ → List ℕ
put_front bytes buffer = bytes ++ drop (length bytes) buffer

abbrev pub filled_by : Option Packet → List ℕ → List ℕ
filled_by (Some p) buffer = put_front p.bytes buffer
filled_by None buffer = buffer

abbrev pub receive_buffer : SideState → ℕ → List ℕ → List ℕ
receive_buffer side s buffer =
    if is_bound_as side.sockets.last s then filled_by (next_packet side) buffer else buffer

-- after a look for a packet, which found this one, or none
abbrev pub side_after_look : Option Packet → SideState → SideState
side_after_look (Some p) side = record side { at = side.at + 1; sockets = after_came side.sockets p }
side_after_look None side = side

abbrev pub side_after_receive : SideState → ℕ → SideState
side_after_receive side s =
    if is_bound_as side.sockets.last s then side_after_look (next_packet side) side else side

-- ---- sending

abbrev pub side_after_send : SideState → Packet → SideState
side_after_send side p = record side { sockets = after_went side.sockets p }

-- ---- readiness: READ is 1, and WRITE 4

abbrev pub reading : Option Packet → ℕ
reading (Some p) = 1
reading None = 0

-- the last socket is bound
abbrev pub has_bound : Option SocketState → Bool
has_bound None = false
has_bound (Some x) = x.bound

abbrev pub side_ready : SideState → ℕ
side_ready side = if has_bound side.sockets.last then bit_or (reading (next_packet side)) 4 else 0
