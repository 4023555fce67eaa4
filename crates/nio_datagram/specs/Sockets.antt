-- The sockets of a number of a net of packets: what each has carried, and what stands under its channel.
use Rattle.std.specs.Prelude.{ℕ, ◌==◌, nat_lt, Bool, true, false, not, ◌&&◌, if◌then◌else◌, Option, Some, None}
use Rattle.std.specs.Prelude.{option_map, List, [], ◌∷◌, ◌++◌}
use Rattle.nio_base.specs.declared.numbers.Addr.{Addr}
use Rattle.nio_datagram.specs.Packets.{Packet, Traffic, no_traffic}
use Rattle.nio_datagram.specs.declared.net.Place.{Place}
use Rattle.nio_datagram.specs.declared.net.Place.TheVariants.{Unbound, Bound, Closed}

pub record SocketState : Type 0 where
  -- the serial of its channel
  pub serial : ℕ
  -- the address for which it was asked
  pub at : Addr
  -- whether it is bound still
  pub bound : Bool
  -- the packets that it has received, and those that it has sent, the oldest first
  pub came : List Packet
  pub went : List Packet

-- the last socket of a number, and those before it, which are closed, the newest first
pub record Sockets : Type 0 where
  pub last : Option SocketState
  pub past : List SocketState

abbrev pub no_sockets : Sockets
no_sockets = record { last = None; past = [] }

-- ---- what they carried

abbrev pub carried : SocketState → Traffic
carried x = record { came = x.came; went = x.went }

abbrev pub carried_before : List SocketState → ℕ → Traffic
carried_before [] s = no_traffic
carried_before (x ∷ before) s = if x.serial == s then carried x else carried_before before s

abbrev pub carried_by : Option SocketState → List SocketState → ℕ → Traffic
carried_by None past s = carried_before past s
carried_by (Some x) past s = if x.serial == s then carried x else carried_before past s

-- by the channel of this serial
abbrev pub traffic_of : Sockets → ℕ → Traffic
traffic_of sockets s = carried_by sockets.last sockets.past s

-- ---- what stands

abbrev pub standing : Bool → Addr → Place
standing true at = Bound at
standing false at = Closed at

abbrev pub stood_before : List SocketState → ℕ → Place
stood_before [] s = Unbound
stood_before (x ∷ before) s = if x.serial == s then Closed x.at else stood_before before s

abbrev pub stands_by : Option SocketState → List SocketState → ℕ → Place
stands_by None past s = stood_before past s
stands_by (Some x) past s = if x.serial == s then standing x.bound x.at else stood_before past s

-- under the channel of this serial
abbrev pub place_of : Sockets → ℕ → Place
place_of sockets s = stands_by sockets.last sockets.past s

-- the last socket is bound, and of this serial
abbrev pub is_bound_as : Option SocketState → ℕ → Bool
is_bound_as None s = false
is_bound_as (Some x) s = x.bound && (x.serial == s)

-- a socket of this serial can come after the last one: that was closed, and has a lower serial
abbrev pub comes_after : Option SocketState → ℕ → Bool
comes_after None s = true
comes_after (Some x) s = not x.bound && nat_lt x.serial s

-- ---- after each call

abbrev pub new_socket : ℕ → Addr → SocketState
new_socket s at = record { serial = s; at = at; bound = true; came = []; went = [] }

abbrev pub moved : Option SocketState → List SocketState → List SocketState
moved None past = past
moved (Some x) past = x ∷ past

abbrev pub with_socket : Sockets → ℕ → Addr → Sockets
with_socket sockets s at = record { last = Some (new_socket s at); past = moved sockets.last sockets.past }

abbrev pub closed : SocketState → SocketState
closed x = record x { bound = false }

abbrev pub after_close : Sockets → ℕ → Sockets
after_close sockets s =
    if is_bound_as sockets.last s then record sockets { last = option_map closed sockets.last } else sockets

abbrev pub with_came : Packet → SocketState → SocketState
with_came p x = record x { came = x.came ++ p ∷ [] }

abbrev pub with_went : Packet → SocketState → SocketState
with_went p x = record x { went = x.went ++ p ∷ [] }

-- a packet came to the last socket
abbrev pub after_came : Sockets → Packet → Sockets
after_came sockets p = record sockets { last = option_map (with_came p) sockets.last }

-- it sent one
abbrev pub after_went : Sockets → Packet → Sockets
after_went sockets p = record sockets { last = option_map (with_went p) sockets.last }
