-- What the channels of a net of packets over sockets have carried, and what stands there.
use Rattle.std.specs.Prelude.{◌≡◌, ℕ, Bool, List, length}
use Rattle.std.specs.List.{slice_index_or}
use Rattle.nio_base.specs.declared.numbers.ChanId.{ChanId}
use Rattle.nio_base.specs.declared.numbers.ChanNo.{ChanNo}
use Rattle.nio_datagram.specs.Packets.{Traffic, no_traffic}
use Rattle.nio_datagram.specs.Sockets.{Sockets, no_sockets, is_bound_as, traffic_of, place_of}
use Rattle.nio_datagram.specs.declared.net.Place.{Place}
use Rattle.nio_datagram.specs.declared.net.Place.TheVariants.{Unbound}
use Rattle.nio_mio_packets.specs.declared.net.MioPackets.{MioPackets}

-- the sockets of a number
abbrev pub sockets_at : List Sockets → ChanNo → Sockets
sockets_at sides n = slice_index_or sides n.0 no_sockets

abbrev pub traffic_at : List Sockets → ChanId → Traffic
traffic_at sides c = traffic_of (sockets_at sides c.number) c.serial

abbrev pub place_at : List Sockets → ChanId → Place
place_at sides c = place_of (sockets_at sides c.number) c.serial

-- a socket is bound there
abbrev pub is_bound_at : List Sockets → ChanId → Bool
is_bound_at sides c = is_bound_as (sockets_at sides c.number).last c.serial

-- for how many numbers the net was made
abbrev pub numbers_of : {S : Type 0} → MioPackets S → ℕ
numbers_of net = length net.sides.items

-- a net that was just made: no channel has carried a packet, and none was bound
pub record IsFresh {S : Type 0} (net : MioPackets S) : Type 0 where
  pub unused : (c : ChanId) → traffic_at net.sides.items c ≡ no_traffic
  pub unbound : (c : ChanId) → place_at net.sides.items c ≡ Unbound
