-- Under which name the next channel of a kind is made.
use Rattle.std.specs.Prelude.{ℕ, ◌+◌, Bool, true, false, if◌then◌else◌, not, ◌&&◌, ◌==◌, nat_lt, List, [], ◌∷◌, ◌++◌}
use Rattle.std.specs.Prelude.{length, slice_set, Option, Some, None}
use Rattle.nio_base.specs.Numbers.{last_serial}
use Rattle.nio_base.specs.declared.numbers.GChan.{GChan}
use Rattle.nio_base.specs.declared.group.GKind.{GKind}
use Rattle.nio_base.specs.declared.group.GKind.TheVariants as kind
use Rattle.nio_group.specs.declared.channel.Channel.{Channel}
use Rattle.nio_group.specs.declared.channel.Endpoint.{Endpoint}
use Rattle.nio_group.specs.declared.channel.Endpoint.TheVariants.{Stream, Listener}
use Rattle.nio_group.specs.Flight.{Flight, in_flight_on}
use Rattle.nio_group.specs.Group.{Group, new_channel}

abbrev pub is_of_kind : GKind → Endpoint → Bool
is_of_kind kind.Stream (Stream link) = true
is_of_kind kind.Stream (Listener bound) = false
is_of_kind kind.Listener (Stream link) = false
is_of_kind kind.Listener (Listener bound) = true

-- a channel of which so many operations are in flight gives way to one of this kind: it is closed, of that kind, of a
-- serial below the greatest, and none is in flight
abbrev pub gives_way : GKind → Channel → ℕ → Bool
gives_way kind channel in_flight =
    (not channel.is_open && is_of_kind kind channel.endpoint)
    && (nat_lt channel.serial last_serial && (in_flight == 0))

-- so the number `c` of this channel comes back
abbrev pub comes_back : Flight → GKind → ℕ → Channel → Bool
comes_back f kind c channel =
    gives_way kind channel (in_flight_on f (record { number = c; serial = channel.serial }))

-- the next name with the least number that comes back, in a list of channels of which the first has the number `c`
abbrev pub first_back : Flight → GKind → ℕ → List Channel → Option GChan
first_back f kind c [] = None
first_back f kind c (channel ∷ rest) =
    if comes_back f kind c channel then Some (record { number = c; serial = channel.serial + 1 })
    else first_back f kind (c + 1) rest

-- the name of the next channel of this kind: the least number that no channel has had, and where there is none, the
-- least one that comes back
abbrev pub next_name : Group → GKind → Option GChan
next_name g kind =
    if length g.channels == g.channel_limit then first_back g.flight kind 0 g.channels
    else Some (record { number = length g.channels; serial = 0 })

-- the channels once this one was made under this name: behind the others, or in place of the one that had its number
abbrev pub put_channel : List Channel → GChan → Channel → List Channel
put_channel channels chan channel =
    if chan.number == length channels then channels ++ channel ∷ [] else slice_set channels chan.number channel

-- a channel is made under this name, where there is one
abbrev pub with_made : Group → Option GChan → Endpoint → Group
with_made g None endpoint = g
with_made g (Some chan) endpoint =
    record g { channels = put_channel g.channels chan (new_channel chan endpoint) }
