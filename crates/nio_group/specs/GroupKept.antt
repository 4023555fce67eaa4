-- How a group is kept.
use Rattle.std.specs.Prelude.{◌≡◌, ℕ, ◌≤◌, Bool, List, length, Some, count_by, slice_index_or}
use Rattle.nio_group.specs.declared.channel.Channel.{Channel}
use Rattle.nio_base.specs.declared.group.OpKind.{OpKind}
use Rattle.nio_group.specs.declared.limits.GroupLimits.{GroupLimits}
use Rattle.nio_group.specs.declared.pending.Pending.{Pending}
use Rattle.nio_group.specs.Limits.{IsFit}
use Rattle.nio_group.specs.Flight.{Flight, IsPendingAs, in_flight_on}
use Rattle.nio_group.specs.Pending.{slot_of, nothing_pending}
use Rattle.nio_group.specs.Group.{Group, IsLawful, no_channel}

abbrev pub group_of : Flight → List Channel → Bool → GroupLimits → Group
group_of flight channels shut limits =
    record {
      flight = flight;
      channels = channels;
      is_shut = shut;
      channel_limit = limits.channels;
      op_limit = limits.ops;
    }

-- the pending operations by their channels and kinds
pub record IsListed (flight : Flight) (pending : List Pending) : Type 0 where
  pub listed : (c : ℕ) (kind : OpKind) (n : ℕ) → slot_of (slice_index_or pending c nothing_pending) kind ≡ Some n
      → IsPendingAs flight c kind n
  pub all : (c : ℕ) (kind : OpKind) (n : ℕ) → IsPendingAs flight c kind n
      → slot_of (slice_index_or pending c nothing_pending) kind ≡ Some n

-- how many operations of each channel are in flight
abbrev pub AreCounted : Flight → List Channel → List Pending → Type 0
AreCounted flight channels pending =
    (c : ℕ) → (slice_index_or pending c nothing_pending).in_flight
    ≡ in_flight_on flight (record { number = c; serial = (slice_index_or channels c no_channel).serial })

abbrev pub is_open : Channel → Bool
is_open channel = channel.is_open

pub record IsGroupKept (flight : Flight) (channels : List Channel) (pending : List Pending) (opened : ℕ) (shut : Bool)
    (limits : GroupLimits) (room slots_room : ℕ) : Type 0 where
  pub lawful : IsLawful (group_of flight channels shut limits)
  pub fit : IsFit limits
  pub same_limit : flight.limit ≡ limits.flight
  pub opened_is : opened ≡ count_by is_open channels
  pub slots : length pending ≡ length channels
  pub is_listed : IsListed flight pending
  pub are_counted : AreCounted flight channels pending
  pub has_room : limits.channels ≤ room
  pub has_slots_room : limits.channels ≤ slots_room
