-- The state of an asynchronous channel group.
use Rattle.std.specs.Prelude.{◌≡◌, ℕ, ◌<◌, ◌≤◌, Bool, true, false, if◌then◌else◌, not, ◌&&◌, ◌||◌, ◌==◌, List, []}
use Rattle.std.specs.Prelude.{length, nat_le, nat_lt, slice_index_or, IsTrue, Some}
use Rattle.std.specs.List.{list_any, list_all}
use Rattle.nio_base.specs.declared.numbers.GChan.{GChan}
use Rattle.nio_base.specs.declared.group.GKind.{GKind}
use Rattle.nio_base.specs.declared.group.GKind.TheVariants as kind
use Rattle.nio_group.specs.declared.channel.Channel.{Channel}
use Rattle.nio_group.specs.declared.channel.Endpoint.{Endpoint}
use Rattle.nio_group.specs.declared.channel.Endpoint.TheVariants.{Stream, Listener}
use Rattle.nio_group.specs.declared.channel.Link.TheVariants.{Unconnected, Connecting, Connected}
use Rattle.nio_base.specs.declared.group.OpKind.{OpKind}
use Rattle.nio_base.specs.declared.group.OpKind.TheVariants.{Accept, Connect, Read, Write}
use Rattle.nio_group.specs.declared.limits.GroupLimits.{GroupLimits}
use Rattle.nio_group.specs.declared.operation.Operation.{Operation}
use Rattle.nio_group.specs.Stages.{is_queued, is_running, stage_is_pending}
use Rattle.nio_group.specs.Flight.{Flight, op_at, accepted, in_flight, times_queued, IsPendingAs, no_flight}

-- its operations and their queue; for each number the last channel that was made with it; whether it is shut
-- down; and how many numbers it gives to channels and how many operations it accepts at most
pub record Group : Type 0 where
  pub flight : Flight
  pub channels : List Channel
  pub is_shut : Bool
  pub channel_limit : ℕ
  pub op_limit : ℕ

abbrev pub empty_group : GroupLimits → Group
empty_group l =
    record {
      flight = no_flight l.flight;
      channels = [];
      is_shut = false;
      channel_limit = l.channels;
      op_limit = l.ops;
    }

-- a channel as it is made: open, a stream unconnected, a listener not bound
abbrev pub new_endpoint : GKind → Endpoint
new_endpoint kind.Stream = Stream Unconnected
new_endpoint kind.Listener = Listener false

-- the channel that is made under this name
abbrev pub new_channel : GChan → Endpoint → Channel
new_channel chan endpoint = record { serial = chan.serial; is_open = true; endpoint = endpoint }

-- what `channel_at` gives for a number that no channel has
abbrev pub no_channel : Channel
no_channel = record { serial = 0; is_open = false; endpoint = Listener false }

-- the channel that this number has now
abbrev pub channel_at : Group → ℕ → Channel
channel_at g c = slice_index_or g.channels c no_channel

-- its name
abbrev pub name_at : Group → ℕ → GChan
name_at g c = record { number = c; serial = (channel_at g c).serial }

-- a channel of this name was made
abbrev pub IsMade : Group → GChan → Type 0
IsMade g chan = (chan.number < length g.channels) × (chan.serial ≤ (channel_at g chan.number).serial)

abbrev pub is_made : Group → GChan → Bool
is_made g chan = nat_lt chan.number (length g.channels) && nat_le chan.serial (channel_at g chan.number).serial

-- what was made in the one group was made in the other
abbrev pub StaysMade : Group → Group → Type 0
StaysMade g h = (chan : GChan) → IsMade g chan → IsMade h chan

-- the name is that of the channel that its number has now
abbrev pub is_present : Group → GChan → Bool
is_present g chan = (channel_at g chan.number).serial == chan.serial

-- the channel of this name is open. One whose number has another channel by now is closed
abbrev pub is_open : Group → GChan → Bool
is_open g chan = is_present g chan && (channel_at g chan.number).is_open

-- an accept is pending at bound listeners alone, a connect on connecting streams, a read or a write
-- on connected ones
abbrev pub is_ready_for : Endpoint → OpKind → Bool
is_ready_for (Listener bound) Accept = bound
is_ready_for (Listener bound) Connect = false
is_ready_for (Listener bound) Read = false
is_ready_for (Listener bound) Write = false
is_ready_for (Stream Unconnected) Accept = false
is_ready_for (Stream Unconnected) Connect = false
is_ready_for (Stream Unconnected) Read = false
is_ready_for (Stream Unconnected) Write = false
is_ready_for (Stream Connecting) Accept = false
is_ready_for (Stream Connecting) Connect = true
is_ready_for (Stream Connecting) Read = false
is_ready_for (Stream Connecting) Write = false
is_ready_for (Stream Connected) Accept = false
is_ready_for (Stream Connected) Connect = false
is_ready_for (Stream Connected) Read = true
is_ready_for (Stream Connected) Write = true

-- what holds of every group. (That each number below the accepted count names one operation, which
-- has one stage, holds by the type of the state.)
pub record IsLawful (g : Group) : Type 0 where
  -- the queue lists each queued number once, and no other number
  pub queued_once : (n : ℕ) → times_queued g.flight n ≡ (if is_queued (op_at g.flight n) then 1 else 0)
  -- each operation in flight was started on a channel that was made, and a pending one is of the channel that its
  -- number has now
  pub made : (n : ℕ) (op : Operation) → op_at g.flight n ≡ Some op → IsMade g op.chan
  pub present : (n : ℕ) (op : Operation) → op_at g.flight n ≡ Some op → IsTrue (stage_is_pending op.stage)
      → IsTrue (is_present g op.chan)
  -- each pending operation's channel is open and in the state for it
  pub pending_open : (n c : ℕ) (kind : OpKind) → IsPendingAs g.flight c kind n → IsTrue (channel_at g c).is_open
  pub pending_ready : (n c : ℕ) (kind : OpKind) → IsPendingAs g.flight c kind n
      → IsTrue (is_ready_for (channel_at g c).endpoint kind)
  -- a channel has at most one pending operation of each kind
  pub one_each : (m n c : ℕ) (kind : OpKind) → IsPendingAs g.flight c kind m → IsPendingAs g.flight c kind n → m ≡ n
  -- an open connecting stream has a pending connect
  pub connecting : (c : ℕ) → IsTrue (channel_at g c).is_open → (channel_at g c).endpoint ≡ Stream Connecting
      → (n : ℕ) × IsPendingAs g.flight c Connect n
  pub few_in_flight : in_flight g.flight ≤ g.flight.limit
  pub few_channels : length g.channels ≤ g.channel_limit
  pub few_accepted : accepted g.flight ≤ g.op_limit

-- shut down, every channel closed, no operation queued or running
abbrev pub all_closed : Group → Bool
all_closed g = list_all (λ channel. not channel.is_open) g.channels

abbrev pub none_to_handle : Group → Bool
none_to_handle g = not (list_any (λ slot. is_queued slot || is_running slot) g.flight.operations)

abbrev pub is_terminated : Group → Bool
is_terminated g = g.is_shut && (all_closed g && none_to_handle g)
