-- How a serving loop sees a worker's net: the links that are put in are those of a listener under the channel 0.
use Rattle.std.specs.Prelude.{◌≡◌, ℕ, ◌+◌, ◌==◌, Bool, true, false, if◌then◌else◌, None, IfSome, IsSome, List, ◌++◌, option_to_list}
use Rattle.nio_base.specs.declared.numbers.ChanId.{ChanId}
use Rattle.nio_base.specs.declared.numbers.ChanNo.{ChanNo}
use Rattle.nio_link.specs.Nets.{NetView}
use Rattle.nio_link.specs.Places.{channel, is_same_channel, never_asked}
use Rattle.nio_link.specs.declared.place.Place.{Place}
use Rattle.nio_link.specs.declared.place.Role.{Role}
use Rattle.nio_link.specs.declared.place.Role.TheVariants as role
use Rattle.nio_link.specs.declared.place.Standing.TheVariants as standing
use Rattle.nio_select.specs.Asked.{key_at, keys_to}
use Rattle.nio_serve.specs.Serving.{listener}
use Rattle.nio_steps.specs.declared.looked.LookedKey.{LookedKey}
use Rattle.nio_reactor.specs.declared.door.Door.{Door}
use Rattle.nio_reactor.specs.declared.door.Door.TheVariants as door
use Rattle.nio_reactor.specs.declared.ready.Ready.{Ready}
use Rattle.nio_reactor.specs.declared.ready.Ready.TheVariants as ready

abbrev pub door_place : Door → Place
door_place door.Unasked = never_asked
door_place (door.Open at) = record { role = role.Listener at; standing = standing.Listening }
door_place (door.Closed at) = record { role = role.Listener at; standing = standing.Gone }

-- A link that was put in is seen as one that the listener accepted. No other role is seen so.
abbrev pub seen_role : Role → Role
seen_role role.Nothing = role.Nothing
seen_role (role.Listener at) = role.Listener at
seen_role (role.Accepted from) = role.PutIn
seen_role (role.Connected to) = role.Connected to
seen_role role.PutIn = role.Accepted listener

abbrev pub seen : Place → Place
seen place = record { role = seen_role place.role; standing = place.standing }

abbrev pub is_listener : ChanId → Bool
is_listener c = is_same_channel c listener

abbrev pub place_over : Door → (ChanId → Place) → ChanId → Place
place_over d place c = if is_listener c then door_place d else seen (place c)

-- the listener never fails
abbrev pub faults_over : (ChanId → ℕ) → ChanId → ℕ
faults_over faults c = if is_listener c then 0 else faults c

-- what channels are ready for, of what the last poll told, where the net's are ready for this
abbrev pub ready_over : Ready → (ChanNo → ℕ) → ChanNo → ℕ
ready_over ready.Net of_net c = of_net c
ready_over ready.Links of_net c = if c.0 == 0 then 0 else of_net c
ready_over ready.Line of_net c = if c.0 == 0 then 16 else 0
ready_over ready.Nothing of_net c = 0

-- the poll told of the line alone
abbrev pub is_of_line : Ready → Bool
is_of_line ready.Net = false
is_of_line ready.Links = false
is_of_line ready.Line = true
is_of_line ready.Nothing = true

-- the listener's key has this index, among these, and no other key has it
abbrev pub IsListenerKey : List LookedKey → ℕ → Type 0
IsListenerKey keys i =
    IfSome (key_at i keys) (λ key. key.channel ≡ listener.number)
    × (IsSome (key_at i keys) × (keys_to (i + 1) keys ≡ keys_to i keys ++ option_to_list (key_at i keys)))

-- that the line ended early counts as a poll that failed
abbrev pub polls_over : Bool → ℕ → ℕ
polls_over false polls = polls
polls_over true polls = polls + 1

-- what a lane shows, over what its net shows: where these links were put in, in their order
abbrev pub lane_view : Ready → Door → Bool → List ChanId → NetView → NetView
lane_view r d early put v = record {
  link = v.link;
  faults = faults_over v.faults;
  place = place_over d v.place;
  accepted = put;
  ready = ready_over r v.ready;
  poll_faults = polls_over early v.poll_faults;
  polls = None;
}

-- the line is listened at
abbrev pub IsOpen : Door → Type 0
IsOpen d = (door_place d).standing ≡ standing.Listening

-- Under the listener's channel the net was asked for nothing, and under no channel of its number while the line is
-- listened at.
pub record IsSpare (d : Door) (place : ChanId → Place) : Type 0 where
  pub unasked : place listener ≡ never_asked
  pub none : IsOpen d → (s : ℕ) → place (channel listener.number s) ≡ never_asked

-- the line is told only while it is listened at
abbrev pub IsToldOpen : Ready → Door → Type 0
IsToldOpen r d = r ≡ ready.Line → IsOpen d

-- what polls keep
pub record IsKept (same : Type 0) (before now : Door) (accepted_before accepted_now : List ChanId) : Type 0 where
  pub net : same
  pub door : now ≡ before
  pub accepted : accepted_now ≡ accepted_before
