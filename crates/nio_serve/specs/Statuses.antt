-- What stands of one connection, by the two links that it has.
use Rattle.std.specs.Prelude.{◌≡◌, ◌⊎◌, ◌++◌, [], ◌∷◌, Bool, true, false, Option, Some, None, List}
use Rattle.nio_base.specs.declared.numbers.Addr.{Addr}
use Rattle.nio_base.specs.declared.numbers.ChanId.{ChanId}
use Rattle.nio_link.specs.Links.{Link, IsUnused}
use Rattle.nio_link.specs.Places.{IsVacant}
use Rattle.nio_link.specs.declared.place.Place.{Place}
use Rattle.nio_link.specs.declared.place.Role.{Role}
use Rattle.nio_link.specs.declared.place.Role.TheVariants as role
use Rattle.nio_link.specs.declared.place.Standing.TheVariants.{Gone}
use Rattle.nio_relay.specs.Connection.{Carried, IsClean}
use Rattle.nio_relay.specs.Flow.{Flow, IsLawful, fresh}
use Rattle.nio_serve.specs.Relaying.{carried, target_role, IsEnd, IsTarget}
use Rattle.nio_serve.specs.Serving.{HasCarried, HaveCarried, AreRelayed, listener}
use Rattle.nio_serve.specs.declared.link.Links.{Links}
use Rattle.nio_serve.specs.declared.relay.Ended.{Ended}
use Rattle.nio_serve.specs.declared.relay.Ended.TheVariants.{Clean, Faulted, Dropped}
use Rattle.nio_serve.specs.declared.relay.Relay.{Relay}
use Rattle.nio_serve.specs.declared.relay.Stage.{Stage}
use Rattle.nio_serve.specs.declared.relay.Stage.TheVariants as stage

-- ---- while it is relayed

-- one direction takes from the client what it writes to the target, and the other the other way round
pub record IsRelaying (stage : Stage) (there back : Flow) (client target : Link)
    (at_client at_target : Place) : Type 0 where
  pub by_client : IsEnd client at_client (carried there back)
  pub by_target : IsTarget stage target at_target (carried back there)

-- a connection of which a call has failed: no link may stand to the target, where that couldn't be connected
pub record IsBroken (there back : Flow) (client target : Link) (at_client : Place) : Type 0 where
  pub by_client : IsEnd client at_client (carried there back)
  pub by_target : HasCarried target (carried back there)

pub record IsLive (stage : Stage) (there back : Flow) (client target : Link)
    (at_client at_target : Place) : Type 0 where
  pub relaying : IsRelaying stage there back client target at_client at_target
  pub there_lawful : IsLawful there
  pub back_lawful : IsLawful back

-- ---- once it has ended

-- its links are closed, and have carried this
pub record HasEnded (P : Carried → Carried → Type 0) (client target : Link) (at_client at_target : Place) : Type 0 where
  pub carried : HaveCarried P client target
  pub client_closed : at_client.standing ≡ Gone
  pub target_closed : IsVacant at_target.standing

-- its client was closed for want of memory
pub record IsDropped (client target : Link) (at_client at_target : Place) : Type 0 where
  pub client_unused : IsUnused client
  pub target_unused : IsUnused target
  pub client_closed : IsVacant at_client.standing
  pub target_closed : IsVacant at_target.standing

-- ---- by its status

-- what stands of a connection whose client was accepted: it is relayed, or it has ended
pub data Status : Type 0 where
  Live : Relay → Status
  Over : Ended → Status

-- what its two links have carried, and how they stand
abbrev pub IsStatus : Status → Link → Link → Place → Place → Type 0
IsStatus (Live relay) client target at_client at_target =
    IsLive relay.stage relay.there relay.back client target at_client at_target
IsStatus (Over Clean) client target at_client at_target = HasEnded IsClean client target at_client at_target
IsStatus (Over Faulted) client target at_client at_target = HasEnded AreRelayed client target at_client at_target
IsStatus (Over Dropped) client target at_client at_target = IsDropped client target at_client at_target

-- what its two channels were asked to be
abbrev pub HasRoles : Addr → Status → Role → Role → Type 0
HasRoles to (Live relay) client target = (client ≡ role.Accepted listener) × (target ≡ target_role relay.stage to)
HasRoles to (Over Clean) client target = (client ≡ role.Accepted listener) × (target ≡ role.Connected to)
HasRoles to (Over Faulted) client target = (client ≡ role.Accepted listener) × (target ≡ role.Connected to)
HasRoles to (Over Dropped) client target = (client ≡ role.Accepted listener) × (target ≡ role.Nothing)

-- both
pub record IsStatusOf (to : Addr) (status : Status) (client target : Link) (at_client at_target : Place) : Type 0 where
  pub is_status : IsStatus status client target at_client at_target
  pub roles : HasRoles to status at_client.role at_target.role

-- a connection that was relayed so, once it has ended so, if it has
abbrev pub status_after : Relay → Option Ended → Status
status_after relay None = Live relay
status_after relay (Some ended) = Over ended

-- what stands of a connection whose client was accepted, where this relays it, or nothing can
abbrev pub status_begun : Option Relay → Status
status_begun (Some relay) = Live relay
status_begun None = Over Dropped

-- it has relayed nothing, and its target wasn't asked for
pub record IsNew (relay : Relay) : Type 0 where
  pub there : relay.there ≡ fresh
  pub back : relay.back ≡ fresh
  pub stage : relay.stage ≡ stage.Accepted

-- it has ended
abbrev pub has_ended : Option Status → Bool
has_ended (Some (Live relay)) = false
has_ended (Some (Over Clean)) = true
has_ended (Some (Over Faulted)) = true
has_ended (Some (Over Dropped)) = false
has_ended None = false

-- it has ended by a fault
abbrev pub has_faulted : Option Status → Bool
has_faulted (Some (Live relay)) = false
has_faulted (Some (Over Clean)) = false
has_faulted (Some (Over Faulted)) = true
has_faulted (Some (Over Dropped)) = false
has_faulted None = false

-- ---- what the table has of it

-- no channel was registered, or the client's, or both
abbrev pub WatchesSome : Links → List ChanId → List ChanId → Type 0
WatchesSome links before now =
    (now ≡ before) ⊎ ((now ≡ before ++ links.client ∷ []) ⊎ (now ≡ before ++ links.client ∷ links.target ∷ []))
