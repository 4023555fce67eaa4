-- What two links of a connection have carried, told from its two directions.
use Rattle.std.specs.Prelude.{◌≡◌, Bool, true, false, IsFalse, Result, Ok, Err}
use Rattle.nio_base.specs.declared.numbers.Addr.{Addr}
use Rattle.nio_link.specs.Links.{Link}
use Rattle.nio_link.specs.declared.net.Failed.{Failed}
use Rattle.nio_link.specs.Places.{never_asked}
use Rattle.nio_link.specs.declared.place.Place.{Place}
use Rattle.nio_link.specs.declared.place.Role.{Role}
use Rattle.nio_link.specs.declared.place.Role.TheVariants as role
use Rattle.nio_link.specs.declared.place.Standing.{Standing}
use Rattle.nio_link.specs.declared.place.Standing.TheVariants.{Linked, Shut, Connecting, Gone}
use Rattle.nio_relay.specs.Connection.{Carried}
use Rattle.nio_relay.specs.Flow.{Flow}
use Rattle.nio_serve.specs.Serving.{HasCarried}
use Rattle.nio_serve.specs.declared.relay.Stage.{Stage}
use Rattle.nio_serve.specs.declared.relay.Stage.TheVariants as stage

-- what a link has carried of which one direction takes bytes and to which the other writes
abbrev pub carried : Flow → Flow → Carried
carried outgoing incoming =
    record { got = outgoing.taken; ended = outgoing.ended; put = incoming.written; shut = incoming.shut }

-- what stands where a link is connected, and is shut or not
abbrev pub open_or_shut : Bool → Standing
open_or_shut false = Linked
open_or_shut true = Shut

-- a link that is connected has carried this, and stands as that says
pub record IsEnd (l : Link) (p : Place) (c : Carried) : Type 0 where
  pub carried : HasCarried l c
  pub stands : p.standing ≡ open_or_shut c.shut

-- a link that wasn't asked for yet has carried this
pub record IsUnasked (l : Link) (p : Place) (c : Carried) : Type 0 where
  pub carried : HasCarried l c
  pub stands : p ≡ never_asked
  pub unshut : IsFalse c.shut

-- a link that is still to be connected has carried this
pub record IsPending (l : Link) (p : Place) (c : Carried) : Type 0 where
  pub carried : HasCarried l c
  pub stands : p.standing ≡ Connecting
  pub unshut : IsFalse c.shut

-- how a link stands after its connecting was answered so
abbrev pub standing_after_finish : Result Bool Failed → Standing
standing_after_finish (Ok true) = Linked
standing_after_finish (Ok false) = Connecting
standing_after_finish (Err failed) = Gone

-- how far a link has come after its connecting was answered so
abbrev pub stage_after : Bool → Stage
stage_after true = stage.Connected
stage_after false = stage.Connecting

-- a target's link, by how far it has come
abbrev pub IsTarget : Stage → Link → Place → Carried → Type 0
IsTarget stage.Accepted l p c = IsUnasked l p c
IsTarget stage.Connecting l p c = IsPending l p c
IsTarget stage.Connected l p c = IsEnd l p c

-- a target's link was asked for
abbrev pub IsAsked : Stage → Type 0
IsAsked stage.Accepted = ⊥
IsAsked stage.Connecting = Unit {0}
IsAsked stage.Connected = Unit {0}

-- what a target's channel was asked to be
abbrev pub target_role : Stage → Addr → Role
target_role stage.Accepted to = role.Nothing
target_role stage.Connecting to = role.Connected to
target_role stage.Connected to = role.Connected to

-- a link from which a direction takes bytes: what it has carried and what the direction has taken still agree
abbrev pub KeepsSource : Flow → Flow → Link → Place → Link → Place → Type 0
KeepsSource f g l0 p0 l1 p1 = (incoming : Flow) → IsEnd l0 p0 (carried f incoming) → IsEnd l1 p1 (carried g incoming)

-- a link to which a direction writes
abbrev pub KeepsSink : Flow → Flow → Link → Place → Link → Place → Type 0
KeepsSink f g l0 p0 l1 p1 = (outgoing : Flow) → IsEnd l0 p0 (carried outgoing f) → IsEnd l1 p1 (carried outgoing g)

-- what a direction has taken is the same
pub record SameSource (f g : Flow) : Type 0 where
  pub taken : g.taken ≡ f.taken
  pub ended : g.ended ≡ f.ended

-- what a direction has written is the same
pub record SameSink (f g : Flow) : Type 0 where
  pub written : g.written ≡ f.written
  pub shut : g.shut ≡ f.shut
