-- A connection whose target is asked for.
use Rattle.std.proofs.Common.{◌≡◌, Bool, true, false, Result, Ok, Err, IsTrue, refl, sym, ap, subst, ◌∙◌}
use Rattle.nio_base.specs.declared.numbers.Addr.{Addr}
use Rattle.nio_link.specs.Links.{Link}
use Rattle.nio_link.specs.Places.{IsVacant, place_after_close, place_after_connect}
use Rattle.nio_link.specs.declared.net.Failed.{Failed}
use Rattle.nio_link.specs.declared.place.Place.{Place}
use Rattle.nio_link.specs.declared.place.Role.{Role}
use Rattle.nio_link.specs.declared.place.Role.TheVariants as role
use Rattle.nio_relay.specs.Flow.{Flow}
use Rattle.nio_serve.specs.Nets.{OnlyCloses}
use Rattle.nio_serve.specs.Relaying.{carried, target_role, IsAsked, IsTarget}
use Rattle.nio_serve.specs.Serving.{listener}
use Rattle.nio_serve.specs.Statuses.{HasRoles, IsLive, IsStatusOf}
use Rattle.nio_serve.specs.declared.relay.Ended.TheVariants.{Faulted}
use Rattle.nio_serve.specs.declared.relay.Relay.{Relay}
use Rattle.nio_serve.specs.declared.relay.Stage.{Stage}
use Rattle.nio_serve.specs.declared.relay.Stage.TheVariants as stage
use Rattle.nio_serve.specs.Statuses.{Live, Over}
use Rattle.nio_serve.proofs.Promise.{ended_faulty}
use Rattle.nio_serve.proofs.Working.{role_stays}

-- ---- what its channels were asked to be

asked_role : (s : Stage) (to : Addr) → IsAsked s → target_role s to ≡ role.Connected to
asked_role stage.Accepted to asked = absurd asked
asked_role stage.Connecting to asked = refl
asked_role stage.Connected to asked = refl

-- one whose target was asked for keeps its roles at its end
pub ended_roles : (relay : Relay) (to : Addr) (r s : Role) → IsAsked relay.stage → HasRoles to (Live relay) r s
    → (r ≡ role.Accepted listener) × (s ≡ role.Connected to)
ended_roles relay to r s asked roles = (roles.0, roles.1 ∙ asked_role relay.stage to asked)

-- the target of a connection whose directions are shut was asked for
pub shut_asked : (s : Stage) (there back : Flow) (l : Link) (p : Place) → IsTarget s l p (carried back there)
    → IsTrue there.shut → IsAsked s
shut_asked stage.Accepted there back l p is shut = let never : true ≡ false = sym shut ∙ is.unshut in absurd (cc)
shut_asked stage.Connecting there back l p is shut = tt
shut_asked stage.Connected there back l p is shut = tt

-- ---- its target can't be connected

module _ (relay : Relay) (to : Addr) (c0 c1 t0 t1 : Link) (p0 p1 q0 q1 : Place)
    (at : relay.stage ≡ stage.Accepted) (is : IsStatusOf to (Live relay) c0 t0 p0 q0) (clients : c1 ≡ c0)
    (targets : t1 ≡ t0) where
  live : IsLive stage.Accepted relay.there relay.back c0 t0 p0 q0
  live = subst (λ s. IsLive s relay.there relay.back c0 t0 p0 q0) at is.is_status

  answered_role : (result : Result Bool Failed) → q1 ≡ place_after_connect result to → q1.role ≡ role.Connected to
  answered_role (Ok true) place = ap (λ (x : Place). x.role) place
  answered_role (Ok false) place = ap (λ (x : Place). x.role) place
  answered_role (Err failed) place = ap (λ (x : Place). x.role) place

  -- its links were closed
  pub unmade_status : (failed : Failed) (p2 q2 : Place) → p1 ≡ p0 → q1 ≡ place_after_connect (Err failed) to
      → p2 ≡ place_after_close p1 → OnlyCloses q1 q2 → IsVacant q2.standing → IsStatusOf to (Over Faulted) c1 t1 p2 q2
  unmade_status failed p2 q2 at_client at_target closed closes vacant = record {
    is_status = ended_faulty relay.there relay.back c0 c1 t0 t1 p0 p2 q2 live.there_lawful live.back_lawful
        (record { by_client = live.relaying.by_client; by_target = live.relaying.by_target.carried }) clients targets
        (closed ∙ ap place_after_close at_client) vacant;
    roles = (
      ap (λ (x : Place). x.role) closed ∙ (ap (λ (x : Place). x.role) at_client ∙ is.roles.0),
      role_stays q1 q2 closes ∙ answered_role (Err failed) at_target,
    );
  }
