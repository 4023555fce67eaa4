-- A connection whose links are watched for something else stands as it did.
use Rattle.std.proofs.Common.{◌≡◌, Option, Some, None, refl, sym, subst, ap, ◌∙◌}
use Rattle.nio_base.specs.declared.numbers.Addr.{Addr}
use Rattle.nio_link.specs.Links.{Link}
use Rattle.nio_link.specs.declared.place.Place.{Place}
use Rattle.nio_link.specs.declared.place.Role.{Role}
use Rattle.nio_relay.specs.Flow.{Flow}
use Rattle.nio_serve.specs.Relaying.{target_role}
use Rattle.nio_serve.specs.Statuses.{HasRoles, IsLive, IsStatus, IsStatusOf, has_faulted, status_after}
use Rattle.nio_serve.specs.declared.relay.Ended.{Ended}
use Rattle.nio_serve.specs.declared.relay.Relay.{Relay}
use Rattle.nio_serve.specs.declared.relay.Stage.{Stage}

module _ (relay followed : Relay) (there : followed.there ≡ relay.there) (back : followed.back ≡ relay.back)
    (stage_is : followed.stage ≡ relay.stage) where
  pub status_followed : (ended : Option Ended) (c t : Link) (p q : Place) → IsStatus (status_after relay ended) c t p q
      → IsStatus (status_after followed ended) c t p q
  status_followed None c t p q is =
      subst (λ (s : Stage). IsLive s followed.there followed.back c t p q) (sym stage_is)
      (subst (λ (f : Flow). IsLive relay.stage f followed.back c t p q) (sym there)
      (subst (λ (f : Flow). IsLive relay.stage relay.there f c t p q) (sym back) is))
  status_followed (Some ended) c t p q is = is

  pub roles_followed : (to : Addr) (ended : Option Ended) (r s : Role) → HasRoles to (status_after relay ended) r s
      → HasRoles to (status_after followed ended) r s
  roles_followed to None r s has = (has.0, has.1 ∙ ap (λ (x : Stage). target_role x to) (sym stage_is))
  roles_followed to (Some ended) r s has = has

  pub faulted_followed : (ended : Option Ended)
      → has_faulted (Some (status_after followed ended)) ≡ has_faulted (Some (status_after relay ended))
  faulted_followed None = refl
  faulted_followed (Some ended) = refl

  pub status_of_followed : (to : Addr) (ended : Option Ended) (c t : Link) (p q : Place)
      → IsStatusOf to (status_after relay ended) c t p q → IsStatusOf to (status_after followed ended) c t p q
  status_of_followed to ended c t p q is = record {
    is_status = status_followed ended c t p q is.is_status;
    roles = roles_followed to ended p.role q.role is.roles;
  }
