-- What stands under the channel of a datagram link, from call to call.
use Rattle.std.proofs.Common.{◌≡◌, ◌≢◌, ℕ, ◌+◌, inl, inr, Option, Some, None, Result, ap, sym, ◌∙◌, subst, arith}
use Rattle.std.proofs.lemmas.Bool.{cases_eq}
use Rattle.nio_base.specs.declared.numbers.Addr.{Addr}
use Rattle.nio_base.specs.declared.numbers.ChanId.{ChanId}
use Rattle.nio_link.specs.Links.{IsSameBut}
use Rattle.nio_link.specs.Places.{channel}
use Rattle.nio_datagram.proofs.PlaceLaws.{free_first}
use Rattle.nio_datagram.specs.Datagrams.{ConnectClause, Datagram, StandsAs}
use Rattle.nio_datagram.specs.Places.{IsFree, IsVacant, place_after_close}
use Rattle.nio_datagram.specs.declared.link.DatagramState.{DatagramState}
use Rattle.nio_datagram.specs.declared.link.DatagramState.TheVariants as state
use Rattle.nio_datagram.specs.declared.link.PacketError.{PacketError}
use Rattle.nio_datagram.specs.declared.net.Place.{Place}
use Rattle.nio_datagram.specs.declared.net.Place.TheVariants.{Unbound, Bound, Closed}

-- a link that was just made, over a net on which nothing was bound yet
pub stands_first : (link : Datagram) (c : ChanId) (place : ChanId → Place)
    → link ≡ record { channel = c; state = state.Unbound; peer = None } → ((k : ChanId) → place k ≡ Unbound)
    → StandsAs link.state place link.channel
stands_first link c place is unbound =
    subst (λ (d : Datagram). StandsAs d.state place d.channel) (sym is) (free_first place c unbound)

-- where it isn't bound, it can be
pub stands_free : (st : DatagramState) (place : ChanId → Place) (c : ChanId) → StandsAs st place c
    → st ≡ state.Unbound → IsFree place c
stands_free st place c stands is = subst (λ (x : DatagramState). StandsAs x place c) is stands

-- connecting leaves that
pub connect_stands : (refusal : Option PacketError) (to : Addr) (before now : Datagram)
    (result : Result (Unit {0}) PacketError) (place : ChanId → Place) → ConnectClause refusal to before now result
    → StandsAs before.state place before.channel → StandsAs now.state place now.channel
connect_stands (Some error) to before now result place clause stands =
    subst (λ (d : Datagram). StandsAs d.state place d.channel) (sym clause.link) stands
connect_stands None to before now result place clause stands =
    subst (λ (d : Datagram). StandsAs d.state place d.channel) (sym clause.link) stands

-- ---- a number that serves again

closed_vacant : (p : Place) → IsVacant (place_after_close p)
closed_vacant Unbound = tt
closed_vacant (Bound at) = tt
closed_vacant (Closed at) = tt

-- where the first channel was asked, and closed
pub closed_free : (first mid now : ChanId → Place) (c : ChanId) → ((k : ChanId) → first k ≡ Unbound)
    → IsSameBut c first mid → IsSameBut c mid now → now c ≡ place_after_close (mid c)
    → IsFree now (record { number = c.number; serial = c.serial + 1 })
closed_free first mid now c unbound asked closed here = record {
  later = λ s above. still s (λ same. omega (arith, above, same));
  vacant = λ s. elim (cases_eq s c.serial) [
    | inl same ↦ subst (λ (n : ℕ). IsVacant (now (channel c.number n))) (sym same)
        (subst IsVacant (sym here) (closed_vacant (mid c)))
    | inr differ ↦ subst IsVacant (sym (still s differ)) tt
  ];
}
  where
    still : (s : ℕ) → s ≢ c.serial → now (channel c.number s) ≡ Unbound
    still s differ =
        let apart : channel c.number s ≢ c = λ same. differ (ap (λ (k : ChanId). k.serial) same) in
        closed (channel c.number s) apart ∙ asked (channel c.number s) apart ∙ unbound (channel c.number s)
