-- The sockets of the numbers of a net, at first and after each call.
use Rattle.std.proofs.Common.{◌≡◌, ℕ, ◌<◌, ◌≤◌, ◌⊎◌, inl, inr, List, length, replicate, slice_set, ap, ◌∙◌, get_or-set_other}
use Rattle.std.proofs.Common.{get_or-set_same}
use Rattle.std.proofs.lemmas.Bool.{cases_lt}
use Rattle.std.proofs.lemmas.Grind.{common_steps}
use Rattle.std.proofs.Common.{arith}
use Rattle.nio_base.specs.declared.numbers.ChanId.{ChanId}
use Rattle.nio_base.specs.declared.numbers.ChanNo.{ChanNo}
use Rattle.nio_link.proofs.Channels.{number_differs}
use Rattle.nio_link.specs.Links.{IsSameBut}
use Rattle.nio_datagram.specs.Packets.{no_traffic}
use Rattle.nio_datagram.specs.Sockets.{Sockets, no_sockets, place_of, traffic_of}
use Rattle.nio_datagram.specs.declared.net.Place.TheVariants.{Unbound}
use Rattle.nio_mio_packets.specs.Sides.{place_at, sockets_at, traffic_at}

fresh_by : (n : ℕ) (k : ChanNo) → (k.0 < n) ⊎ (n ≤ k.0) → sockets_at (replicate n no_sockets) k ≡ no_sockets
fresh_by n k (inl within) = grind (arith, common_steps)
fresh_by n k (inr past) = grind (arith, common_steps)

fresh_sockets : (n : ℕ) (sides : List Sockets) (k : ChanNo) → sides ≡ replicate n no_sockets
    → sockets_at sides k ≡ no_sockets
fresh_sockets n sides k is = ap (λ (xs : List Sockets). sockets_at xs k) is ∙ fresh_by n k (cases_lt k.0 n)

pub fresh_traffic : (n : ℕ) (sides : List Sockets) (c : ChanId) → sides ≡ replicate n no_sockets
    → traffic_at sides c ≡ no_traffic
fresh_traffic n sides c is = ap (λ (x : Sockets). traffic_of x c.serial) (fresh_sockets n sides c.number is)

pub fresh_place : (n : ℕ) (sides : List Sockets) (c : ChanId) → sides ≡ replicate n no_sockets
    → place_at sides c ≡ Unbound
fresh_place n sides c is = ap (λ (x : Sockets). place_of x c.serial) (fresh_sockets n sides c.number is)

-- the sockets of one number were changed
pub sockets_here : (sides : List Sockets) (n : ChanNo) (x : Sockets) → n.0 < length sides
    → sockets_at (slice_set sides n.0 x) n ≡ x
sockets_here sides n x within = get_or-set_same sides n.0 x no_sockets within

pub sockets_else : (sides : List Sockets) (n : ChanNo) (x : Sockets)
    → IsSameBut n (sockets_at sides) (sockets_at (slice_set sides n.0 x))
sockets_else sides n x k differ = get_or-set_other sides n.0 k.0 x no_sockets (number_differs k n differ)
