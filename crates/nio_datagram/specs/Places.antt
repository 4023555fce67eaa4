-- What stands under a channel of a net of packets, after each call.
use Rattle.std.specs.Prelude.{◌≡◌, ℕ, ◌≤◌, Result, Ok, Err}
use Rattle.nio_base.specs.declared.numbers.Addr.{Addr}
use Rattle.nio_base.specs.declared.numbers.ChanId.{ChanId}
use Rattle.nio_link.specs.Places.{channel}
use Rattle.nio_link.specs.declared.net.Failed.{Failed}
use Rattle.nio_datagram.specs.declared.net.Place.{Place}
use Rattle.nio_datagram.specs.declared.net.Place.TheVariants.{Unbound, Bound, Closed}

-- a socket stands there
abbrev pub IsBound : Place → Type 0
IsBound Unbound = ⊥
IsBound (Bound at) = Unit {0}
IsBound (Closed at) = ⊥

-- no socket stands there
abbrev pub IsVacant : Place → Type 0
IsVacant Unbound = Unit {0}
IsVacant (Bound at) = ⊥
IsVacant (Closed at) = Unit {0}

-- The channel can be bound: neither it nor a later channel of its number was, and what stood under the number was closed.
pub record IsFree (place : ChanId → Place) (c : ChanId) : Type 0 where
  pub later : (s : ℕ) → c.serial ≤ s → place (channel c.number s) ≡ Unbound
  pub vacant : (s : ℕ) → IsVacant (place (channel c.number s))

abbrev pub place_after_bind : Result (Unit {0}) Failed → Addr → Place
place_after_bind (Ok done) at = Bound at
place_after_bind (Err failed) at = Unbound

abbrev pub place_after_close : Place → Place
place_after_close Unbound = Unbound
place_after_close (Bound at) = Closed at
place_after_close (Closed at) = Closed at
