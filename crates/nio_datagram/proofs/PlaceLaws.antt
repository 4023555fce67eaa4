-- Which channels can be bound.
use Rattle.std.proofs.Common.{◌≡◌, ◌≢◌, ℕ, Result, Ok, Err, ap, sym, ◌∙◌, subst, arith}
use Rattle.nio_base.specs.declared.numbers.Addr.{Addr}
use Rattle.nio_base.specs.declared.numbers.ChanId.{ChanId}
use Rattle.nio_link.proofs.Channels.{all_same, channel_is_or_not}
use Rattle.nio_link.specs.Links.{IsSameBut}
use Rattle.nio_link.specs.Places.{channel}
use Rattle.nio_link.specs.declared.net.Failed.{Failed}
use Rattle.nio_datagram.specs.Datagrams.{StandsAs, as_fault, state_after_bind}
use Rattle.nio_datagram.specs.Places.{IsBound, IsFree, IsVacant, place_after_bind}
use Rattle.nio_datagram.specs.declared.net.Place.{Place}
use Rattle.nio_datagram.specs.declared.net.Place.TheVariants.{Unbound, Bound}

-- where nothing was bound yet
pub free_first : (place : ChanId → Place) (c : ChanId) → ((k : ChanId) → place k ≡ Unbound) → IsFree place c
free_first place c unbound = record {
  later = λ s above. unbound (channel c.number s);
  vacant = λ s. subst IsVacant (sym (unbound (channel c.number s))) tt;
}

module _ (place place' : ChanId → Place) (c : ChanId) where
  -- where what stands is the same
  free_same : ((k : ChanId) → place' k ≡ place k) → IsFree place c → IsFree place' c
  free_same same free = record {
    later = λ s above. same (channel c.number s) ∙ free.later s above;
    vacant = λ s. subst IsVacant (sym (same (channel c.number s))) (free.vacant s);
  }

  -- where only a channel of another number can have changed
  pub free_else : (other : ChanId) → c.number ≢ other.number → IsSameBut other place place' → IsFree place c
      → IsFree place' c
  free_else other differ others free = record {
    later = λ s above. others (channel c.number s) (apart s) ∙ free.later s above;
    vacant = λ s. subst IsVacant (sym (others (channel c.number s) (apart s))) (free.vacant s);
  }
    where
      apart : (s : ℕ) → channel c.number s ≢ other
      apart s same = differ (ap (λ (k : ChanId). k.number) same)

  -- what stands there once a bind was answered so
  pub bind_stands : (result : Result (Unit {0}) Failed) (at : Addr) → place' c ≡ place_after_bind result at
      → IsSameBut c place place' → IsFree place c → StandsAs (state_after_bind (as_fault result)) place' c
  bind_stands (Ok done) at here others free = subst IsBound (sym here) tt
  bind_stands (Err failed) at here others free =
      free_same (all_same channel_is_or_not c place place' (here ∙ sym (free.later c.serial (omega arith))) others) free
