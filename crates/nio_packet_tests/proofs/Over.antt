-- A net of packets in memory whose readiness another keeps.
use Rattle.std.proofs.Common.{◌≡◌, ℕ, Bool, false, if◌then◌else◌, None, Result, Ok, List, refl, ap, ◌∙◌, arith}
use Rattle.nio_base.specs.declared.numbers.Addr.{Addr}
use Rattle.nio_base.specs.declared.numbers.ChanId.{ChanId}
use Rattle.nio_base.specs.declared.numbers.ChanNo.{ChanNo}
use Rattle.nio_link.specs.Links.{IsSameBut}
use Rattle.nio_link.specs.Readiness.{without}
use Rattle.nio_link.specs.declared.net.Failed.{Failed}
use Rattle.nio_datagram.proofs.SocketLaws.{ready_closed}
use Rattle.nio_datagram.specs.MemoryPackets.{PacketsState, is_bound_at, shown, side_at}
use Rattle.nio_datagram.specs.Nets.{PacketView, Binds, Closes, Receives, Sends}
use Rattle.nio_datagram.specs.Readiness.{ready_after_bind, ready_after_receive, ready_after_send}
use Rattle.nio_datagram.specs.declared.net.Came.{Came}

-- what it shows then
abbrev pub over : PacketsState → (ChanNo → ℕ) → PacketView
over s ready = record (shown s) { ready = ready; polls = None }

module _ (s now : PacketsState) (c : ChanId) where
  pub binds_over : (at : Addr) (ready ready' : ChanNo → ℕ) (result : Result (Unit {0}) Failed)
      → ready' c.number ≡ ready_after_bind result (ready c.number) → IsSameBut c.number ready ready'
      → Binds c at (shown s) (shown now) result → Binds c at (over s ready) (over now ready') result
  binds_over at ready ready' result here beside binds = record {
    cause = binds.cause;
    others = binds.others;
    traffic = binds.traffic;
    ready = here;
    ready_else = beside;
    place = binds.place;
    places = binds.places;
    polls = refl;
    shown = refl;
  }

  module _ (ready ready' : ChanNo → ℕ) (beside : IsSameBut c.number ready ready') where
    pub receives_over : (filled : List ℕ) (result : Result Came Failed)
        → ready' c.number ≡ ready_after_receive result (ready c.number)
        → Receives c (shown s) (shown now) filled result
        → Receives c (over s ready) (over now ready') filled result
    receives_over filled result here receives = record {
      cause = receives.cause;
      others = receives.others;
      came = receives.came;
      traffic = receives.traffic;
      traffic_else = receives.traffic_else;
      ready = here;
      ready_else = beside;
      places = receives.places;
      polls = refl;
      shown = refl;
    }

    -- a send that found no room, and didn't reach the net
    pub sends_none : (to : Addr) (bytes : List ℕ) → ready' c.number ≡ without 4 (ready c.number)
        → Sends c to (over s ready) (over s ready') bytes (Ok false)
    sends_none to bytes here = record {
      cause = record { later = omega arith; still = refl; failed = tt };
      others = λ k differ. refl;
      traffic = refl;
      traffic_else = λ k differ. refl;
      ready = here;
      ready_else = beside;
      places = λ k. refl;
      polls = refl;
      shown = refl;
    }

    pub sends_over : (to : Addr) (bytes : List ℕ) (result : Result Bool Failed)
        → ready' c.number ≡ ready_after_send result (ready c.number) → Sends c to (shown s) (shown now) bytes result
        → Sends c to (over s ready) (over now ready') bytes result
    sends_over to bytes result here sends = record {
      cause = sends.cause;
      others = sends.others;
      traffic = sends.traffic;
      traffic_else = sends.traffic_else;
      ready = here;
      ready_else = beside;
      places = sends.places;
      polls = refl;
      shown = refl;
    }

    -- a socket was closed, and what was told of it is over where it was bound
    pub closes_over : (bound : Bool) → bound ≡ is_bound_at s.sides c
        → ready' c.number ≡ (if bound then 0 else ready c.number) → Closes c (shown s) (shown now)
        → Closes c (over s ready) (over now ready')
    closes_over bound is here closes =
        let sockets = (side_at s.sides c.number).sockets in record {
          faults = closes.faults;
          traffic = closes.traffic;
          ready = here
              ∙ ap (λ (b : Bool). if b then 0 else ready c.number) is
              ∙ ready_closed sockets.last sockets.past c.serial (ready c.number);
          ready_else = beside;
          place = closes.place;
          places = closes.places;
          polls = refl;
          shown = refl;
        }
