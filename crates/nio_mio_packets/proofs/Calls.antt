-- What the calls of a net of packets that change its sockets promise, and closing where there is no socket.
use Rattle.std.proofs.Common.{◌≡◌, ℕ, ◌≤◌, ◌<◌, Bool, true, false, if◌then◌else◌, Option, option_map, Ok, List, length, take}
use Rattle.std.proofs.Common.{slice_set, refl, ap, sym, ◌∙◌, arith}
use Rattle.nio_base.specs.declared.numbers.Addr.{Addr}
use Rattle.nio_base.specs.declared.numbers.ChanId.{ChanId}
use Rattle.nio_base.specs.declared.numbers.ChanNo.{ChanNo}
use Rattle.nio_bytes.specs.Cause.{HasCause}
use Rattle.nio_link.specs.Links.{IsSameBut}
use Rattle.nio_link.specs.declared.net.Failed.{Failed}
use Rattle.nio_poller.specs.Polled.{Polled}
use Rattle.nio_datagram.proofs.SocketLaws.{bind_place, bind_places, bind_traffic, bound_last, came_places, came_traffic}
use Rattle.nio_datagram.proofs.SocketLaws.{came_traffic_else, close_place, free_after, ready_closed, went_places}
use Rattle.nio_datagram.proofs.SocketLaws.{went_traffic, went_traffic_else}
use Rattle.nio_datagram.specs.Nets.{PacketView, Binds, Closes, Receives, Sends}
use Rattle.nio_datagram.specs.Packets.{Packet}
use Rattle.nio_datagram.specs.Places.{IsBound, IsFree}
use Rattle.nio_datagram.specs.Sockets.{Sockets, after_came, after_close, after_went, closed, is_bound_as, with_socket}
use Rattle.nio_datagram.specs.declared.net.Came.TheVariants as came
use Rattle.nio_mio_packets.proofs.Sides.{sockets_else, sockets_here}
use Rattle.nio_mio_packets.specs.Sides.{is_bound_at, place_at, sockets_at, traffic_at}

-- what such a net shows
abbrev pub view : List Sockets → (ChanId → ℕ) → (ChanNo → ℕ) → ℕ → Option (List Polled) → PacketView
view sides faults ready poll_faults polls = record {
  traffic = traffic_at sides;
  faults = faults;
  place = place_at sides;
  ready = ready;
  poll_faults = poll_faults;
  polls = polls;
}

-- a call that didn't fail
still : {T : Type 0} (value : T) (n : ℕ) → HasCause {E = Failed} n n (Ok value)
still value n = record { later = omega arith; still = refl; failed = tt }

module _ (sides : List Sockets) (c : ChanId) (faults : ChanId → ℕ) (ready : ChanNo → ℕ) (poll_faults : ℕ)
    (polls : Option (List Polled)) where
  module _ (sides' : List Sockets) (within : c.number.0 < length sides) where
    at_number : (x : Sockets) → sides' ≡ slice_set sides c.number.0 x → sockets_at sides' c.number ≡ x
    at_number x is = rw is (sockets_here sides c.number x within)

    at_others : (x : Sockets) → sides' ≡ slice_set sides c.number.0 x
        → IsSameBut c.number (sockets_at sides) (sockets_at sides')
    at_others x is = rw is (sockets_else sides c.number x)

    pub binds : (at : Addr) (ready' : ChanNo → ℕ) → ready' c.number ≡ 0 → IsSameBut c.number ready ready'
        → IsFree (place_at sides) c → sides' ≡ slice_set sides c.number.0 (with_socket (sockets_at sides c.number) c.serial at)
        → Binds c at (view sides faults ready poll_faults polls) (view sides' faults ready' poll_faults polls) (Ok tt)
    binds at ready' unready beside free is =
        let x : Sockets = with_socket (sockets_at sides c.number) c.serial at in
        let others = at_others x is in
        let here = at_number x is in
        let after = free_after (sockets_at sides) c free in record {
          cause = still tt (faults c);
          others = λ k differ. refl;
          traffic = bind_traffic (sockets_at sides) (sockets_at sides') c others at after here
              (free.later c.serial (omega arith));
          ready = unready;
          ready_else = beside;
          place = bind_place (sockets_at sides) (sockets_at sides') c others at after here;
          places = bind_places (sockets_at sides) (sockets_at sides') c others at after here;
          polls = refl;
          shown = refl;
        }

    module _ (bound : IsBound (place_at sides c)) where
      is_last : is_bound_as (sockets_at sides c.number).last c.serial ≡ true
      is_last = bound_last (sockets_at sides c.number).last (sockets_at sides c.number).past c.serial bound

      pub receives : (filled : List ℕ) (len : ℕ) (from : Addr) → len ≤ 65507
          → sides' ≡ slice_set sides c.number.0
          (after_came (sockets_at sides c.number) (record { addr = from; bytes = take len filled }))
          → Receives c (view sides faults ready poll_faults polls) (view sides' faults ready poll_faults polls) filled
          (Ok (came.Packet len from))
      receives filled len from short is =
          let p : Packet = record { addr = from; bytes = take len filled } in
          let x : Sockets = after_came (sockets_at sides c.number) p in
          let others = at_others x is in
          let here = at_number x is in record {
            cause = still (came.Packet len from) (faults c);
            others = λ k differ. refl;
            came = short;
            traffic = came_traffic (sockets_at sides) (sockets_at sides') c others p is_last here;
            traffic_else = came_traffic_else (sockets_at sides) (sockets_at sides') c others p is_last here;
            ready = refl;
            ready_else = λ n differ. refl;
            places = came_places (sockets_at sides) (sockets_at sides') c others p is_last here;
            polls = refl;
            shown = refl;
          }

      pub sends : (to : Addr) (bytes : List ℕ)
          → sides' ≡ slice_set sides c.number.0
          (after_went (sockets_at sides c.number) (record { addr = to; bytes = bytes }))
          → Sends c to (view sides faults ready poll_faults polls) (view sides' faults ready poll_faults polls) bytes
          (Ok true)
      sends to bytes is =
          let p : Packet = record { addr = to; bytes = bytes } in
          let x : Sockets = after_went (sockets_at sides c.number) p in
          let others = at_others x is in
          let here = at_number x is in record {
            cause = still true (faults c);
            others = λ k differ. refl;
            traffic = went_traffic (sockets_at sides) (sockets_at sides') c others p is_last here;
            traffic_else = went_traffic_else (sockets_at sides) (sockets_at sides') c others p is_last here;
            ready = refl;
            ready_else = λ n differ. refl;
            places = went_places (sockets_at sides) (sockets_at sides') c others p is_last here;
            polls = refl;
            shown = refl;
          }

  -- where the channel has no socket, closing leaves all as it was
  pub closes_none : is_bound_at sides c ≡ false
      → Closes c (view sides faults ready poll_faults polls) (view sides faults ready poll_faults polls)
  closes_none unbound =
      let was : Sockets = sockets_at sides c.number in
      let shut : Sockets = record was { last = option_map closed was.last } in
      let same : after_close was c.serial ≡ was = ap (λ (b : Bool). if b then shut else was) unbound in
      let others : IsSameBut c.number (sockets_at sides) (sockets_at sides) = λ n differ. refl in record {
        faults = λ k. refl;
        traffic = λ k. refl;
        ready = sym (ap (λ (b : Bool). if b then 0 else ready c.number) unbound)
            ∙ ready_closed was.last was.past c.serial (ready c.number);
        ready_else = λ n differ. refl;
        place = close_place (sockets_at sides) (sockets_at sides) c others (sym same);
        places = λ k differ. refl;
        polls = refl;
        shown = refl;
      }
