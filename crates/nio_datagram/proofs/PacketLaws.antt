-- The laws that a net of packets keeps, at one in memory.
use Rattle.std.proofs.Common.{◌≡◌, ◌≢◌, ℕ, ◌+◌, ◌<◌, ◌≤◌, ◌⊎◌, inl, inr, ◌==◌, nat_lt, Bool, true, false, ◌&&◌, if◌then◌else◌}
use Rattle.std.proofs.Common.{Option, Some, None, Result, Ok, Err, IfOk, List, [], ◌∷◌, ◌++◌, length, take, drop, slice_set}
use Rattle.std.proofs.Common.{refl, ap, sym, ◌∙◌, subst, arith, eq-eqb, ltb-true, get_or-set_other, get_or-set_same}
use Rattle.std.proofs.lemmas.Bool.{and_parts, cases_lt, ne_eqb}
use Rattle.std.proofs.lemmas.Grind.{common_steps}
use Rattle.std.proofs.lemmas.List.{set_past}
use Rattle.std.proofs.lemmas.List.Sums.{fold-append}
use Rattle.std.proofs.Math.Seq.{take-append_seam}
use Rattle.nio_base.specs.declared.numbers.Addr.{Addr}
use Rattle.nio_base.specs.declared.numbers.ChanId.{ChanId}
use Rattle.nio_base.specs.declared.numbers.ChanNo.{ChanNo}
use Rattle.nio_bytes.specs.Calls.{Calls, after_failure, after_success}
use Rattle.nio_link.proofs.Channels.{number_differs}
use Rattle.nio_link.proofs.MemoryLaws.{cause_after, cause_else}
use Rattle.nio_link.specs.Links.{IsSameBut}
use Rattle.nio_link.specs.MemoryNet.{faulted_after, times}
use Rattle.nio_link.specs.Readiness.{without}
use Rattle.nio_link.specs.declared.net.Failed.{Failed}
use Rattle.nio_datagram.proofs.SocketLaws.{bind_place, bind_places, bind_traffic, came_places, came_traffic, came_traffic_else}
use Rattle.nio_datagram.proofs.SocketLaws.{close_place, close_places, close_traffic, ready_closed, went_places, went_traffic}
use Rattle.nio_datagram.proofs.SocketLaws.{went_traffic_else}
use Rattle.nio_datagram.specs.MemoryPackets.{PacketsState, after_bind, after_close, after_lost_send, after_planned_send}
use Rattle.nio_datagram.specs.MemoryPackets.{after_receive, after_sent, can_bind}
use Rattle.nio_datagram.specs.MemoryPackets.{faulted_on, findings_after, findings_closed, heed, is_bound_at, is_early}
use Rattle.nio_datagram.specs.MemoryPackets.{no_side, place_at, polls_told, ready_told, shown, side_at, sides_after_bind}
use Rattle.nio_datagram.specs.MemoryPackets.{sides_after_close, sides_after_receive, sides_after_send, traffic_at, with_told}
use Rattle.nio_datagram.specs.Nets.{Binds, Closes, Receives, Sends}
use Rattle.nio_datagram.specs.Packets.{Packet, IsCame, after_receive as traffic_after_receive}
use Rattle.nio_datagram.specs.Places.{IsFree}
use Rattle.nio_datagram.specs.Readiness.{ready_after_close, ready_after_receive}
use Rattle.nio_datagram.specs.Sides.{SideState, came_of, filled_by, next_packet, receive_answer, receive_buffer}
use Rattle.nio_datagram.specs.Sides.{side_after_bind, side_after_close, side_after_look, side_after_receive, side_after_send}
use Rattle.nio_datagram.specs.Sockets.{SocketState, Sockets, comes_after, is_bound_as, place_of, traffic_of}
use Rattle.nio_datagram.specs.declared.memory.finding.Finding.{Finding}
use Rattle.nio_datagram.specs.declared.memory.finding.Finding.TheVariants.{NotReady, Forgotten}
use Rattle.nio_datagram.specs.declared.memory.memory_packets.SendFailure.{SendFailure}
use Rattle.nio_datagram.specs.declared.memory.memory_packets.SendFailure.TheVariants as failure
use Rattle.nio_datagram.specs.declared.net.Came.{Came}
use Rattle.nio_datagram.specs.declared.net.Came.TheVariants as came
use Rattle.nio_datagram.specs.declared.net.Place.TheVariants.{Unbound}

-- ---- the numbers

abbrev sockets_in : List SideState → ChanNo → Sockets
sockets_in sides n = (side_at sides n).sockets

side_past : (sides : List SideState) (n : ChanNo) → length sides ≤ n.0 → side_at sides n ≡ no_side
side_past sides n past = grind (arith, common_steps)

-- a number on which a socket is bound is one of the net's
pub bound_inside : (sides : List SideState) (c : ChanId) → is_bound_at sides c ≡ true → c.number.0 < length sides
bound_inside sides c bound = elim (cases_lt c.number.0 (length sides)) [
  | inl within ↦ within
  | inr past ↦
      let none : false ≡ is_bound_at sides c =
      sym (ap (λ (s : SideState). is_bound_as s.sockets.last c.serial) (side_past sides c.number past)) in
      absurd (cc (none ∙ bound))
]

side_here : (sides : List SideState) (n : ChanNo) (x : SideState) → n.0 < length sides
    → side_at (slice_set sides n.0 x) n ≡ x
side_here sides n x within = get_or-set_same sides n.0 x no_side within

others_of : (sides : List SideState) (n : ChanNo) (x : SideState)
    → IsSameBut n (sockets_in sides) (sockets_in (slice_set sides n.0 x))
others_of sides n x k differ =
    ap (λ (s : SideState). s.sockets) (get_or-set_other sides n.0 k.0 x no_side (number_differs k n differ))

-- ---- readiness

ready_more : (findings : List Finding) (x : Finding) (n : ChanNo)
    → ready_told (findings ++ x ∷ []) n ≡ heed (ready_told findings) x n
ready_more findings x n = ap (λ (f : ChanNo → ℕ). f n) (fold-append heed (λ _. 0) findings (x ∷ []))

same_number : (n : ChanNo) → (n.0 == n.0) ≡ true
same_number n = eq-eqb n.0 n.0 refl

other_number : (k n : ChanNo) → k ≢ n → (n.0 == k.0) ≡ false
other_number k n differ = ne_eqb n.0 k.0 (λ same. number_differs k n differ (sym same))

early_here : (r : Result Came Failed) (findings : List Finding) (n : ChanNo)
    → ready_told (findings_after (is_early r) n 1 findings) n ≡ ready_after_receive r (ready_told findings n)
early_here (Ok (came.Packet len from)) findings n = refl
early_here (Ok came.NotYet) findings n =
    ready_more findings (NotReady n 1) n
    ∙ ap (λ (b : Bool). if b then without 1 (ready_told findings n) else ready_told findings n) (same_number n)
early_here (Err failed) findings n = refl

early_else : (b : Bool) (findings : List Finding) (n : ChanNo)
    → IsSameBut n (ready_told findings) (ready_told (findings_after b n 1 findings))
early_else true findings n k differ =
    ready_more findings (NotReady n 1) k
    ∙ ap (λ (b : Bool). if b then without 1 (ready_told findings k) else ready_told findings k)
    (other_number k n differ)
early_else false findings n k differ = refl

closed_here : (b : Bool) (findings : List Finding) (n : ChanNo)
    → ready_told (findings_closed b n findings) n ≡ (if b then 0 else ready_told findings n)
closed_here true findings n =
    ready_more findings (Forgotten n) n ∙ ap (λ (b : Bool). if b then 0 else ready_told findings n) (same_number n)
closed_here false findings n = refl

closed_else : (b : Bool) (findings : List Finding) (n : ChanNo)
    → IsSameBut n (ready_told findings) (ready_told (findings_closed b n findings))
closed_else true findings n k differ =
    ready_more findings (Forgotten n) k
    ∙ ap (λ (b : Bool). if b then 0 else ready_told findings k) (other_number k n differ)
closed_else false findings n k differ = refl

-- ---- the polls that answered

polls_more : (findings : List Finding) (x : Finding)
    → polls_told (findings ++ x ∷ []) ≡ with_told (polls_told findings) x
polls_more findings x = fold-append with_told [] findings (x ∷ [])

early_polls : (b : Bool) (findings : List Finding) (n : ChanNo)
    → polls_told (findings_after b n 1 findings) ≡ polls_told findings
early_polls true findings n = polls_more findings (NotReady n 1)
early_polls false findings n = refl

closed_polls : (b : Bool) (findings : List Finding) (n : ChanNo)
    → polls_told (findings_closed b n findings) ≡ polls_told findings
closed_polls true findings n = polls_more findings (Forgotten n)
closed_polls false findings n = refl

-- ---- the calls

-- what a receive leaves of the sockets
record Leaves (before now : List SideState) (c : ChanId) (answer : Result Came Failed) (filled : List ℕ) : Type 0 where
  pub traffic : traffic_at now c ≡ traffic_after_receive answer filled (traffic_at before c)
  pub traffic_else : IsSameBut c (traffic_at before) (traffic_at now)
  pub places : (k : ChanId) → place_at now k ≡ place_at before k

module _ (s : PacketsState) (c : ChanId) where
  -- a call on this channel failed, and left the rest
  pub bind_fails : (at : Addr) → IsFree (place_at s.sides) c
      → Binds c at (shown s) (shown (faulted_on c s)) (Err (record {}))
  bind_fails at free = record {
    cause = cause_after {T = Unit {0}} (Err (record {})) s.faulted c;
    others = cause_else {T = Unit {0}} (Err (record {})) s.faulted c;
    traffic = λ k. refl;
    ready = refl;
    ready_else = λ n differ. refl;
    place = free.later c.serial (omega arith);
    places = λ k differ. refl;
    polls = refl;
    shown = refl;
  }

  pub binds : (at : Addr) → IsFree (place_at s.sides) c → can_bind s.sides c ≡ true
      → Binds c at (shown s) (shown (after_bind s c at)) (Ok tt)
  binds at free can =
      let both = and_parts (nat_lt c.number.0 (length s.sides)) (comes_after (sockets_in s.sides c.number).last c.serial) can in
      let within : c.number.0 < length s.sides = ltb-true c.number.0 (length s.sides) both.0 in
      let after : comes_after (sockets_in s.sides c.number).last c.serial ≡ true = both.1 in
      let side = side_after_bind (side_at s.sides c.number) c.serial at in
      let is : sockets_in (sides_after_bind s.sides c at) c.number ≡ side.sockets =
      ap (λ (x : SideState). x.sockets) (side_here s.sides c.number side within) in
      let others = others_of s.sides c.number side in record {
        cause = cause_after {T = Unit {0}} (Ok tt) s.faulted c;
        others = λ k differ. refl;
        traffic = bind_traffic (sockets_in s.sides) (sockets_in (sides_after_bind s.sides c at)) c others at after is
            (free.later c.serial (omega arith));
        ready = closed_here true s.findings c.number;
        ready_else = closed_else true s.findings c.number;
        place = bind_place (sockets_in s.sides) (sockets_in (sides_after_bind s.sides c at)) c others at after is;
        places = bind_places (sockets_in s.sides) (sockets_in (sides_after_bind s.sides c at)) c others at after is;
        polls = refl;
        shown = ap (λ polls. Some polls) (closed_polls true s.findings c.number);
      }

  -- ---- receiving

  module _ (buffer : List ℕ) where
    abbrev side : SideState
    side = side_at s.sides c.number

    same_all : Leaves s.sides (slice_set s.sides c.number.0 side) c (Ok came.NotYet) buffer
    same_all =
        let same : slice_set s.sides c.number.0 side ≡ s.sides = grind (arith, common_steps) in record {
          traffic = ap (λ (xs : List SideState). traffic_at xs c) same;
          traffic_else = λ k differ. ap (λ (xs : List SideState). traffic_at xs k) same;
          places = λ k. ap (λ (xs : List SideState). place_at xs k) same;
        }

    same_failed : Leaves s.sides (slice_set s.sides c.number.0 side) c (Err (record {})) buffer
    same_failed =
        let same : slice_set s.sides c.number.0 side ≡ s.sides = grind (arith, common_steps) in record {
          traffic = ap (λ (xs : List SideState). traffic_at xs c) same;
          traffic_else = λ k differ. ap (λ (xs : List SideState). traffic_at xs k) same;
          places = λ k. ap (λ (xs : List SideState). place_at xs k) same;
        }

    look_by : is_bound_as side.sockets.last c.serial ≡ true → (o : Option Packet)
        → Leaves s.sides (slice_set s.sides c.number.0 (side_after_look o side)) c (Ok (came_of o)) (filled_by o buffer)
    look_by bound None = same_all
    look_by bound (Some p) =
        let within : c.number.0 < length s.sides = bound_inside s.sides c bound in
        let next = side_after_look (Some p) side in
        let sides = slice_set s.sides c.number.0 next in
        let is : sockets_in sides c.number ≡ next.sockets =
        ap (λ (x : SideState). x.sockets) (side_here s.sides c.number next within) in
        let others = others_of s.sides c.number next in
        let whole : take (length p.bytes) (p.bytes ++ drop (length p.bytes) buffer) ≡ p.bytes =
        take-append_seam p.bytes (drop (length p.bytes) buffer) in
        record {
          traffic = rw whole (came_traffic (sockets_in s.sides) (sockets_in sides) c others p bound is);
          traffic_else = came_traffic_else (sockets_in s.sides) (sockets_in sides) c others p bound is;
          places = came_places (sockets_in s.sides) (sockets_in sides) c others p bound is;
        }

    leaves_by : (b : Bool) → is_bound_as side.sockets.last c.serial ≡ b
        → Leaves s.sides (slice_set s.sides c.number.0 (if b then side_after_look (next_packet side) side else side)) c
        (if b then Ok (came_of (next_packet side)) else Err (record {}))
        (if b then filled_by (next_packet side) buffer else buffer)
    leaves_by true is = look_by is (next_packet side)
    leaves_by false is = same_failed

    pub receives : IfOk (receive_answer side c.serial) IsCame
        → Receives c (shown s) (shown (after_receive s c)) (receive_buffer side c.serial buffer)
        (receive_answer side c.serial)
    receives short =
        let left = leaves_by (is_bound_as side.sockets.last c.serial) refl in
        let answer = receive_answer side c.serial in record {
          cause = cause_after answer s.faulted c;
          others = cause_else answer s.faulted c;
          came = short;
          traffic = left.traffic;
          traffic_else = left.traffic_else;
          ready = early_here answer s.findings c.number;
          ready_else = early_else (is_early answer) s.findings c.number;
          places = left.places;
          polls = refl;
          shown = ap (λ polls. Some polls) (early_polls (is_early answer) s.findings c.number);
        }

  -- ---- sending

  pub sends : (to : Addr) (bytes : List ℕ) → is_bound_at s.sides c ≡ true
      → Sends c to (shown s) (shown (after_sent s c (record { addr = to; bytes = bytes }))) bytes (Ok true)
  sends to bytes bound =
      let p : Packet = record { addr = to; bytes = bytes } in
      let side = side_after_send (side_at s.sides c.number) p in
      let sides = sides_after_send s.sides c p in
      let is : sockets_in sides c.number ≡ side.sockets =
      ap (λ (x : SideState). x.sockets) (side_here s.sides c.number side (bound_inside s.sides c bound)) in
      let others = others_of s.sides c.number side in record {
        cause = cause_after {T = Bool} (Ok true) s.faulted c;
        others = λ k differ. refl;
        traffic = went_traffic (sockets_in s.sides) (sockets_in sides) c others p bound is;
        traffic_else = went_traffic_else (sockets_in s.sides) (sockets_in sides) c others p bound is;
        ready = refl;
        ready_else = λ n differ. refl;
        places = went_places (sockets_in s.sides) (sockets_in sides) c others p bound is;
        polls = refl;
        shown = refl;
      }

  -- a send that failed changed no packet
  send_fails : (sends : Calls) (to : Addr) (bytes : List ℕ)
      → Sends c to (shown s) (shown (record s { sends = sends; faulted = s.faulted ++ c ∷ [] })) bytes (Err (record {}))
  send_fails sends to bytes = record {
    cause = cause_after {T = Bool} (Err (record {})) s.faulted c;
    others = cause_else {T = Bool} (Err (record {})) s.faulted c;
    traffic = refl;
    traffic_else = λ k differ. refl;
    ready = refl;
    ready_else = λ n differ. refl;
    places = λ k. refl;
    polls = refl;
    shown = refl;
  }

  pub send_fails_by : (now : PacketsState) (to : Addr) (bytes : List ℕ) (f : SendFailure)
      → (f ≡ failure.Planned → now ≡ after_planned_send s c) → (f ≡ failure.Memory → now ≡ after_lost_send s c)
      → Sends c to (shown s) (shown now) bytes (Err (record {}))
  send_fails_by now to bytes failure.Planned planned lost =
      subst (λ (t : PacketsState). Sends c to (shown s) (shown t) bytes (Err (record {}))) (sym (planned refl))
      (send_fails (after_failure s.sends) to bytes)
  send_fails_by now to bytes failure.Memory planned lost =
      subst (λ (t : PacketsState). Sends c to (shown s) (shown t) bytes (Err (record {}))) (sym (lost refl))
      (send_fails (after_success s.sends) to bytes)

  -- ---- closing

  closes_by : (side : SideState) → side ≡ side_after_close (side_at s.sides c.number) c.serial
      → (c.number.0 < length s.sides) ⊎ (length s.sides ≤ c.number.0)
      → sockets_in (slice_set s.sides c.number.0 side) c.number ≡ side.sockets
  closes_by side is (inl within) = ap (λ (x : SideState). x.sockets) (side_here s.sides c.number side within)
  closes_by side is (inr past) =
      let none : side_at s.sides c.number ≡ no_side = side_past s.sides c.number past in
      ap (λ (xs : List SideState). sockets_in xs c.number) (set_past s.sides c.number.0 side past)
      ∙ ap (λ (x : SideState). x.sockets) none
      ∙ sym (ap (λ (x : SideState). x.sockets) (is ∙ ap (λ (x : SideState). side_after_close x c.serial) none))

  pub closes : Closes c (shown s) (shown (after_close s c))
  closes =
      let side = side_after_close (side_at s.sides c.number) c.serial in
      let sides = sides_after_close s.sides c in
      let is : sockets_in sides c.number ≡ side.sockets = closes_by side refl (cases_lt c.number.0 (length s.sides)) in
      let others = others_of s.sides c.number side in
      let bound = is_bound_at s.sides c in record {
        faults = λ k. refl;
        traffic = close_traffic (sockets_in s.sides) (sockets_in sides) c others is;
        ready = closed_here bound s.findings c.number
            ∙ ready_closed (sockets_in s.sides c.number).last (sockets_in s.sides c.number).past c.serial
            (ready_told s.findings c.number);
        ready_else = closed_else bound s.findings c.number;
        place = close_place (sockets_in s.sides) (sockets_in sides) c others is;
        places = close_places (sockets_in s.sides) (sockets_in sides) c others is;
        polls = refl;
        shown = ap (λ polls. Some polls) (closed_polls bound s.findings c.number);
      }
