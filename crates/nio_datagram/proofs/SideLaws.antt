-- What a channel of a net of packets in memory finds next.
use Rattle.std.proofs.Common.{◌≡◌, ℕ, suc, ◌+◌, ◌<◌, ◌≤◌, ◌⊎◌, inl, inr, ◌==◌, min, Bool, true, false, if◌then◌else◌, Option, Some, List}
use Rattle.std.proofs.Common.{[], ◌∷◌, length, map, take, drop, drop-cons, get_or, refl, ap, sym, ◌∙◌, arith}
use Rattle.std.proofs.lemmas.Grind.{common_steps}
use Rattle.std.proofs.lemmas.List.{take_all, length-take}
use Rattle.std.specs.Prelude.{Vec}
use Rattle.std.specs.List.{slice_get}
use Rattle.std.specs.declared.alloc.Global.{Global}
use Rattle.std.proofs.lemmas.Option.{slice_get-map, slice_get_read}
use Rattle.nio_base.specs.declared.numbers.Addr.{Addr}
use Rattle.nio_datagram.specs.Packets.{Packet, no_traffic}
use Rattle.nio_datagram.specs.Sides.{SideState, cut, next_packet, packet_of, side_after_look}
use Rattle.nio_datagram.specs.Sockets.{SocketState, after_came, carried, carried_before}

-- the packet that comes next, where one is left
pub planned_at : (plan : List (Addr × Vec ℕ Global)) (at : ℕ) (one : Addr × Vec ℕ Global) → at < length plan
    → one ≡ get_or plan at one → slice_get (map packet_of plan) at ≡ Some (packet_of one)
planned_at plan at one within is =
    rw (slice_get-map packet_of plan at, slice_get_read plan (length plan) at one refl within is)

pub next_is : (plan : List (Addr × Vec ℕ Global)) (s : SideState) (one : Addr × Vec ℕ Global)
    → map packet_of plan ≡ s.coming → s.at < length plan → one ≡ get_or plan s.at one
    → next_packet s ≡ Some (packet_of one)
next_is plan s one same within is = rw (← same) (planned_at plan s.at one within is)

cut_by : (m n : ℕ) (bytes : List ℕ) → n ≡ min (length bytes) m → (length bytes ≤ m) ⊎ (m < length bytes)
    → take n bytes ≡ take m bytes
cut_by m n bytes is (inl few) =
    let e : n ≡ length bytes = omega arith in rw (e, take_all (length bytes) bytes (omega arith), take_all m bytes few)
cut_by m n bytes is (inr many) = let e : n ≡ m = omega arith in rw e

-- so many bytes of a packet of a plan are all that it has
pub cut_as : (n : ℕ) (bytes : List ℕ) → n ≡ min (length bytes) 65507 → take n bytes ≡ cut bytes
cut_as n bytes is = cut_by 65507 n bytes is (grind arith)

pub cut_length : (n : ℕ) (bytes : List ℕ) → n ≡ min (length bytes) 65507 → n ≡ length (cut bytes)
cut_length n bytes is = rw (length-take 65507 bytes) (omega arith)

-- the packet that came is the one that was next
pub look_some : (side now : SideState) (p : Packet) (bytes : List ℕ) → next_packet side ≡ Some p
    → now ≡ record side {
      at = side.at + 1;
      sockets = after_came side.sockets (record { addr = p.addr; bytes = bytes });
    } → bytes ≡ p.bytes → now ≡ side_after_look (next_packet side) side
look_some side now p bytes next is same =
    is ∙ ap (λ (bs : List ℕ). let later : SideState = record side {
      at = side.at + 1;
      sockets = after_came side.sockets (record { addr = p.addr; bytes = bs });
    } in later) same
    ∙ sym (ap (λ (o : Option Packet). side_after_look o side) next)

-- ---- finding a closed socket

module _ (past : List SocketState) (s : ℕ) where
  pub past_found : (i : ℕ) (x : SocketState) → i < length past → x ≡ get_or past i x
      → carried_before (drop i past) s ≡ carried_before past s → (x.serial == s) ≡ true
      → carried_before past s ≡ carried x
  past_found i x within is so_far same =
      sym so_far ∙ ap (λ (xs : List SocketState). carried_before xs s) (drop-cons past i x within)
      ∙ ap (λ (y : SocketState). carried_before (y ∷ drop (suc i) past) s) (sym is)
      ∙ ap (λ (b : Bool). if b then carried x else carried_before (drop (suc i) past) s) same

  pub past_other : (i : ℕ) (x : SocketState) → i < length past → x ≡ get_or past i x
      → carried_before (drop i past) s ≡ carried_before past s → (x.serial == s) ≡ false
      → carried_before (drop (i + 1) past) s ≡ carried_before past s
  past_other i x within is so_far other =
      let next : i + 1 ≡ suc i = omega arith in
      ap (λ (n : ℕ). carried_before (drop n past) s) next
      ∙ sym (sym so_far ∙ ap (λ (xs : List SocketState). carried_before xs s) (drop-cons past i x within)
      ∙ ap (λ (y : SocketState). carried_before (y ∷ drop (suc i) past) s) (sym is)
      ∙ ap (λ (b : Bool). if b then carried x else carried_before (drop (suc i) past) s) other)

  pub past_none : (i : ℕ) → length past ≤ i → carried_before (drop i past) s ≡ carried_before past s
      → carried_before past s ≡ no_traffic
  past_none i all so_far =
      let none : drop i past ≡ [] = grind (arith, common_steps) in
      sym so_far ∙ ap (λ (xs : List SocketState). carried_before xs s) none
