-- What the calls of a net of packets leave of the sockets of a number.
use Rattle.std.proofs.Common.{◌≡◌, ◌≢◌, ℕ, ◌<◌, ◌≤◌, ◌⊎◌, inl, inr, ◌==◌, nat_lt, Bool, true, false, not, ◌&&◌, if◌then◌else◌, Option}
use Rattle.std.proofs.Common.{Some, None, List, [], ◌∷◌, ◌++◌, refl, ap, sym, ◌∙◌, subst, eqb-true, eq-eqb}
use Rattle.std.proofs.lemmas.Bool.{and_from, and_parts, cases_lt, lt-ltb, ne_eqb}
use Rattle.nio_base.specs.declared.numbers.Addr.{Addr}
use Rattle.nio_base.specs.declared.numbers.ChanId.{ChanId}
use Rattle.nio_base.specs.declared.numbers.ChanNo.{ChanNo}
use Rattle.nio_link.proofs.Channels.{all_same, channel_as, channel_is_or_not, is_or_not}
use Rattle.nio_link.specs.Links.{IsSameBut}
use Rattle.nio_link.specs.Places.{channel}
use Rattle.nio_datagram.specs.Packets.{Packet, Traffic, no_traffic}
use Rattle.nio_datagram.specs.Places.{IsBound, IsFree, IsVacant, place_after_close}
use Rattle.nio_datagram.specs.Readiness.{ready_after_close}
use Rattle.nio_datagram.specs.Sockets.{SocketState, Sockets, after_came, after_close, after_went, carried, carried_before}
use Rattle.nio_datagram.specs.Sockets.{carried_by, closed, comes_after, is_bound_as, moved, new_socket, place_of}
use Rattle.nio_datagram.specs.Sockets.{standing, stands_by, stood_before, traffic_of, with_came, with_socket, with_went}
use Rattle.nio_datagram.specs.declared.net.Place.TheVariants.{Unbound, Bound, Closed}

-- ---- over all channels

-- what a net shows of each channel, by the sockets of its number
abbrev pub shown_by : {A : Type 0} → (Sockets → ℕ → A) → (ChanNo → Sockets) → ChanId → A
shown_by view of k = view (of k.number) k.serial

-- where the other numbers have the same sockets, and the other channels of this one show the same
pub else_by : {A : Type 0} (view : Sockets → ℕ → A) (of of' : ChanNo → Sockets) (c : ChanId)
    → IsSameBut c.number of of' → ((s : ℕ) → s ≢ c.serial → view (of' c.number) s ≡ view (of c.number) s)
    → IsSameBut c (shown_by view of) (shown_by view of')
else_by view of of' c others alone k differ = elim (is_or_not k.number c.number) [
  | inl same ↦ subst (λ (n : ChanNo). view (of' n) k.serial ≡ view (of n) k.serial) (sym same)
      (alone k.serial (λ serial. differ (channel_as k c same serial)))
  | inr number ↦ ap (λ (x : Sockets). view x k.serial) (others k.number number)
]

-- where this channel shows the same too
pub all_by : {A : Type 0} (view : Sockets → ℕ → A) (of of' : ChanNo → Sockets) (c : ChanId)
    → IsSameBut c.number of of' → ((s : ℕ) → view (of' c.number) s ≡ view (of c.number) s) → (k : ChanId)
    → shown_by view of' k ≡ shown_by view of k
all_by view of of' c others alone =
    all_same channel_is_or_not c (shown_by view of) (shown_by view of') (alone c.serial)
    (else_by view of of' c others (λ s differ. alone s))

-- ---- the last socket

other_serial : (m s k : ℕ) → (m == s) ≡ true → k ≢ s → (m == k) ≡ false
other_serial m s k is differ = ne_eqb m k (λ same. differ (sym same ∙ eqb-true m s is))

-- a packet came to the socket of this serial
came_here : (last : Option SocketState) (past : List SocketState) (s : ℕ) (p : Packet) → is_bound_as last s ≡ true
    → traffic_of (after_came (record { last = last; past = past }) p) s
    ≡ record (traffic_of (record { last = last; past = past }) s) {
      came = (traffic_of (record { last = last; past = past }) s).came ++ p ∷ [];
    }
came_here None past s p bound = absurd (cc bound)
came_here (Some x) past s p bound =
    let is : (x.serial == s) ≡ true = (and_parts x.bound (x.serial == s) bound).1 in
    ap (λ (b : Bool). if b then carried (with_came p x) else carried_before past s) is
    ∙ sym (ap (λ (b : Bool). let t : Traffic = if b then carried x else carried_before past s in
    let more : Traffic = record t { came = t.came ++ p ∷ [] } in more) is)

came_else : (last : Option SocketState) (past : List SocketState) (s : ℕ) (p : Packet) → is_bound_as last s ≡ true
    → (k : ℕ) → k ≢ s
    → traffic_of (after_came (record { last = last; past = past }) p) k
    ≡ traffic_of (record { last = last; past = past }) k
came_else None past s p bound k differ = absurd (cc bound)
came_else (Some x) past s p bound k differ =
    let other : (x.serial == k) ≡ false =
    other_serial x.serial s k (and_parts x.bound (x.serial == s) bound).1 differ in
    ap (λ (b : Bool). if b then carried (with_came p x) else carried_before past k) other
    ∙ sym (ap (λ (b : Bool). if b then carried x else carried_before past k) other)

came_place : (last : Option SocketState) (past : List SocketState) (p : Packet) (k : ℕ)
    → place_of (after_came (record { last = last; past = past }) p) k
    ≡ place_of (record { last = last; past = past }) k
came_place None past p k = refl
came_place (Some x) past p k = refl

went_here : (last : Option SocketState) (past : List SocketState) (s : ℕ) (p : Packet) → is_bound_as last s ≡ true
    → traffic_of (after_went (record { last = last; past = past }) p) s
    ≡ record (traffic_of (record { last = last; past = past }) s) {
      went = (traffic_of (record { last = last; past = past }) s).went ++ p ∷ [];
    }
went_here None past s p bound = absurd (cc bound)
went_here (Some x) past s p bound =
    let is : (x.serial == s) ≡ true = (and_parts x.bound (x.serial == s) bound).1 in
    ap (λ (b : Bool). if b then carried (with_went p x) else carried_before past s) is
    ∙ sym (ap (λ (b : Bool). let t : Traffic = if b then carried x else carried_before past s in
    let more : Traffic = record t { went = t.went ++ p ∷ [] } in more) is)

went_else : (last : Option SocketState) (past : List SocketState) (s : ℕ) (p : Packet) → is_bound_as last s ≡ true
    → (k : ℕ) → k ≢ s
    → traffic_of (after_went (record { last = last; past = past }) p) k
    ≡ traffic_of (record { last = last; past = past }) k
went_else None past s p bound k differ = absurd (cc bound)
went_else (Some x) past s p bound k differ =
    let other : (x.serial == k) ≡ false =
    other_serial x.serial s k (and_parts x.bound (x.serial == s) bound).1 differ in
    ap (λ (b : Bool). if b then carried (with_went p x) else carried_before past k) other
    ∙ sym (ap (λ (b : Bool). if b then carried x else carried_before past k) other)

went_place : (last : Option SocketState) (past : List SocketState) (p : Packet) (k : ℕ)
    → place_of (after_went (record { last = last; past = past }) p) k
    ≡ place_of (record { last = last; past = past }) k
went_place None past p k = refl
went_place (Some x) past p k = refl

-- ---- closing

-- a socket before the last is bound no more
past_closed : (past : List SocketState) (s : ℕ) → place_after_close (stood_before past s) ≡ stood_before past s
past_closed [] s = refl
past_closed (x ∷ before) s = by_test (x.serial == s) (past_closed before s)
  where
    by_test : (b : Bool) → place_after_close (stood_before before s) ≡ stood_before before s
        → place_after_close (if b then Closed x.at else stood_before before s)
        ≡ (if b then Closed x.at else stood_before before s)
    by_test true earlier = refl
    by_test false earlier = earlier

close_carried : (last : Option SocketState) (past : List SocketState) (s k : ℕ)
    → traffic_of (after_close (record { last = last; past = past }) s) k
    ≡ traffic_of (record { last = last; past = past }) k
close_carried None past s k = refl
close_carried (Some x) past s k = by_test (x.bound && (x.serial == s))
  where
    by_test : (b : Bool)
        → traffic_of (if b then record { last = Some (closed x); past = past } else record { last = Some x; past = past }) k
        ≡ traffic_of (record { last = Some x; past = past }) k
    by_test true = refl
    by_test false = refl

close_here : (last : Option SocketState) (past : List SocketState) (s : ℕ)
    → place_of (after_close (record { last = last; past = past }) s) s
    ≡ place_after_close (place_of (record { last = last; past = past }) s)
close_here None past s = sym (past_closed past s)
close_here (Some x) past s = by_test (x.bound && (x.serial == s)) refl
  where
    unbound : (b t : Bool) → (b && t) ≡ false
        → (if t then standing b x.at else stood_before past s)
        ≡ place_after_close (if t then standing b x.at else stood_before past s)
    unbound true true is = absurd (cc is)
    unbound false true is = refl
    unbound true false is = sym (past_closed past s)
    unbound false false is = sym (past_closed past s)

    by_test : (b : Bool) → (x.bound && (x.serial == s)) ≡ b
        → place_of (if b then record { last = Some (closed x); past = past } else record { last = Some x; past = past }) s
        ≡ place_after_close (place_of (record { last = Some x; past = past }) s)
    by_test true is =
        let both = and_parts x.bound (x.serial == s) is in
        ap (λ (t : Bool). if t then standing false x.at else stood_before past s) both.1
        ∙ sym (ap (λ (t : Bool). place_after_close (if t then standing x.bound x.at else stood_before past s)) both.1
        ∙ ap (λ (b : Bool). place_after_close (standing b x.at)) both.0)
    by_test false is = unbound x.bound (x.serial == s) is

close_else : (last : Option SocketState) (past : List SocketState) (s k : ℕ) → k ≢ s
    → place_of (after_close (record { last = last; past = past }) s) k
    ≡ place_of (record { last = last; past = past }) k
close_else None past s k differ = refl
close_else (Some x) past s k differ = by_test (x.bound && (x.serial == s)) refl
  where
    by_test : (b : Bool) → (x.bound && (x.serial == s)) ≡ b
        → place_of (if b then record { last = Some (closed x); past = past } else record { last = Some x; past = past }) k
        ≡ place_of (record { last = Some x; past = past }) k
    by_test true is =
        let other : (x.serial == k) ≡ false =
        other_serial x.serial s k (and_parts x.bound (x.serial == s) is).1 differ in
        ap (λ (b : Bool). if b then standing false x.at else stood_before past k) other
        ∙ sym (ap (λ (b : Bool). if b then standing x.bound x.at else stood_before past k) other)
    by_test false is = refl

-- ---- binding

-- a socket that comes after the last one has another serial
not_last : (x : SocketState) (s : ℕ) → comes_after (Some x) s ≡ true → (x.bound ≡ false) × (nat_lt x.serial s ≡ true)
not_last x s after =
    let both = and_parts (not x.bound) (nat_lt x.serial s) after in (closed_if x.bound both.0, both.1)
  where
    closed_if : (b : Bool) → not b ≡ true → b ≡ false
    closed_if true is = absurd (cc is)
    closed_if false is = refl

new_here : (s : ℕ) (at : Addr) (past : List SocketState)
    → place_of (record { last = Some (new_socket s at); past = past }) s ≡ Bound at
new_here s at past = ap (λ (b : Bool). if b then Bound at else stood_before past s) (eq-eqb s s refl)

new_carried : (s : ℕ) (at : Addr) (past : List SocketState)
    → traffic_of (record { last = Some (new_socket s at); past = past }) s ≡ no_traffic
new_carried s at past = ap (λ (b : Bool). if b then no_traffic else carried_before past s) (eq-eqb s s refl)

-- what was carried under the other serials
bind_carried : (last : Option SocketState) (past : List SocketState) (s : ℕ) (at : Addr) (k : ℕ) → k ≢ s
    → traffic_of (with_socket (record { last = last; past = past }) s at) k
    ≡ traffic_of (record { last = last; past = past }) k
bind_carried None past s at k differ =
    ap (λ (b : Bool). if b then no_traffic else carried_before past k) (ne_eqb s k (λ same. differ (sym same)))
bind_carried (Some x) past s at k differ =
    ap (λ (b : Bool). if b then no_traffic else carried_before (x ∷ past) k) (ne_eqb s k (λ same. differ (sym same)))

bind_else : (last : Option SocketState) (past : List SocketState) (s : ℕ) (at : Addr) → comes_after last s ≡ true
    → (k : ℕ) → k ≢ s
    → place_of (with_socket (record { last = last; past = past }) s at) k
    ≡ place_of (record { last = last; past = past }) k
bind_else None past s at after k differ =
    ap (λ (b : Bool). if b then Bound at else stood_before past k) (ne_eqb s k (λ same. differ (sym same)))
bind_else (Some x) past s at after k differ =
    ap (λ (b : Bool). if b then Bound at else stood_before (x ∷ past) k) (ne_eqb s k (λ same. differ (sym same)))
    ∙ ap (λ (b : Bool). if x.serial == k then standing b x.at else stood_before past k) (sym (not_last x s after).0)

-- where nothing was bound under a serial, nothing was carried
unbound_before : (past : List SocketState) (s : ℕ) → stood_before past s ≡ Unbound → carried_before past s ≡ no_traffic
unbound_before [] s is = refl
unbound_before (x ∷ before) s is = by_test (x.serial == s) (unbound_before before s) is
  where
    by_test : (b : Bool) → (stood_before before s ≡ Unbound → carried_before before s ≡ no_traffic)
        → (if b then Closed x.at else stood_before before s) ≡ Unbound
        → (if b then carried x else carried_before before s) ≡ no_traffic
    by_test true earlier is = absurd (cc is)
    by_test false earlier is = earlier is

standing_bound : (b : Bool) (at : Addr) → standing b at ≡ Unbound → ⊥
standing_bound true at is = cc is
standing_bound false at is = cc is

unbound_carried : (last : Option SocketState) (past : List SocketState) (s : ℕ)
    → place_of (record { last = last; past = past }) s ≡ Unbound
    → traffic_of (record { last = last; past = past }) s ≡ no_traffic
unbound_carried None past s is = unbound_before past s is
unbound_carried (Some x) past s is = by_test (x.serial == s) is
  where
    by_test : (b : Bool) → (if b then standing x.bound x.at else stood_before past s) ≡ Unbound
        → (if b then carried x else carried_before past s) ≡ no_traffic
    by_test true is = absurd (standing_bound x.bound x.at is)
    by_test false is = unbound_before past s is

-- ---- which channels can be bound, and which are

past_vacant : (past : List SocketState) (s : ℕ) → IsBound (stood_before past s) → ⊥
past_vacant [] s bound = bound
past_vacant (x ∷ before) s bound = by_test (x.serial == s) (past_vacant before s) bound
  where
    by_test : (b : Bool) → (IsBound (stood_before before s) → ⊥)
        → IsBound (if b then Closed x.at else stood_before before s) → ⊥
    by_test true earlier bound = bound
    by_test false earlier bound = earlier bound

-- the channel that is bound has the last socket
pub bound_last : (last : Option SocketState) (past : List SocketState) (s : ℕ)
    → IsBound (place_of (record { last = last; past = past }) s) → is_bound_as last s ≡ true
bound_last None past s bound = absurd (past_vacant past s bound)
bound_last (Some x) past s bound = by_tests x.bound (x.serial == s) bound
  where
    by_tests : (b t : Bool) → IsBound (if t then standing b x.at else stood_before past s) → (b && t) ≡ true
    by_tests true true bound = refl
    by_tests false true bound = absurd bound
    by_tests true false bound = absurd (past_vacant past s bound)
    by_tests false false bound = absurd (past_vacant past s bound)

-- a channel that can be bound comes after the last socket of its number
pub free_after : (of : ChanNo → Sockets) (c : ChanId) → IsFree (shown_by place_of of) c
    → comes_after (of c.number).last c.serial ≡ true
free_after of c free = by_last (of c.number).last refl
  where
    here : (x : SocketState) → (of c.number).last ≡ Some x
        → shown_by place_of of (channel c.number x.serial) ≡ standing x.bound x.at
    here x is =
        ap (λ (o : Option SocketState). stands_by o (of c.number).past x.serial) is
        ∙ ap (λ (b : Bool). if b then standing x.bound x.at else stood_before (of c.number).past x.serial)
        (eq-eqb x.serial x.serial refl)

    not_bound : (b : Bool) (at : Addr) → IsVacant (standing b at) → not b ≡ true
    not_bound true at vacant = absurd vacant
    not_bound false at vacant = refl

    by_last : (o : Option SocketState) → (of c.number).last ≡ o → comes_after o c.serial ≡ true
    by_last None is = refl
    by_last (Some x) is =
        and_from (not x.bound) (nat_lt x.serial c.serial)
        (not_bound x.bound x.at (subst IsVacant (here x is) (free.vacant x.serial)))
        (by_order (cases_lt x.serial c.serial))
      where
        by_order : (x.serial < c.serial) ⊎ (c.serial ≤ x.serial) → nat_lt x.serial c.serial ≡ true
        by_order (inl before) = lt-ltb x.serial c.serial before
        by_order (inr after) =
            absurd (standing_bound x.bound x.at (sym (here x is) ∙ free.later x.serial after))

-- ---- over all channels, after each call

module _ (of of' : ChanNo → Sockets) (c : ChanId) (others : IsSameBut c.number of of') where
  abbrev was : Sockets
  was = of c.number

  module _ (p : Packet) (bound : is_bound_as (of c.number).last c.serial ≡ true)
      (is : of' c.number ≡ after_came (of c.number) p) where
    pub came_traffic : shown_by traffic_of of' c
        ≡ record (shown_by traffic_of of c) { came = (shown_by traffic_of of c).came ++ p ∷ [] }
    came_traffic =
        ap (λ (x : Sockets). traffic_of x c.serial) is ∙ came_here was.last was.past c.serial p bound

    pub came_traffic_else : IsSameBut c (shown_by traffic_of of) (shown_by traffic_of of')
    came_traffic_else =
        else_by traffic_of of of' c others
        (λ s differ. ap (λ (x : Sockets). traffic_of x s) is ∙ came_else was.last was.past c.serial p bound s differ)

    pub came_places : (k : ChanId) → shown_by place_of of' k ≡ shown_by place_of of k
    came_places =
        all_by place_of of of' c others
        (λ s. ap (λ (x : Sockets). place_of x s) is ∙ came_place was.last was.past p s)

  module _ (p : Packet) (bound : is_bound_as (of c.number).last c.serial ≡ true)
      (is : of' c.number ≡ after_went (of c.number) p) where
    pub went_traffic : shown_by traffic_of of' c
        ≡ record (shown_by traffic_of of c) { went = (shown_by traffic_of of c).went ++ p ∷ [] }
    went_traffic =
        ap (λ (x : Sockets). traffic_of x c.serial) is ∙ went_here was.last was.past c.serial p bound

    pub went_traffic_else : IsSameBut c (shown_by traffic_of of) (shown_by traffic_of of')
    went_traffic_else =
        else_by traffic_of of of' c others
        (λ s differ. ap (λ (x : Sockets). traffic_of x s) is ∙ went_else was.last was.past c.serial p bound s differ)

    pub went_places : (k : ChanId) → shown_by place_of of' k ≡ shown_by place_of of k
    went_places =
        all_by place_of of of' c others
        (λ s. ap (λ (x : Sockets). place_of x s) is ∙ went_place was.last was.past p s)

  module _ (is : of' c.number ≡ after_close (of c.number) c.serial) where
    pub close_traffic : (k : ChanId) → shown_by traffic_of of' k ≡ shown_by traffic_of of k
    close_traffic =
        all_by traffic_of of of' c others
        (λ s. ap (λ (x : Sockets). traffic_of x s) is ∙ close_carried was.last was.past c.serial s)

    pub close_place : shown_by place_of of' c ≡ place_after_close (shown_by place_of of c)
    close_place = ap (λ (x : Sockets). place_of x c.serial) is ∙ close_here was.last was.past c.serial

    pub close_places : IsSameBut c (shown_by place_of of) (shown_by place_of of')
    close_places =
        else_by place_of of of' c others
        (λ s differ. ap (λ (x : Sockets). place_of x s) is ∙ close_else was.last was.past c.serial s differ)

  module _ (at : Addr) (after : comes_after (of c.number).last c.serial ≡ true)
      (is : of' c.number ≡ with_socket (of c.number) c.serial at) where
    pub bind_traffic : shown_by place_of of c ≡ Unbound → (k : ChanId)
        → shown_by traffic_of of' k ≡ shown_by traffic_of of k
    bind_traffic unbound =
        all_same channel_is_or_not c (shown_by traffic_of of) (shown_by traffic_of of')
        (ap (λ (x : Sockets). traffic_of x c.serial) is ∙ new_carried c.serial at (moved was.last was.past)
        ∙ sym (unbound_carried was.last was.past c.serial unbound))
        (else_by traffic_of of of' c others
        (λ s differ. ap (λ (x : Sockets). traffic_of x s) is ∙ bind_carried was.last was.past c.serial at s differ))

    pub bind_place : shown_by place_of of' c ≡ Bound at
    bind_place = ap (λ (x : Sockets). place_of x c.serial) is ∙ new_here c.serial at (moved was.last was.past)

    pub bind_places : IsSameBut c (shown_by place_of of) (shown_by place_of of')
    bind_places =
        else_by place_of of of' c others
        (λ s differ. ap (λ (x : Sockets). place_of x s) is ∙ bind_else was.last was.past c.serial at after s differ)

-- ---- readiness

ready_past : (past : List SocketState) (s ops : ℕ) → ops ≡ ready_after_close (stood_before past s) ops
ready_past [] s ops = refl
ready_past (x ∷ before) s ops = by_test (x.serial == s) (ready_past before s ops)
  where
    by_test : (b : Bool) → ops ≡ ready_after_close (stood_before before s) ops
        → ops ≡ ready_after_close (if b then Closed x.at else stood_before before s) ops
    by_test true earlier = refl
    by_test false earlier = earlier

-- a socket that was bound is closed, and then ready for nothing
pub ready_closed : (last : Option SocketState) (past : List SocketState) (s ops : ℕ)
    → (if is_bound_as last s then 0 else ops)
    ≡ ready_after_close (place_of (record { last = last; past = past }) s) ops
ready_closed None past s ops = ready_past past s ops
ready_closed (Some x) past s ops = by_tests x.bound (x.serial == s)
  where
    by_tests : (b t : Bool) → (if b && t then 0 else ops)
        ≡ ready_after_close (if t then standing b x.at else stood_before past s) ops
    by_tests true true = refl
    by_tests false true = refl
    by_tests true false = ready_past past s ops
    by_tests false false = ready_past past s ops
