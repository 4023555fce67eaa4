-- The laws that a net keeps, at a net in memory.
use Rattle.std.proofs.Common.{◌≡◌, ◌≢◌, ℕ, suc, ◌+◌, ◌-◌, ◌<◌, ◌≤◌, ◌⊎◌, inl, inr, ◌==◌, nat_lt, min, Bool, true, false}
use Rattle.std.proofs.Common.{◌&&◌, if◌then◌else◌, cond, is_none, Option, Some, None, option_map, Result, Ok, Err}
use Rattle.std.proofs.Common.{IfOk, OnErr, List, [], ◌∷◌, ◌++◌, length, replicate, ◌*◌, slice_set, refl, ap, sym, ◌∙◌}
use Rattle.std.proofs.Common.{subst, arith, ltb-true, get_or-set_other, get_or-set_same, eqb-true, eq-eqb, get_or, drop, drop-cons}
use Rattle.std.proofs.lemmas.Bool.{cases_lt, cases_eq, and_parts, ne_eqb}
use Rattle.std.proofs.lemmas.Grind.{common_steps}
use Rattle.std.proofs.lemmas.List.{set_past}
use Rattle.std.proofs.lemmas.List.Sums.{fold-append}
use Rattle.nio_base.specs.declared.numbers.Addr.{Addr}
use Rattle.nio_base.specs.declared.numbers.ChanId.{ChanId}
use Rattle.nio_base.specs.declared.numbers.ChanNo.{ChanNo}
use Rattle.nio_bytes.specs.Calls.{after_success}
use Rattle.nio_bytes.specs.Cause.{HasCause}
use Rattle.nio_link.proofs.Changes.{accepted_here, changed_here, changed_else}
use Rattle.nio_link.proofs.Channels.{all_same, channel_as, channel_is_or_not, is_another, is_itself, is_or_not}
use Rattle.nio_link.proofs.Channels.{number_differs, same_from}
use Rattle.nio_link.proofs.Growing.{goes_on}
use Rattle.nio_link.proofs.Making.{free_apart, free_ready, free_there, ready_changed}
use Rattle.nio_link.proofs.Pieces.{is_got}
use Rattle.nio_link.specs.Links.{Link, IsSameBut, IsUnused, IsGot, IsPut, after_read as carried_after_read}
use Rattle.nio_link.specs.Links.{after_write as carried_after_write, after_shut as carried_after_shut}
use Rattle.nio_link.specs.MemoryLinks.{LinkState, IsFresh, carried, link_after_read, link_after_write, got_after}
use Rattle.nio_link.specs.MemoryLinks.{ended_after, put_of, put_after, connect_answer as connect_link_answer}
use Rattle.nio_link.specs.MemoryNet.{NetState, polls_told, with_told, ready_told, heed, times, faulted_after, shown}
use Rattle.nio_link.specs.MemoryNet.{findings_after, findings_closed, is_early, AreFresh, is_free, is_waiting, connected}
use Rattle.nio_link.specs.MemoryNet.{after_listen, listen_answer, with_target, with_client, after_connect}
use Rattle.nio_link.specs.MemoryNet.{connect_answer, after_accept, after_failed_accept, can_accept, after_read}
use Rattle.nio_link.specs.MemoryNet.{made_under, refused}
use Rattle.nio_link.specs.MemoryNet.{after_write, after_shut, after_finish, after_close, shut_by, logged, faulted_on}
use Rattle.nio_link.specs.NetPlans.{client_end, target_end, ends_from, free_slots}
use Rattle.nio_link.specs.Nets.{Listens, Accepts, Connects, Finishes, Reads, Writes, Shuts, Closes}
use Rattle.nio_link.specs.Pieces.{got_of, pieces_after, buffer_after}
use Rattle.nio_link.specs.PlaceLogs.{occupant_at}
use Rattle.nio_link.specs.Places.{is_same_channel, is_there, is_listening, stands, closed, channel, place_after, places_after, IsFree}
use Rattle.nio_link.specs.Readiness.{without, ready_after_read, ready_after_write}
use Rattle.nio_link.specs.Readiness.{ready_after_close, ready_after_making}
use Rattle.nio_link.specs.Slots.{slot_at, link_of, link_at, carried_by, carried_at, carried_before, nothing_carried}
use Rattle.nio_link.specs.Slots.{comes_after, came_before, can_bear, ArePast, placed, past_after, read_answer}
use Rattle.nio_link.specs.Slots.{read_buffer, write_answer, shut_answer}
use Rattle.nio_link.specs.Slots.{finish_answer, slots_after_take, grown}
use Rattle.nio_link.specs.declared.memory.finding.Finding.{Finding}
use Rattle.nio_link.specs.declared.memory.finding.Finding.TheVariants.{NotReady, Forgotten}
use Rattle.nio_link.specs.declared.memory.plan.PeerPlan.{PeerPlan}
use Rattle.nio_link.specs.declared.memory.slot.PastLink.{PastLink}
use Rattle.nio_link.specs.declared.memory.slot.Slot.{Slot}
use Rattle.nio_link.specs.declared.memory.slot.Slot.TheVariants as slot
use Rattle.nio_link.specs.declared.net.Failed.{Failed}
use Rattle.nio_link.specs.declared.net.Got.{Got}
use Rattle.nio_link.specs.declared.net.Got.TheVariants as got
use Rattle.nio_link.specs.declared.net.Put.{Put}
use Rattle.nio_link.specs.declared.net.Put.TheVariants as put
use Rattle.nio_link.specs.declared.place.Change.{Change}
use Rattle.nio_link.specs.declared.place.Change.TheVariants as change
use Rattle.nio_link.specs.declared.place.Place.{Place}
use Rattle.nio_link.specs.declared.place.Standing.{Standing}
use Rattle.nio_link.specs.declared.place.Standing.TheVariants as standing

-- ---- the last link of a number

pub slot_else : (slots : List Slot) (c k : ChanNo) (x : Slot) → k ≢ c → slot_at (slice_set slots c.0 x) k ≡ slot_at slots k
slot_else slots c k x differ = get_or-set_other slots c.0 k.0 x slot.Free (number_differs k c differ)

slot_past : (slots : List Slot) (c : ChanNo) → length slots ≤ c.0 → slot_at slots c ≡ slot.Free
slot_past slots c past = grind (arith, common_steps)

-- a number that had a link is one of the net's
in_net : (slots : List Slot) (c : ChanNo) → slot_at slots c ≢ slot.Free → c.0 < length slots
in_net slots c some =
    elim (cases_lt c.0 (length slots)) [ inl within ↦ within | inr past ↦ absurd (some (slot_past slots c past)) ]

pub slot_here : (slots : List Slot) (c : ChanNo) (x : Slot) → c.0 < length slots → slot_at (slice_set slots c.0 x) c ≡ x
slot_here slots c x within = get_or-set_same slots c.0 x slot.Free within

-- where the number has the channel's link, that is its last one
pub link_slot : (s : Slot) (n : ℕ) (l : LinkState) → link_of s n ≡ Some l → s ≡ slot.Link n l
link_slot slot.Free n l is = absurd (cc is)
link_slot (slot.TakenOut m) n l is = absurd (cc is)
link_slot (slot.Link m x) n l is = by_test (m == n) refl is
  where
    by_test : (b : Bool) → (m == n) ≡ b → (if b then Some x else None) ≡ Some l → slot.Link m x ≡ slot.Link n l
    by_test true same at =
        let number : m ≡ n = eqb-true m n same in
        let link : x ≡ l = cc at in
        ap (λ k. slot.Link k x) number ∙ ap (λ y. slot.Link n y) link
    by_test false differs at = absurd (cc at)

pub own_link : (n : ℕ) (l : LinkState) → link_of (slot.Link n l) n ≡ Some l
own_link n l = ap (λ (b : Bool). if b then Some l else None) (eq-eqb n n refl)

pub other_link : (m n : ℕ) (l : LinkState) → n ≢ m → link_of (slot.Link m l) n ≡ None
other_link m n l differ = ap (λ (b : Bool). if b then Some l else None) (ne_eqb m n (λ same. differ (sym same)))

pub link_some : (slots : List Slot) (c : ChanId) (l : LinkState) → link_at slots c ≡ Some l → c.number.0 < length slots
link_some slots c l is =
    let at : slot_at slots c.number ≡ slot.Link c.serial l = link_slot (slot_at slots c.number) c.serial l is in
    in_net slots c.number (λ free. cc (sym at ∙ free))

-- ---- the links before

-- a channel that didn't come before the last link of its number is none of theirs
pub none_before : (slots : List Slot) (past : List PastLink) (c : ChanId) → ArePast slots past
    → came_before (slot_at slots c.number) c.serial ≡ false → carried_before past c ≡ nothing_carried
none_before slots [] c spent first = refl
none_before slots (p ∷ later) c spent first =
    by_test (is_same_channel p.channel c) refl (none_before slots later c spent.1 first)
  where
    by_test : (b : Bool) → is_same_channel p.channel c ≡ b → carried_before later c ≡ nothing_carried
        → (if b then carried p.link else carried_before later c) ≡ nothing_carried
    by_test true is rest =
        let same : p.channel ≡ c = same_from p.channel c is in
        let before : came_before (slot_at slots c.number) c.serial ≡ true = subst
        (λ (x : ChanId). came_before (slot_at slots x.number) x.serial ≡ true) same spent.0 in
        absurd (cc (sym before ∙ first))
    by_test false is rest = rest

not_before : (m s : ℕ) → nat_lt m s ≡ true → nat_lt s m ≡ false
not_before m s after = grind (arith, common_steps)

pub not_both : (x : Slot) (s : ℕ) → comes_after x s ≡ true → came_before x s ≡ false
not_both slot.Free s after = refl
not_both (slot.TakenOut m) s after = not_before m s after
not_both (slot.Link m l) s after = not_before m s after

-- where no number has fewer links, those that were spent still are
pub still_spent : (slots slots' : List Slot) (past : List PastLink)
    → ((n : ChanNo) (s : ℕ) → came_before (slot_at slots n) s ≡ true → came_before (slot_at slots' n) s ≡ true)
    → ArePast slots past → ArePast slots' past
still_spent slots slots' [] more spent = tt
still_spent slots slots' (p ∷ later) more spent =
    (more p.channel.number p.channel.serial spent.0, still_spent slots slots' later more spent.1)

-- a slot whose last link has the same serial, or a later one, takes the place of one
pub more_there : (slots : List Slot) (c : ChanNo) (x : Slot)
    → ((s : ℕ) → came_before (slot_at slots c) s ≡ true → came_before x s ≡ true) → (n : ChanNo) (s : ℕ)
    → came_before (slot_at slots n) s ≡ true → came_before (slot_at (slice_set slots c.0 x) n) s ≡ true
more_there slots c x more n s before = elim (is_or_not n c) [
  | inl same ↦ by_place (cases_lt c.0 (length slots)) same
  | inr differ ↦ ap (λ y. came_before y s) (slot_else slots c n x differ) ∙ before
]
  where
    by_place : (c.0 < length slots) ⊎ (length slots ≤ c.0) → n ≡ c
        → came_before (slot_at (slice_set slots c.0 x) n) s ≡ true
    by_place (inl within) same =
        ap (λ k. came_before (slot_at (slice_set slots c.0 x) k) s) same
        ∙ ap (λ y. came_before y s) (slot_here slots c x within)
        ∙ more s (ap (λ k. came_before (slot_at slots k) s) (sym same) ∙ before)
    by_place (inr past) same = ap (λ (xs : List Slot). came_before (slot_at xs n) s) (set_past slots c.0 x past) ∙ before

pub spent_placed : (slots : List Slot) (past : List PastLink) (c : ChanId) (link : Option LinkState)
    (change : LinkState → LinkState) → ((l : LinkState) → link ≡ Some l → link_at slots c ≡ Some l)
    → ArePast slots past → ArePast (placed c slots (option_map change link)) past
spent_placed slots past c None change there spent = spent
spent_placed slots past c (Some l) change there spent =
    let at : slot_at slots c.number ≡ slot.Link c.serial l =
    link_slot (slot_at slots c.number) c.serial l (there l refl) in
    still_spent slots (slice_set slots c.number.0 (slot.Link c.serial (change l))) past
    (more_there slots c.number (slot.Link c.serial (change l))
    (λ s before. ap (λ x. came_before x s) (sym at) ∙ before)) spent

lt_trans : (s m n : ℕ) → nat_lt s m ≡ true → nat_lt m n ≡ true → nat_lt s n ≡ true
lt_trans s m n first second = grind (arith, common_steps)

later_more : (x : Slot) (n : ℕ) (l : LinkState) → comes_after x n ≡ true → (s : ℕ) → came_before x s ≡ true
    → came_before (slot.Link n l) s ≡ true
later_more slot.Free n l after s before = absurd (cc before)
later_more (slot.TakenOut m) n l after s before = lt_trans s m n before after
later_more (slot.Link m x) n l after s before = lt_trans s m n before after

-- a link was put after the last one of its number
pub spent_put : (slots : List Slot) (past : List PastLink) (c : ChanId) (l : LinkState) → c.number.0 < length slots
    → comes_after (slot_at slots c.number) c.serial ≡ true → ArePast slots past
    → ArePast (slice_set slots c.number.0 (slot.Link c.serial l)) (past_after c.number (slot_at slots c.number) past)
spent_put slots past c l within after spent = by_slot (slot_at slots c.number) refl
  where
    kept : ArePast (slice_set slots c.number.0 (slot.Link c.serial l)) past
    kept = still_spent slots (slice_set slots c.number.0 (slot.Link c.serial l)) past
        (more_there slots c.number (slot.Link c.serial l) (later_more (slot_at slots c.number) c.serial l after)) spent

    by_slot : (x : Slot) → slot_at slots c.number ≡ x
        → ArePast (slice_set slots c.number.0 (slot.Link c.serial l)) (past_after c.number x past)
    by_slot slot.Free is = kept
    by_slot (slot.TakenOut m) is = kept
    by_slot (slot.Link m x) is = (
      ap (λ y. came_before y m) (slot_here slots c.number (slot.Link c.serial l) within)
          ∙ (ap (λ y. comes_after y c.serial) (sym is) ∙ after),
      kept,
    )

pub spent_taken : (slots : List Slot) (past : List PastLink) (c : ChanId) (link : Option LinkState)
    → link_at slots c ≡ link → ArePast slots past → ArePast (slots_after_take slots c link) past
spent_taken slots past c None is spent = spent
spent_taken slots past c (Some l) is spent =
    let at : slot_at slots c.number ≡ slot.Link c.serial l = link_slot (slot_at slots c.number) c.serial l is in
    still_spent slots (slice_set slots c.number.0 (slot.TakenOut c.serial)) past
    (more_there slots c.number (slot.TakenOut c.serial) (λ s before. ap (λ x. came_before x s) (sym at) ∙ before)) spent

pub spent_grown : (slots : List Slot) (past : List PastLink) (n : ℕ) → ArePast slots past
    → ArePast (grown slots n) past
spent_grown slots past n spent =
    still_spent slots (grown slots n) past
    (λ k s before. ap (λ x. came_before x s) (goes_on slot.Free slots (n - length slots) k.0) ∙ before) spent

-- ---- what links have carried

placed_else : (slots : List Slot) (past : List PastLink) (c : ChanId) (o : Option LinkState)
    → ((l : LinkState) → o ≡ Some l → (k : ChanId) → k.number ≡ c.number → k ≢ c → link_at slots k ≡ None)
    → IsSameBut c (carried_at slots past) (carried_at (placed c slots o) past)
placed_else slots past c None alone k differ = refl
placed_else slots past c (Some l) alone k differ = elim (is_or_not k.number c.number) [
  | inl same ↦ by_place (cases_lt c.number.0 (length slots)) same
  | inr number ↦ ap (λ x. carried_by (link_of x k.serial) (carried_before past k))
      (slot_else slots c.number k.number (slot.Link c.serial l) number)
]
  where
    by_place : (c.number.0 < length slots) ⊎ (length slots ≤ c.number.0) → k.number ≡ c.number
        → carried_at (slice_set slots c.number.0 (slot.Link c.serial l)) past k ≡ carried_at slots past k
    by_place (inl within) same =
        let serial : k.serial ≢ c.serial = λ s. differ (channel_as k c same s) in
        ap (λ n. carried_by (link_of (slot_at (slice_set slots c.number.0 (slot.Link c.serial l)) n) k.serial)
        (carried_before past k)) same
        ∙ ap (λ x. carried_by (link_of x k.serial) (carried_before past k))
        (slot_here slots c.number (slot.Link c.serial l) within)
        ∙ ap (λ o. carried_by o (carried_before past k)) (other_link c.serial k.serial l serial)
        ∙ sym (ap (λ o. carried_by o (carried_before past k)) (alone l refl k same differ))
    by_place (inr beyond) same =
        ap (λ (xs : List Slot). carried_at xs past k) (set_past slots c.number.0 (slot.Link c.serial l) beyond)

-- where the number's last link is this channel's, it is no other's
link_alone : (slots : List Slot) (c : ChanId) (l : LinkState) → link_at slots c ≡ Some l → (k : ChanId)
    → k.number ≡ c.number → k ≢ c → link_at slots k ≡ None
link_alone slots c l is k same differ =
    let at : slot_at slots c.number ≡ slot.Link c.serial l = link_slot (slot_at slots c.number) c.serial l is in
    ap (λ n. link_of (slot_at slots n) k.serial) same ∙ ap (λ x. link_of x k.serial) at
    ∙ other_link c.serial k.serial l (λ s. differ (channel_as k c same s))

-- the link of a channel is changed, if there is one
module _ (slots : List Slot) (past : List PastLink) (c : ChanId) (change : LinkState → LinkState)
    (o : Option LinkState) (there : (l : LinkState) → o ≡ Some l → link_at slots c ≡ Some l) where
  changed_link : (after : Option LinkState → Link → Link) → ((l : Link) → l ≡ after None l)
      → ((l : LinkState) → carried (change l) ≡ after (Some l) (carried l)) → (p : Option LinkState) → o ≡ p
      → carried_at (placed c slots (option_map change p)) past c ≡ after p (carried_at slots past c)
  changed_link after none some None is = none (carried_at slots past c)
  changed_link after none some (Some l) is =
      let link : link_at slots c ≡ Some l = there l is in
      ap (λ x. carried_by (link_of x c.serial) (carried_before past c))
      (slot_here slots c.number (slot.Link c.serial (change l)) (link_some slots c l link))
      ∙ ap (λ p. carried_by p (carried_before past c)) (own_link c.serial (change l)) ∙ some l
      ∙ sym (ap (λ p. after (Some l) (carried_by p (carried_before past c))) link)

  changed_alone : (p : Option LinkState) → o ≡ p
      → IsSameBut c (carried_at slots past) (carried_at (placed c slots (option_map change p)) past)
  changed_alone None is = λ k differ. refl
  changed_alone (Some l) is =
      placed_else slots past c (Some (change l)) (λ x _. link_alone slots c l (there l is))

-- a link that is connected is the last one of its number
pub there_if : (b : Bool) (o : Option LinkState) (l : LinkState) → (if b then o else None) ≡ Some l → o ≡ Some l
there_if true o l is = is
there_if false o l is = absurd (cc is)

pub connected_there : (s : NetState) (c : ChanId) (l : LinkState) → connected s c ≡ Some l → link_at s.slots c ≡ Some l
connected_there s c l = there_if (stands (places_after s.changes c)) (link_at s.slots c) l

abbrev with_standing : Place → Standing → Place
with_standing p st = record p { standing = st }

-- ---- failures

times_more : (xs : List ChanId) (k c : ChanId)
    → times (xs ++ k ∷ []) c ≡ times xs c + cond (is_same_channel k c) 1 0
times_more xs k c = fold-append (λ n (chan : ChanId). n + cond (is_same_channel chan c) 1 0) 0 xs (k ∷ [])

times_here : (xs : List ChanId) (c : ChanId) → times (xs ++ c ∷ []) c ≡ times xs c + 1
times_here xs c = times_more xs c c ∙ ap (λ (b : Bool). times xs c + cond b 1 0) (is_itself c)

times_else : (xs : List ChanId) (c k : ChanId) → k ≢ c → times (xs ++ c ∷ []) k ≡ times xs k
times_else xs c k differ =
    times_more xs c k
    ∙ ap (λ (b : Bool). times xs k + cond b 1 0) (is_another c k (λ same. differ (sym same))) ∙ omega arith

pub cause_after : {T : Type 0} (result : Result T Failed) (xs : List ChanId) (c : ChanId)
    → HasCause (times xs c) (times (faulted_after result c xs) c) result
cause_after (Ok value) xs c = record { later = omega arith; still = refl; failed = tt }
cause_after (Err failed) xs c =
    let more = times_here xs c in record { later = omega arith; still = tt; failed = inl (omega arith) }

pub cause_else : {T : Type 0} (result : Result T Failed) (xs : List ChanId) (c : ChanId)
    → IsSameBut c (times xs) (times (faulted_after result c xs))
cause_else (Ok value) xs c k differ = refl
cause_else (Err failed) xs c k differ = times_else xs c k differ

-- ---- readiness

ready_more : (findings : List Finding) (x : Finding) (n : ChanNo)
    → ready_told (findings ++ x ∷ []) n ≡ heed (ready_told findings) x n
ready_more findings x n = ap (λ (f : ChanNo → ℕ). f n) (fold-append heed (λ _. 0) findings (x ∷ []))

same_number : (n : ChanNo) → (n.0 == n.0) ≡ true
same_number n = eq-eqb n.0 n.0 refl

other_number : (k n : ChanNo) → k ≢ n → (n.0 == k.0) ≡ false
other_number k n differ = ne_eqb n.0 k.0 (λ same. number_differs k n differ (sym same))

pub ready_here : (findings : List Finding) (n : ChanNo) (op : ℕ)
    → ready_told (findings ++ NotReady n op ∷ []) n ≡ without op (ready_told findings n)
ready_here findings n op =
    ready_more findings (NotReady n op) n
    ∙ ap (λ (b : Bool). if b then without op (ready_told findings n) else ready_told findings n) (same_number n)

pub ready_else : (findings : List Finding) (n : ChanNo) (op : ℕ)
    → IsSameBut n (ready_told findings) (ready_told (findings ++ NotReady n op ∷ []))
ready_else findings n op k differ =
    ready_more findings (NotReady n op) k
    ∙ ap (λ (b : Bool). if b then without op (ready_told findings k) else ready_told findings k)
    (other_number k n differ)

pub unready_here : (findings : List Finding) (n : ChanNo) → ready_told (findings ++ Forgotten n ∷ []) n ≡ 0
unready_here findings n =
    ready_more findings (Forgotten n) n ∙ ap (λ (b : Bool). if b then 0 else ready_told findings n) (same_number n)

pub unready_else : (findings : List Finding) (n : ChanNo)
    → IsSameBut n (ready_told findings) (ready_told (findings ++ Forgotten n ∷ []))
unready_else findings n k differ =
    ready_more findings (Forgotten n) k
    ∙ ap (λ (b : Bool). if b then 0 else ready_told findings k) (other_number k n differ)

read_ready : (r : Result Got Failed) (findings : List Finding) (n : ChanNo)
    → ready_told (findings_after (is_early r) n 1 findings) n ≡ ready_after_read r (ready_told findings n)
read_ready (Ok (got.Bytes m)) findings n = refl
read_ready (Ok got.End) findings n = refl
read_ready (Ok got.NotYet) findings n = ready_here findings n 1
read_ready (Err failed) findings n = refl

by_early : (b : Bool) (findings : List Finding) (n : ChanNo) (op : ℕ)
    → IsSameBut n (ready_told findings) (ready_told (findings_after b n op findings))
by_early true findings n op = ready_else findings n op
by_early false findings n op = λ k differ. refl

-- ---- the polls that answered

polls_more : (findings : List Finding) (x : Finding)
    → polls_told (findings ++ x ∷ []) ≡ with_told (polls_told findings) x
polls_more findings x = fold-append with_told [] findings (x ∷ [])

-- a call that finds a channel not ready adds none
polls_after : (b : Bool) (findings : List Finding) (n : ChanNo) (op : ℕ)
    → polls_told (findings_after b n op findings) ≡ polls_told findings
polls_after true findings n op = polls_more findings (NotReady n op)
polls_after false findings n op = refl

pub polls_forgotten : (findings : List Finding) (n : ChanNo) → polls_told (findings ++ Forgotten n ∷ []) ≡ polls_told findings
polls_forgotten findings n = polls_more findings (Forgotten n)

-- ---- reading and writing

read_link : (g : Got) (l : LinkState) (buffer : List ℕ) (pieces : List (List ℕ))
    → carried (record l { pieces = pieces; got = got_after g buffer l.got; ended = ended_after g l.ended })
    ≡ carried_after_read (Ok g) buffer (carried l)
read_link (got.Bytes n) l buffer pieces = refl
read_link got.End l buffer pieces = refl
read_link got.NotYet l buffer pieces = refl

read_got : (o : Option LinkState) (buffer : List ℕ) → (buffer ≡ [] → ⊥)
    → IfOk (read_answer o (length buffer)) (IsGot buffer)
read_got None buffer some = tt
read_got (Some l) buffer some = is_got l.pieces buffer some

write_link : (r : Result Put Failed) (l : LinkState) (bytes : List ℕ)
    → carried (record l { put = put_after r bytes l.put }) ≡ carried_after_write r bytes (carried l)
write_link (Ok (put.Bytes n)) l bytes = refl
write_link (Ok put.NotYet) l bytes = refl
write_link (Err failed) l bytes = refl

-- a write that is never early leaves the readiness
write_ready_by : (b : Bool) (n ops : ℕ) → ops ≡ ready_after_write (if b then Ok (put.Bytes n) else Err (record {})) ops
write_ready_by true n ops = refl
write_ready_by false n ops = refl

write_ready : (o : Option LinkState) (count : ℕ) (ops : ℕ) → ops ≡ ready_after_write (write_answer o count) ops
write_ready None count ops = refl
write_ready (Some l) count ops =
    write_ready_by (nat_lt (length l.put) l.limit) (min count (min l.most (l.limit - length l.put))) ops

module _ (s : NetState) (c : ChanId) where
  pub reads : (buffer : List ℕ) → (buffer ≡ [] → ⊥)
      → Reads c (shown s) (shown (after_read s c buffer)) buffer (read_buffer (connected s c) buffer)
      (read_answer (connected s c) (length buffer))
  reads buffer some =
      let answer = read_answer (connected s c) (length buffer) in record {
        cause = cause_after answer s.faulted c;
        others = cause_else answer s.faulted c;
        got = read_got (connected s c) buffer some;
        link = changed_link s.slots s.past c (λ l. link_after_read l buffer) (connected s c) (connected_there s c)
            (λ o. carried_after_read (read_answer o (length buffer)) (read_buffer o buffer)) (λ l. refl)
            (λ l. read_link (got_of l.pieces (length buffer)) l (buffer_after l.pieces buffer)
            (pieces_after l.pieces (length buffer))) (connected s c) refl;
        links = changed_alone s.slots s.past c (λ l. link_after_read l buffer) (connected s c) (connected_there s c)
            (connected s c) refl;
        ready = read_ready answer s.findings c.number;
        ready_else = by_early (is_early answer) s.findings c.number 1;
        places = λ k. refl;
        accepted = refl;
        polls = refl;
        shown = ap (λ polls. Some polls) (polls_after (is_early answer) s.findings c.number 1);
      }

  pub writes : (bytes : List ℕ) → IfOk (write_answer (connected s c) (length bytes)) (IsPut bytes)
      → Writes c (shown s) (shown (after_write s c bytes)) bytes (write_answer (connected s c) (length bytes))
  writes bytes put =
      let answer = write_answer (connected s c) (length bytes) in record {
        cause = cause_after answer s.faulted c;
        others = cause_else answer s.faulted c;
        put = put;
        link = changed_link s.slots s.past c (λ l. link_after_write l bytes) (connected s c) (connected_there s c)
            (λ o. carried_after_write (write_answer o (length bytes)) bytes) (λ l. refl)
            (λ l. write_link (put_of l (length bytes)) l bytes) (connected s c) refl;
        links = changed_alone s.slots s.past c (λ l. link_after_write l bytes) (connected s c) (connected_there s c)
            (connected s c) refl;
        ready = write_ready (connected s c) (length bytes) (ready_told s.findings c.number);
        ready_else = λ k differ. refl;
        places = λ k. refl;
        accepted = refl;
        polls = refl;
        shown = refl;
      }

  -- ---- shutting

  shuts_by : (o : Option LinkState) → connected s c ≡ o
      → Shuts c (shown s) (shown (shut_by o s c)) (shut_answer o)
  shuts_by None is = record {
    cause = cause_after {T = Unit {0}} (Err (record {})) s.faulted c;
    others = times_else s.faulted c;
    link = refl;
    links = λ k differ. refl;
    ready = λ n. refl;
    place = refl;
    places = λ k differ. refl;
    accepted = refl;
    polls = refl;
    shown = refl;
  }
  shuts_by (Some l) is = record {
    cause = cause_after {T = Unit {0}} (Ok tt) s.faulted c;
    others = λ k differ. refl;
    link = changed_link s.slots s.past c (λ (x : LinkState). record x { shut = true }) (connected s c)
        (connected_there s c) (λ o. carried_after_shut (shut_answer o)) (λ l. refl) (λ l. refl) (Some l) is;
    links = changed_alone s.slots s.past c (λ (x : LinkState). record x { shut = true }) (connected s c)
        (connected_there s c) (Some l) is;
    ready = λ n. refl;
    place = changed_here s.changes c change.ShutWrite;
    places = changed_else s.changes c change.ShutWrite;
    accepted = accepted_here s.changes c change.ShutWrite;
    polls = refl;
    shown = refl;
  }

  pub shuts : Shuts c (shown s) (shown (after_shut s c)) (shut_answer (connected s c))
  shuts = shuts_by (connected s c) refl

  -- ---- finishing a connection

  module _ (connecting : (places_after s.changes c).standing ≡ standing.Connecting) where
    fails_finish : (failed : Failed)
        → Finishes c (shown s) (shown (after_finish (Err failed) s c)) (Err failed)
    fails_finish failed = record {
      cause = cause_after {T = Bool} (Err failed) s.faulted c;
      others = times_else s.faulted c;
      links = λ k. refl;
      ready = unready_here s.findings c.number;
      ready_else = unready_else s.findings c.number;
      place = changed_here s.changes c change.Close
          ∙ ap (λ st. with_standing (places_after s.changes c) (closed st)) connecting;
      places = changed_else s.changes c change.Close;
      accepted = accepted_here s.changes c change.Close;
      polls = refl;
      shown = ap (λ polls. Some polls) (polls_forgotten s.findings c.number);
    }

    does_finish : Finishes c (shown s) (shown (after_finish (Ok true) s c)) (Ok true)
    does_finish = record {
      cause = cause_after {T = Bool} (Ok true) s.faulted c;
      others = λ k differ. refl;
      links = λ k. refl;
      ready = refl;
      ready_else = λ n differ. refl;
      place = changed_here s.changes c change.FinishConnect;
      places = changed_else s.changes c change.FinishConnect;
      accepted = accepted_here s.changes c change.FinishConnect;
      polls = refl;
      shown = refl;
    }

    by_failing : (b : Bool)
        → Finishes c (shown s) (shown (after_finish (connect_link_answer b) s c)) (connect_link_answer b)
    by_failing true = fails_finish (record {})
    by_failing false = does_finish

    finishes_by : (o : Option LinkState)
        → Finishes c (shown s) (shown (after_finish (finish_answer o) s c)) (finish_answer o)
    finishes_by None = fails_finish (record {})
    finishes_by (Some l) = by_failing l.fail_connect

    pub finishes : Finishes c (shown s) (shown (after_finish (finish_answer (link_at s.slots c)) s c))
        (finish_answer (link_at s.slots c))
    finishes = finishes_by (link_at s.slots c)

  -- ---- closing

  closed_ready : (st : Standing) → ready_told (findings_closed (is_there st) c.number s.findings) c.number
      ≡ ready_after_close st (ready_told s.findings c.number)
  closed_ready standing.Nothing = refl
  closed_ready standing.Listening = unready_here s.findings c.number
  closed_ready standing.Connecting = unready_here s.findings c.number
  closed_ready standing.Linked = unready_here s.findings c.number
  closed_ready standing.Shut = unready_here s.findings c.number
  closed_ready standing.Gone = refl

  closed_else : (b : Bool)
      → IsSameBut c.number (ready_told s.findings) (ready_told (findings_closed b c.number s.findings))
  closed_else true = unready_else s.findings c.number
  closed_else false = λ k differ. refl

  closed_polls : (b : Bool) → polls_told (findings_closed b c.number s.findings) ≡ polls_told s.findings
  closed_polls true = polls_forgotten s.findings c.number
  closed_polls false = refl

  pub closes : Closes c (shown s) (shown (after_close s c))
  closes = record {
    faults = λ k. refl;
    links = λ k. refl;
    ready = closed_ready (places_after s.changes c).standing;
    ready_else = closed_else (is_there (places_after s.changes c).standing);
    place = changed_here s.changes c change.Close;
    places = changed_else s.changes c change.Close;
    accepted = accepted_here s.changes c change.Close;
    polls = refl;
    shown = ap (λ polls. Some polls) (closed_polls (is_there (places_after s.changes c).standing));
  }

-- ---- finding a past link

module _ (past : List PastLink) (c : ChanId) where
  pub past_found : (i : ℕ) (p : PastLink) → i < length past → p ≡ get_or past i p
      → carried_before (drop i past) c ≡ carried_before past c → is_same_channel p.channel c ≡ true
      → carried_before past c ≡ carried p.link
  past_found i p within is so_far same =
      sym so_far ∙ ap (λ (ps : List PastLink). carried_before ps c) (drop-cons past i p within)
      ∙ ap (λ (q : PastLink). carried_before (q ∷ drop (suc i) past) c) (sym is)
      ∙ ap (λ (b : Bool). if b then carried p.link else carried_before (drop (suc i) past) c) same

  pub past_other : (i : ℕ) (p : PastLink) → i < length past → p ≡ get_or past i p
      → carried_before (drop i past) c ≡ carried_before past c → is_same_channel p.channel c ≡ false
      → carried_before (drop (i + 1) past) c ≡ carried_before past c
  past_other i p within is so_far other =
      let next : i + 1 ≡ suc i = omega arith in
      ap (λ (n : ℕ). carried_before (drop n past) c) next ∙ sym (sym so_far ∙ ap (λ (ps : List PastLink). carried_before ps c) (drop-cons past i p within)
      ∙ ap (λ (q : PastLink). carried_before (q ∷ drop (suc i) past) c) (sym is)
      ∙ ap (λ (b : Bool). if b then carried p.link else carried_before (drop (suc i) past) c) other)

  pub past_none : (i : ℕ) → length past ≤ i → carried_before (drop i past) c ≡ carried_before past c
      → carried_before past c ≡ nothing_carried
  past_none i all so_far =
      let none : drop i past ≡ [] = grind (arith, common_steps) in
      sym so_far ∙ ap (λ (ps : List PastLink). carried_before ps c) none

-- ---- putting a link

fresh_carried : (l : LinkState) → IsFresh l → carried l ≡ nothing_carried
fresh_carried l fresh = rw (fresh.got, fresh.ended, fresh.put, fresh.shut) refl

not_itself : (s : ℕ) → nat_lt s s ≡ false
not_itself s = grind (arith, common_steps)

-- a link that comes after the last one of the number isn't that one
not_last : (x : Slot) (s : ℕ) → comes_after x s ≡ true → link_of x s ≡ None
not_last slot.Free s after = refl
not_last (slot.TakenOut m) s after = refl
not_last (slot.Link m l) s after =
    other_link m s l (λ same. let clash : nat_lt m m ≡ true = ap (λ n. nat_lt m n) (sym same) ∙ after in
    absurd (cc (sym clash ∙ not_itself m)))

past_else : (n : ChanNo) (x : Slot) (past : List PastLink) (k : ChanId) → k.number ≢ n
    → carried_before (past_after n x past) k ≡ carried_before past k
past_else n slot.Free past k differ = refl
past_else n (slot.TakenOut m) past k differ = refl
past_else n (slot.Link m l) past k differ =
    ap (λ (b : Bool). if b then carried l else carried_before past k)
    (is_another (channel n m) k (λ same. differ (sym (ap (λ (c : ChanId). c.number) same))))

same_serial : (n : ChanNo) (m s : ℕ) → is_same_channel (channel n m) (channel n s) ≡ (m == s)
same_serial n m s = ap (λ (b : Bool). b && (m == s)) (same_number n)

-- the last link of a number became a past one
past_last : (n : ChanNo) (x : Slot) (past : List PastLink) (s : ℕ)
    → carried_before (past_after n x past) (channel n s)
    ≡ carried_by (link_of x s) (carried_before past (channel n s))
past_last n slot.Free past s = refl
past_last n (slot.TakenOut m) past s = refl
past_last n (slot.Link m l) past s =
    ap (λ (b : Bool). if b then carried l else carried_before past (channel n s)) (same_serial n m s) ∙ by_test (m == s)
  where
    by_test : (b : Bool) → (if b then carried l else carried_before past (channel n s))
        ≡ carried_by (if b then Some l else None) (carried_before past (channel n s))
    by_test true = refl
    by_test false = refl

module _ (slots : List Slot) (past : List PastLink) (c : ChanId) (l : LinkState) (within : c.number.0 < length slots)
    (after : comes_after (slot_at slots c.number) c.serial ≡ true) (spent : ArePast slots past)
    (fresh : IsFresh l) where
  abbrev new_slots : List Slot
  new_slots = slice_set slots c.number.0 (slot.Link c.serial l)

  abbrev new_past : List PastLink
  new_past = past_after c.number (slot_at slots c.number) past

  put_here : (s : ℕ) → carried_at new_slots new_past (channel c.number s) ≡ carried_at slots past (channel c.number s)
  put_here s =
      ap (λ x. carried_by (link_of x s) (carried_before new_past (channel c.number s)))
      (slot_here slots c.number (slot.Link c.serial l) within) ∙ by_serial (cases_eq s c.serial)
    where
      by_serial : (s ≡ c.serial) ⊎ (s ≢ c.serial)
          → carried_by (link_of (slot.Link c.serial l) s) (carried_before new_past (channel c.number s))
          ≡ carried_at slots past (channel c.number s)
      by_serial (inl same) =
          ap (λ n. carried_by (link_of (slot.Link c.serial l) n) (carried_before new_past (channel c.number n))) same
          ∙ ap (λ o. carried_by o (carried_before new_past c)) (own_link c.serial l) ∙ fresh_carried l fresh
          ∙ sym (ap (λ n. carried_at slots past (channel c.number n)) same
          ∙ ap (λ o. carried_by o (carried_before past c)) (not_last (slot_at slots c.number) c.serial after)
          ∙ none_before slots past c spent (not_both (slot_at slots c.number) c.serial after))
      by_serial (inr differ) =
          ap (λ o. carried_by o (carried_before new_past (channel c.number s))) (other_link c.serial s l differ)
          ∙ past_last c.number (slot_at slots c.number) past s

  pub put_carried : (k : ChanId) → carried_at new_slots new_past k ≡ carried_at slots past k
  put_carried k = elim (is_or_not k.number c.number) [
    | inl same ↦ subst
        (λ (n : ChanNo). carried_at new_slots new_past (channel n k.serial) ≡ carried_at slots past (channel n k.serial))
        (sym same) (put_here k.serial)
    | inr differ ↦ ap (λ x. carried_by (link_of x k.serial) (carried_before new_past k))
        (slot_else slots c.number k.number (slot.Link c.serial l) differ)
        ∙ ap (λ before. carried_by (link_of (slot_at slots k.number) k.serial) before)
        (past_else c.number (slot_at slots c.number) past k differ)
  ]

-- taking out a link that has carried nothing
take_by : (slots : List Slot) (past : List PastLink) (c : ChanId) → ArePast slots past
    → IsUnused (carried_at slots past c) → (o : Option LinkState) → link_at slots c ≡ o → (k : ChanId)
    → carried_at (slots_after_take slots c o) past k ≡ carried_at slots past k
take_by slots past c spent unused None is k = refl
take_by slots past c spent unused (Some l) is j =
    all_same channel_is_or_not c (carried_at slots past)
    (carried_at (slice_set slots c.number.0 (slot.TakenOut c.serial)) past) here elsewhere j
  where
    at : slot_at slots c.number ≡ slot.Link c.serial l
    at = link_slot (slot_at slots c.number) c.serial l is

    here : carried_at (slice_set slots c.number.0 (slot.TakenOut c.serial)) past c ≡ carried_at slots past c
    here =
        let none = subst (λ o. IsUnused (carried_by o (carried_before past c))) is unused in
        let fresh : IsFresh l = record { got = none.got; ended = none.ended; put = none.put; shut = none.shut } in
        ap (λ x. carried_by (link_of x c.serial) (carried_before past c))
        (slot_here slots c.number (slot.TakenOut c.serial) (link_some slots c l is))
        ∙ none_before slots past c spent (ap (λ x. came_before x c.serial) at ∙ not_itself c.serial)
        ∙ sym (fresh_carried l fresh) ∙ sym (ap (λ o. carried_by o (carried_before past c)) is)

    by_number : (k : ChanId) → k ≢ c → (k.number ≡ c.number) ⊎ (k.number ≢ c.number)
        → carried_at (slice_set slots c.number.0 (slot.TakenOut c.serial)) past k ≡ carried_at slots past k
    by_number k differ (inl same) =
        ap (λ n. carried_by (link_of (slot_at (slice_set slots c.number.0 (slot.TakenOut c.serial)) n) k.serial)
        (carried_before past k)) same
        ∙ ap (λ x. carried_by (link_of x k.serial) (carried_before past k))
        (slot_here slots c.number (slot.TakenOut c.serial) (link_some slots c l is))
        ∙ sym (ap (λ o. carried_by o (carried_before past k)) (link_alone slots c l is k same differ))
    by_number k differ (inr number) =
        ap (λ x. carried_by (link_of x k.serial) (carried_before past k))
        (slot_else slots c.number k.number (slot.TakenOut c.serial) number)

    elsewhere : IsSameBut c (carried_at slots past)
        (carried_at (slice_set slots c.number.0 (slot.TakenOut c.serial)) past)
    elsewhere k differ = by_number k differ (is_or_not k.number c.number)

pub take_carried : (slots : List Slot) (past : List PastLink) (c : ChanId) → ArePast slots past
    → IsUnused (carried_at slots past c) → (k : ChanId)
    → carried_at (slots_after_take slots c (link_at slots c)) past k ≡ carried_at slots past k
take_carried slots past c spent unused = take_by slots past c spent unused (link_at slots c) refl

pub grown_carried : (slots : List Slot) (past : List PastLink) (n : ℕ) (k : ChanId)
    → carried_at (grown slots n) past k ≡ carried_at slots past k
grown_carried slots past n k =
    ap (λ x. carried_by (link_of x k.serial) (carried_before past k))
    (goes_on slot.Free slots (n - length slots) k.number.0)

-- ---- the calls that make links

pub free_parts : (s : NetState) (c : ChanId) → is_free s c ≡ true
    → (c.number.0 < length s.slots) × (comes_after (slot_at s.slots c.number) c.serial ≡ true)
free_parts s c free =
    let bears = (and_parts (is_none (occupant_at s.occupants c.number)) (can_bear s.slots c) free).1 in
    let both = and_parts (nat_lt c.number.0 (length s.slots)) (comes_after (slot_at s.slots c.number) c.serial) bears in
    (ltb-true c.number.0 (length s.slots) both.0, both.1)

-- nothing was told of what a change makes
pub made_ready : (s : NetState) (c : ChanId) (change : Change)
    → is_there (place_after change (places_after s.changes c)).standing ≡ true
    → ready_told (s.findings ++ Forgotten c.number ∷ []) c.number
    ≡ ready_after_making (is_there (places_after (s.changes ++ (c, change) ∷ []) c).standing)
    (ready_told s.findings c.number)
made_ready s c change there =
    unready_here s.findings c.number
    ∙ sym (ready_changed s.changes c change (ready_told s.findings c.number)
    ∙ ap (λ (b : Bool). ready_after_making b (ready_told s.findings c.number)) there)

module _ (s : NetState) (c : ChanId) where
  pub listens : (at : Addr) → IsFree (places_after s.changes) c
      → Listens c at (shown s) (shown (after_listen s c at)) (listen_answer s c)
  listens at free = by_test (is_free s c)
    where
      by_test : (b : Bool)
          → Listens c at (shown s) (shown (if b then made_under c (change.Listen at) s else faulted_on c s))
          (if b then Ok tt else Err (record {}))
      by_test true = record {
        cause = cause_after {T = Unit {0}} (Ok tt) s.faulted c;
        others = λ k differ. refl;
        links = λ k. refl;
        ready = made_ready s c (change.Listen at) refl;
        ready_else = unready_else s.findings c.number;
        place = changed_here s.changes c (change.Listen at);
        places = changed_else s.changes c (change.Listen at);
        accepted = accepted_here s.changes c (change.Listen at);
        polls = refl;
        shown = ap (λ polls. Some polls) (polls_forgotten s.findings c.number);
      }
      by_test false = record {
        cause = cause_after {T = Unit {0}} (Err (record {})) s.faulted c;
        others = times_else s.faulted c;
        links = λ k. refl;
        ready = sym (free_ready (places_after s.changes) c (ready_told s.findings c.number) free);
        ready_else = λ n differ. refl;
        place = refl;
        places = λ k differ. refl;
        accepted = refl;
        polls = refl;
        shown = refl;
      }

  refuses : (to : Addr) → IsFree (places_after s.changes) c
      → Connects c to (shown s) (shown (refused s c to)) (Err (record {}))
  refuses to free = by_test (is_there (places_after s.changes c).standing) (free_there (places_after s.changes) c free)
    where
      by_test : (b : Bool) → b ≡ false → Connects c to (shown s)
          (shown (if b then faulted_on c s else logged c (change.Connect to (Err (record {}))) (faulted_on c s)))
          (Err (record {}))
      by_test true is = absurd (cc is)
      by_test false is = record {
        cause = cause_after {T = Bool} (Err (record {})) s.faulted c;
        others = times_else s.faulted c;
        links = λ k. refl;
        ready = sym (ready_changed s.changes c (change.Connect to (Err (record {}))) (ready_told s.findings c.number));
        ready_else = λ n differ. refl;
        place = changed_here s.changes c (change.Connect to (Err (record {})));
        places = changed_else s.changes c (change.Connect to (Err (record {})));
        accepted = accepted_here s.changes c (change.Connect to (Err (record {})));
        polls = refl;
        shown = refl;
      }

  connects_with : (to : Addr) (targets : List LinkState) → IsFree (places_after s.changes) c → AreFresh targets
      → ArePast s.slots s.past → is_free s c ≡ true → Connects c to (shown s) (shown (with_target targets c to s))
      (if is_waiting targets then Ok false else Err (record {}))
  connects_with to [] free fresh spent able = refuses to free
  connects_with to (l ∷ later) free fresh spent able =
      let parts = free_parts s c able in record {
        cause = cause_after {T = Bool} (Ok false) s.faulted c;
        others = λ k differ. refl;
        links = put_carried s.slots s.past c l parts.0 parts.1 spent fresh.0;
        ready = made_ready s c (change.Connect to (Ok false)) refl;
        ready_else = unready_else s.findings c.number;
        place = changed_here s.changes c (change.Connect to (Ok false));
        places = changed_else s.changes c (change.Connect to (Ok false));
        accepted = accepted_here s.changes c (change.Connect to (Ok false));
        polls = refl;
        shown = ap (λ polls. Some polls) (polls_forgotten s.findings c.number);
      }

  pub connects : (to : Addr) → IsFree (places_after s.changes) c → AreFresh s.targets → ArePast s.slots s.past
      → Connects c to (shown s) (shown (after_connect s c to)) (connect_answer s c)
  connects to free fresh spent = by_test (is_free s c) refl
    where
      by_test : (b : Bool) → is_free s c ≡ b
          → Connects c to (shown s) (shown (if b then with_target s.targets c to s else refused s c to))
          (if b && is_waiting s.targets then Ok false else Err (record {}))
      by_test true able = connects_with to s.targets free fresh spent able
      by_test false taken = refuses to free

module _ (s : NetState) (listener c : ChanId) (free : IsFree (places_after s.changes) c) where
  fails_accept : (failed : Failed)
      → Accepts listener c (shown s) (shown (after_failed_accept s listener)) (Err failed)
  fails_accept failed = record {
    cause = cause_after {T = Bool} (Err failed) s.faulted listener;
    others = times_else s.faulted listener;
    links = λ k. refl;
    ready = refl;
    ready_made = sym (free_ready (places_after s.changes) c (ready_told s.findings c.number) free);
    ready_else = λ n other differ. refl;
    place = refl;
    places = λ k differ. refl;
    accepted = refl;
    polls = refl;
    shown = refl;
  }

  module _ (listens : (places_after s.changes listener).standing ≡ standing.Listening) where
    apart : listener.number ≢ c.number
    apart = free_apart (places_after s.changes) listener c free listens

    accepts_with : (clients : List LinkState) → AreFresh clients → ArePast s.slots s.past
        → can_accept s listener c ≡ true → Accepts listener c (shown s)
        (shown (with_client clients listener c (record s { accepts = after_success s.accepts })))
        (Ok (is_waiting clients))
    accepts_with [] fresh spent able = record {
      cause = cause_after {T = Bool} (Ok false) s.faulted listener;
      others = λ k differ. refl;
      links = λ k. refl;
      ready = ready_here s.findings listener.number 16;
      ready_made = ready_else s.findings listener.number 16 c.number (λ same. apart (sym same))
          ∙ sym (free_ready (places_after s.changes) c (ready_told s.findings c.number) free);
      ready_else = λ n other differ. ready_else s.findings listener.number 16 n other;
      place = refl;
      places = λ k differ. refl;
      accepted = refl;
      polls = refl;
      shown = ap (λ polls. Some polls) (polls_after true s.findings listener.number 16);
    }
    accepts_with (l ∷ later) fresh spent able =
        let can = (and_parts (is_listening (places_after s.changes listener).standing) (is_free s c) able).1 in
        let parts = free_parts s c can in record {
          cause = cause_after {T = Bool} (Ok true) s.faulted listener;
          others = λ k differ. refl;
          links = put_carried s.slots s.past c l parts.0 parts.1 spent fresh.0;
          ready = unready_else s.findings c.number listener.number apart;
          ready_made = made_ready s c (change.Accept listener) refl;
          ready_else = λ n other differ. unready_else s.findings c.number n differ;
          place = changed_here s.changes c (change.Accept listener);
          places = changed_else s.changes c (change.Accept listener);
          accepted = accepted_here s.changes c (change.Accept listener);
          polls = refl;
          shown = ap (λ polls. Some polls) (polls_forgotten s.findings c.number);
        }

    pub accepts : (now : NetState) (result : Result Bool Failed) → AreFresh s.clients → ArePast s.slots s.past
        → IfOk result (λ made. made ≡ is_waiting s.clients) → IfOk result (λ _. can_accept s listener c ≡ true)
        → IfOk result (λ _. now ≡ after_accept s listener c)
        → OnErr result (now ≡ after_failed_accept s listener) → Accepts listener c (shown s) (shown now) result
    accepts now (Ok made) fresh spent answer able ok err =
        rw (answer, ok) (accepts_with s.clients fresh spent able)
    accepts now (Err failed) fresh spent answer able ok err = rw err (fails_accept failed)

-- ---- the plan

pub clients_fresh : (place : ℕ) (peers : List PeerPlan) → AreFresh (ends_from client_end place peers)
clients_fresh place [] = tt
clients_fresh place (peer ∷ peers) =
    (record { got = refl; ended = refl; put = refl; shut = refl }, clients_fresh (place + 1) peers)

pub targets_fresh : (place : ℕ) (peers : List PeerPlan) → AreFresh (ends_from target_end place peers)
targets_fresh place [] = tt
targets_fresh place (peer ∷ peers) =
    (record { got = refl; ended = refl; put = refl; shut = refl }, targets_fresh (place + 1) peers)

-- one peer more
module _ (end : ℕ → PeerPlan → LinkState) where
  pub length_ends : (place : ℕ) (peers : List PeerPlan) → length (ends_from end place peers) ≡ length peers
  length_ends place [] = refl
  length_ends place (peer ∷ peers) = ap (λ (n : ℕ). suc n) (length_ends (place + 1) peers)

  pub ends_more : (place : ℕ) (peers : List PeerPlan) (peer : PeerPlan)
      → ends_from end place (peers ++ peer ∷ []) ≡ ends_from end place peers ++ end (place + length peers) peer ∷ []
  ends_more place [] peer = let same : place ≡ place + 0 = omega arith in ap (λ (n : ℕ). end n peer ∷ []) same
  ends_more place (first ∷ peers) peer =
      let same : place + 1 + length peers ≡ place + suc (length peers) = omega arith in
      ap (λ (ends : List LinkState). end place first ∷ ends) (ends_more (place + 1) peers peer)
      ∙ ap (λ (n : ℕ). end place first ∷ ends_from end (place + 1) peers ++ end n peer ∷ []) same

-- two more channels
pub slots_more : (n : ℕ) → (free_slots n ++ slot.Free ∷ []) ++ slot.Free ∷ [] ≡ free_slots (n + 1)
slots_more n =
    let first : replicate (2 * n + 1 + 1) slot.Free ≡ replicate (2 * n + 1) slot.Free ++ slot.Free ∷ [] =
    grind (arith, common_steps) in
    let second : replicate (2 * n + 1 + 1 + 1) slot.Free ≡ replicate (2 * n + 1 + 1) slot.Free ++ slot.Free ∷ [] =
    grind (arith, common_steps) in
    let same : 2 * n + 1 + 1 + 1 ≡ 2 * (n + 1) + 1 = omega arith in
    ap (λ xs. xs ++ slot.Free ∷ []) (sym first) ∙ sym second ∙ ap (λ k. replicate k slot.Free) same
