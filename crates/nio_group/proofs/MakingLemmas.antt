-- The name of the next channel, and what making it keeps.
use Rattle.std.proofs.Common.{◌≡◌, ◌≢◌, ℕ, ◌+◌, ◌<◌, ◌≤◌, zero, suc, Bool, true, false, cond, eqb, ltb, not, ◌&&◌}
use Rattle.std.proofs.Common.{Ok, Err, List, [], ◌∷◌, ◌++◌, Option, Some, None, get_or, set, length, refl, sym, ap, ◌∙◌, subst}
use Rattle.std.proofs.Common.{◌⊎◌, inl, inr, arith, count_by, drop}
use Rattle.std.proofs.lemmas.Bool.{false≢true, eqb-true, eqb-false, and_parts, not-true, ne_eqb}
use Rattle.std.proofs.lemmas.List.{length-set, length_push, get_or_push, get_or_read, drop_more}
use Rattle.std.proofs.Math.ListN.{drop_of_length-le}
use Rattle.std.proofs.lemmas.Option.{none-some, same_Some}
use Rattle.nio_base.specs.declared.numbers.GChan.{GChan}
use Rattle.nio_base.specs.declared.group.GKind.{GKind}
use Rattle.nio_base.specs.declared.group.OpKind.{OpKind}
use Rattle.nio_base.specs.declared.group.Finished.{Finished}
use Rattle.nio_group.specs.declared.channel.Channel.{Channel}
use Rattle.nio_group.specs.declared.channel.Endpoint.{Endpoint}
use Rattle.nio_group.specs.declared.channel.Endpoint.TheVariants.{Stream}
use Rattle.nio_group.specs.declared.channel.Link.TheVariants.{Connecting}
use Rattle.nio_group.specs.declared.operation.Operation.{Operation}
use Rattle.nio_group.specs.declared.limits.GroupLimits.{GroupLimits}
use Rattle.nio_group.specs.declared.pending.Pending as slots
use Rattle.nio_group.specs.Flight.{Flight, IsPendingAs, in_flight_on}
use Rattle.nio_group.specs.Group.{Group, IsLawful, IsMade, no_channel, new_channel, new_endpoint, channel_at}
use Rattle.nio_group.specs.GroupKept.{IsGroupKept, group_of, is_open}
use Rattle.nio_base.specs.Numbers.{last_serial}
use Rattle.nio_group.specs.Making.{is_of_kind, gives_way, comes_back, first_back, next_name, put_channel, with_made}
use Rattle.nio_group.specs.Pending.{nothing_pending}
use Rattle.nio_group.specs.Steps.{answer_to_open, after_open, name_or_spent}
use Rattle.nio_group.specs.declared.refusal.StartError.{StartError}
use Rattle.nio_group.specs.declared.refusal.StartError.TheVariants as refused
use Rattle.nio_group.specs.Stages.{is_on, is_pending_as}
use Rattle.nio_group.proofs.GroupLemmas.{kept-channel_made}
use Rattle.nio_group.proofs.LawfulLemmas.{lawful-channel, lawful-channel_made, flight-lawful}
use Rattle.nio_group.proofs.ListLemmas.{eqb-same}
use Rattle.nio_group.proofs.NameLemmas.{of-channels, of-channel, name_in, name-other, count-none, on-parts}
use Rattle.nio_group.proofs.PendingLemmas.{same_kind-refl}
use Rattle.nio_group.proofs.TableLemmas.{by_test, count_by-set}
use Rattle.std.proofs.Common.{get_or-set_same}
use Rattle.std.proofs.Math.Numerals.{lt_of_le_of_ne}

abbrev pub named : ℕ → ℕ → GChan
named number serial = record { number = number; serial = serial }

-- what is known of a number that comes back
pub record IsBack (f : Flight) (kind : GKind) (c : ℕ) (channel : Channel) : Type 0 where
  pub was_closed : channel.is_open ≡ false
  pub of_kind : is_of_kind kind channel.endpoint ≡ true
  pub none_in_flight : in_flight_on f (record { number = c; serial = channel.serial }) ≡ 0

pub back-parts : (f : Flight) (kind : GKind) (c : ℕ) (channel : Channel) → comes_back f kind c channel ≡ true
    → IsBack f kind c channel
back-parts f kind c channel h =
    let of = and_parts (not channel.is_open && is_of_kind kind channel.endpoint) _ h in
    let first = and_parts (not channel.is_open) (is_of_kind kind channel.endpoint) of.0 in
    let last = and_parts (ltb channel.serial last_serial) _ of.1 in
    record {
      was_closed = not-true channel.is_open first.0;
      of_kind = first.1;
      none_in_flight = eqb-true (in_flight_on f (record { number = c; serial = channel.serial })) 0 last.1;
    }

-- the name that is found, from a number on
pub record IsFoundBack (f : Flight) (kind : GKind) (c : ℕ) (cs : List Channel) (chan : GChan) : Type 0 where
  pub at : ℕ
  pub within : at < length cs
  pub number : chan.number ≡ c + at
  pub serial : chan.serial ≡ (get_or cs at no_channel).serial + 1
  pub back : IsBack f kind (c + at) (get_or cs at no_channel)

pub found-back : (f : Flight) (kind : GKind) (c : ℕ) (cs : List Channel) (chan : GChan)
    → first_back f kind c cs ≡ Some chan → IsFoundBack f kind c cs chan
found-back f kind c [] chan h = absurd (none-some chan h)
found-back f kind c (channel ∷ rest) chan h =
    by_test (comes_back f kind c channel)
    (λ t.
    let found : Some (named c (channel.serial + 1)) ≡ Some chan = rw t at h in
    let same = same_Some (named c (channel.serial + 1)) chan found in
    let here = back-parts f kind c channel t in
    record {
      at = 0;
      within = omega arith;
      number = sym (ap (λ (x : GChan). x.number) same) ∙ omega arith;
      serial = sym (ap (λ (x : GChan). x.serial) same);
      back = subst (λ (k : ℕ). IsBack f kind k channel) (omega arith) here;
    })
    (λ e.
    let later = found-back f kind (c + 1) rest chan (rw e at h) in
    record {
      at = suc later.at;
      within = let l = later.within in omega arith;
      number = later.number ∙ omega arith;
      serial = later.serial;
      back = subst (λ (k : ℕ). IsBack f kind k (get_or rest later.at no_channel)) (omega arith) later.back;
    })

-- the name of the next channel: of a number that no channel has had
pub record IsFirst (g : Group) (chan : GChan) : Type 0 where
  pub number : chan.number ≡ length g.channels
  pub serial : chan.serial ≡ 0
  pub room : length g.channels < g.channel_limit

-- or of one that comes back
pub record IsAgain (g : Group) (kind : GKind) (chan : GChan) : Type 0 where
  pub within : chan.number < length g.channels
  pub serial : chan.serial ≡ (channel_at g chan.number).serial + 1
  pub back : IsBack g.flight kind chan.number (channel_at g chan.number)

pub next-is : (g : Group) (kind : GKind) (chan : GChan) → length g.channels ≤ g.channel_limit
    → next_name g kind ≡ Some chan → IsFirst g chan ⊎ IsAgain g kind chan
next-is g kind chan few h =
    by_test (eqb (length g.channels) g.channel_limit)
    (λ t.
    let found = found-back g.flight kind 0 g.channels chan (rw t at h) in
    let same : chan.number ≡ found.at = found.number ∙ omega arith in
    let within = found.within in
    inr (record {
      within = omega arith;
      serial = found.serial ∙ ap (λ (k : ℕ). (get_or g.channels k no_channel).serial + 1) (sym same);
      back = subst (λ (k : ℕ). IsBack g.flight kind k (get_or g.channels k no_channel)) (sym same)
          (subst (λ (k : ℕ). IsBack g.flight kind k (get_or g.channels found.at no_channel)) (omega arith) found.back);
    }))
    (λ e.
    let differ = eqb-false (length g.channels) g.channel_limit e in
    let found : Some (named (length g.channels) 0) ≡ Some chan = rw e at h in
    let same = same_Some (named (length g.channels) 0) chan found in
    inl (record {
      number = sym (ap (λ (x : GChan). x.number) same);
      serial = sym (ap (λ (x : GChan). x.serial) same);
      room = lt_of_le_of_ne few differ;
    }))

-- ---- what is kept

-- nothing is pending on a closed channel
none-there : (g : Group) (c : ℕ) → IsLawful g → (channel_at g c).is_open ≡ false → (kind : OpKind) (n : ℕ)
    → IsPendingAs g.flight c kind n → ⊥
none-there g c lawful closed kind n h = false≢true (sym closed ∙ lawful.pending_open n c kind h)

-- a channel is put in the place of a closed one
pub lawful-again : (g : Group) (c : ℕ) (ch : Channel) → IsLawful g → c < length g.channels
    → (channel_at g c).is_open ≡ false → (channel_at g c).serial ≤ ch.serial → (ch.endpoint ≡ Stream Connecting → ⊥)
    → IsLawful (record g { channels = set g.channels c ch })
lawful-again g c ch lawful within closed grows not_connecting =
    let none = none-there g c lawful closed in
    lawful-channel g g.flight c ch lawful within (flight-lawful g lawful)
    (of-channel g.flight.operations g.channels c ch within grows
    (λ n op is pending there.
    absurd (none op.kind n
    (rw (is, pending, ap (λ (k : ℕ). eqb k c) there, eqb-same c, same_kind-refl op.kind) refl)))
    (of-channels g lawful))
    (record {
      open_for = λ kind n h. absurd (none kind n h);
      ready_for = λ kind n h. absurd (none kind n h);
      once_for = λ kind m n h h'. absurd (none kind m h);
      connects = λ o e. absurd (not_connecting e);
    })
    (λ d kind n differ h. h)
    (λ d n differ h. h)

pub put-first : (cs : List Channel) (chan : GChan) (ch : Channel) → chan.number ≡ length cs
    → put_channel cs chan ch ≡ cs ++ ch ∷ []
put-first cs chan ch same =
    let test : eqb chan.number (length cs) ≡ true = subst (λ (k : ℕ). eqb chan.number k ≡ true) same
    (eqb-same chan.number) in
    rw test refl

pub put-again : (cs : List Channel) (chan : GChan) (ch : Channel) → chan.number < length cs
    → put_channel cs chan ch ≡ set cs chan.number ch
put-again cs chan ch l = rw (ne_eqb chan.number (length cs) (omega arith)) refl

pub lawful-next : (g : Group) (kind : GKind) (chan : GChan) (endpoint : Endpoint) → IsLawful g
    → next_name g kind ≡ Some chan → (endpoint ≡ Stream Connecting → ⊥)
    → IsLawful (with_made g (Some chan) endpoint)
lawful-next g kind chan endpoint lawful is_named not_connecting =
    let P : List Channel → Type 0 = λ cs. IsLawful (record g { channels = cs }) in
    let ch = new_channel chan endpoint in
    elim (next-is g kind chan lawful.few_channels is_named) [
      | inl first ↦ subst P (sym (put-first g.channels chan ch first.number))
          (lawful-channel_made g ch lawful first.room not_connecting)
      | inr again ↦
          let serial = again.serial in
          subst P (sym (put-again g.channels chan ch again.within))
          (lawful-again g chan.number ch lawful again.within again.back.was_closed (omega arith) not_connecting)
    ]

-- where a name is found, and where none is
pub lawful-made : (g : Group) (kind : GKind) (name : Option GChan) (endpoint : Endpoint) → IsLawful g
    → ((chan : GChan) → name ≡ Some chan → next_name g kind ≡ Some chan) → (endpoint ≡ Stream Connecting → ⊥)
    → IsLawful (with_made g name endpoint)
lawful-made g kind None endpoint lawful is_named not_connecting = lawful
lawful-made g kind (Some chan) endpoint lawful is_named not_connecting =
    lawful-next g kind chan endpoint lawful (is_named chan refl) not_connecting

-- no operation is of a channel that is made
none-new : (g : Group) (c : ℕ) (serial : ℕ) → IsLawful g → (channel_at g c).serial < serial
    → in_flight_on g.flight (record { number = c; serial = serial }) ≡ 0
none-new g c serial lawful above =
    count-none (record { number = c; serial = serial }) g.flight.operations
    (λ n op is on.
    let parts = on-parts (record { number = c; serial = serial }) op on in
    let made = lawful.made n op is in
    let there : op.chan.serial ≤ (channel_at g c).serial = subst
    (λ (k : ℕ). op.chan.serial ≤ (channel_at g k).serial) (sym parts.0) made.1 in
    let same : serial ≡ op.chan.serial = parts.1 in
    absurd (let never : ⊥ = omega arith in never))

-- a channel is made with the next number
pub kept-first : {f : Flight} {cs : List Channel} {ps : List slots.Pending} {o r r' : ℕ} {sh : Bool} {l : GroupLimits}
    (kind : GKind) (chan : GChan) (endpoint : Endpoint)
    → IsGroupKept f cs ps o sh l r r' → next_name (group_of f cs sh l) kind ≡ Some chan
    → (endpoint ≡ Stream Connecting → ⊥) → chan.number ≡ length cs
    → IsGroupKept f (cs ++ new_channel chan endpoint ∷ []) (ps ++ nothing_pending ∷ []) (o + 1) sh l r r'
kept-first {f} {cs} {ps} {o} {r} {r'} {sh} {l} kind chan endpoint kept is_named not_connecting last =
    elim (next-is (group_of f cs sh l) kind chan kept.lawful.few_channels is_named) [
      | inl first ↦ kept-channel_made (new_channel chan endpoint) kept refl not_connecting first.room first.serial
      | inr again ↦ let within = again.within in absurd (let never : ⊥ = omega arith in never)
    ]

-- there is room for it
pub first-room : {f : Flight} {cs : List Channel} {ps : List slots.Pending} {o r r' : ℕ} {sh : Bool} {l : GroupLimits}
    (kind : GKind) (chan : GChan)
    → IsGroupKept f cs ps o sh l r r' → next_name (group_of f cs sh l) kind ≡ Some chan → chan.number ≡ length cs
    → length cs < l.channels
first-room {f} {cs} {ps} {o} {r} {r'} {sh} {l} kind chan kept is_named last =
    elim (next-is (group_of f cs sh l) kind chan kept.lawful.few_channels is_named) [
      | inl first ↦ first.room
      | inr again ↦ let within = again.within in absurd (let never : ⊥ = omega arith in never)
    ]

-- a channel is made with a number that comes back
pub again-within : {f : Flight} {cs : List Channel} {ps : List slots.Pending} {o r r' : ℕ} {sh : Bool} {l : GroupLimits}
    (kind : GKind) (chan : GChan)
    → IsGroupKept f cs ps o sh l r r' → next_name (group_of f cs sh l) kind ≡ Some chan → chan.number ≢ length cs
    → IsAgain (group_of f cs sh l) kind chan
again-within {f} {cs} {ps} {o} {r} {r'} {sh} {l} kind chan kept is_named differ =
    elim (next-is (group_of f cs sh l) kind chan kept.lawful.few_channels is_named) [
      | inl first ↦ absurd (differ first.number)
      | inr again ↦ again
    ]

pub kept-again : {f : Flight} {cs : List Channel} {ps : List slots.Pending} {o r r' : ℕ} {sh : Bool} {l : GroupLimits}
    (kind : GKind) (chan : GChan) (endpoint : Endpoint)
    → IsGroupKept f cs ps o sh l r r' → next_name (group_of f cs sh l) kind ≡ Some chan
    → (endpoint ≡ Stream Connecting → ⊥) → chan.number ≢ length cs
    → IsGroupKept f (set cs chan.number (new_channel chan endpoint)) ps (o + 1) sh l r r'
kept-again {f} {cs} {ps} {o} {r} {r'} {sh} {l} kind chan endpoint kept is_named not_connecting differ =
    let g : Group = group_of f cs sh l in
    let again = again-within kind chan kept is_named differ in
    let c = chan.number in
    let ch = new_channel chan endpoint in
    let within : c < length cs = again.within in
    let serial = again.serial in
    let opened_were = kept.opened_is in
    let counts = count_by-set is_open cs c ch no_channel within in
    let was : cond {A = ℕ} (is_open (get_or cs c no_channel)) 1 0 ≡ 0 = ap {B = ℕ}
    (λ (b : Bool). cond b 1 0) again.back.was_closed in
    record {
      lawful = lawful-again g c ch kept.lawful within again.back.was_closed (omega arith) not_connecting;
      fit = kept.fit;
      same_limit = kept.same_limit;
      opened_is = omega (arith, counts, was, opened_were);
      slots = kept.slots ∙ sym (length-set cs c ch);
      is_listed = kept.is_listed;
      are_counted = λ d.
          by_test (eqb d c)
          (λ t.
          let same = eqb-true d c t in
          let none = none-new g c chan.serial kept.lawful (omega arith) in
          let has : name_in (set cs c ch) c ≡ chan = ap (λ (x : Channel). record { number = c; serial = x.serial })
          (get_or-set_same cs c ch no_channel within) in
          subst (λ (k : ℕ). (get_or ps k nothing_pending).in_flight ≡ in_flight_on f (name_in (set cs c ch) k)) (sym same)
          (kept.are_counted c ∙ again.back.none_in_flight ∙ sym (ap (in_flight_on f) has ∙ none)))
          (λ e. kept.are_counted d ∙ sym (ap (in_flight_on f) (name-other cs c ch d (eqb-false d c e))));
      has_room = kept.has_room;
      has_slots_room = kept.has_slots_room;
    }

-- ---- the search for a number that comes back

-- what the slots say of the channel at a number
pub back-read : {f : Flight} {cs : List Channel} {ps : List slots.Pending} {o r r' : ℕ} {sh : Bool} {l : GroupLimits}
    (kind : GKind) (c : ℕ) (x : Channel) (p : slots.Pending)
    → IsGroupKept f cs ps o sh l r r' → c < length cs → x ≡ get_or cs c x → p ≡ get_or ps c p
    → gives_way kind x p.in_flight ≡ comes_back f kind c (get_or cs c no_channel)
back-read {f} {cs} {ps} kind c x p kept within read read_slot =
    let slots_are = kept.slots in
    let is : x ≡ get_or cs c no_channel = get_or_read cs c x within read no_channel in
    let is_slot : p ≡ get_or ps c nothing_pending = get_or_read ps c p (omega arith) read_slot nothing_pending in
    let count = ap (λ (q : slots.Pending). q.in_flight) is_slot ∙ kept.are_counted c in
    ap (λ (y : Channel). gives_way kind y p.in_flight) is
    ∙ ap (gives_way kind (get_or cs c no_channel)) count

-- the search goes on where a number doesn't come back, and ends at one that does
pub search-on : (f : Flight) (kind : GKind) (c : ℕ) (cs : List Channel) → c < length cs
    → comes_back f kind c (get_or cs c no_channel) ≡ false
    → first_back f kind (c + 1) (drop (c + 1) cs) ≡ first_back f kind c (drop c cs)
search-on f kind c cs within not =
    sym (ap (first_back f kind c) (drop_more cs c no_channel within) ∙ rw not refl)

pub search-found : (f : Flight) (kind : GKind) (c : ℕ) (cs : List Channel) → c < length cs
    → comes_back f kind c (get_or cs c no_channel) ≡ true
    → first_back f kind c (drop c cs) ≡ Some (named c ((get_or cs c no_channel).serial + 1))
search-found f kind c cs within is =
    ap (first_back f kind c) (drop_more cs c no_channel within) ∙ rw is refl

pub search-end : (f : Flight) (kind : GKind) (c : ℕ) (cs : List Channel) → length cs ≤ c
    → first_back f kind c (drop c cs) ≡ None
search-end f kind c cs past = ap (first_back f kind c) (drop_of_length-le cs past)

pub next-full : (g : Group) (kind : GKind) → length g.channels ≡ g.channel_limit
    → next_name g kind ≡ first_back g.flight kind 0 g.channels
next-full g kind full =
    let test : eqb (length g.channels) g.channel_limit ≡ true = subst
    (λ (k : ℕ). eqb (length g.channels) k ≡ true) full (eqb-same (length g.channels)) in
    rw test refl

-- making a channel leaves the limits
pub made-limit : (g : Group) (name : Option GChan) (endpoint : Endpoint)
    → (with_made g name endpoint).channel_limit ≡ g.channel_limit
made-limit g None endpoint = refl
made-limit g (Some chan) endpoint = refl

-- where no channel is opened nothing changes
pub refused-open : (g : Group) (kind : GKind) (e : StartError) → answer_to_open g kind ≡ Err e → after_open g kind ≡ g
refused-open g kind e is = by_shut g.is_shut is
  where
    by_name : (name : Option GChan) → name_or_spent name ≡ Err e → with_made g name (new_endpoint kind) ≡ g
    by_name None is = refl
    by_name (Some chan) is = cc

    by_shut : (shut : Bool) → cond shut (Err refused.ShutdownGroup) (name_or_spent (next_name g kind)) ≡ Err e
        → cond shut g (with_made g (next_name g kind) (new_endpoint kind)) ≡ g
    by_shut true is = refl
    by_shut false is = by_name (next_name g kind) is

-- a channel that was opened is made
pub open-made : (g : Group) (kind : GKind) (chan : GChan) → IsLawful g → answer_to_open g kind ≡ Ok chan
    → IsMade (after_open g kind) chan
open-made g kind chan lawful is = by_shut g.is_shut is
  where
    by_name : (name : Option GChan) → next_name g kind ≡ name → name_or_spent name ≡ Ok chan
        → IsMade (with_made g name (new_endpoint kind)) chan
    by_name None named answers = cc
    by_name (Some x) named answers =
        let same : x ≡ chan = cc in
        let ch = new_channel x (new_endpoint kind) in
        subst (IsMade (with_made g (Some x) (new_endpoint kind))) same
        (elim (next-is g kind x lawful.few_channels named) [
          | inl first ↦
              let number = first.number in
              rw (put-first g.channels x ch first.number) (
                omega (arith, length_push g.channels ch, number),
                rw (get_or_push g.channels ch no_channel x.number (sym number)) (omega arith),
              )
          | inr again ↦ rw (put-again g.channels x ch again.within) (
            omega (arith, length-set g.channels x.number ch, again.within),
            rw (get_or-set_same g.channels x.number ch no_channel again.within) (omega arith),
          )
        ])

    by_shut : (shut : Bool) → cond shut (Err refused.ShutdownGroup) (name_or_spent (next_name g kind)) ≡ Ok chan
        → IsMade (cond shut g (with_made g (next_name g kind) (new_endpoint kind))) chan
    by_shut true answers = cc
    by_shut false answers = by_name (next_name g kind) refl answers
