-- What a group's calls keep of its channels and of the slots of what is pending on them.
use Rattle.std.proofs.Common.{◌≡◌, ◌≢◌, ℕ, ◌+◌, ◌<◌, zero, suc, Bool, true, cond, eqb, List, [], ◌∷◌, ◌++◌, Option, Some, None}
use Rattle.std.proofs.Common.{count_by, ◌≤◌, get_or, set, length, refl, sym, ap, ◌∙◌, subst, arith, ◌⊎◌, inl, inr}
use Rattle.std.proofs.lemmas.Bool.{eqb-true, eqb-false}
use Rattle.std.proofs.lemmas.List.{get_or_past, get_or_append_left, get_or_push, length-set, length_push}
use Rattle.nio_base.specs.declared.group.GKind.{GKind}
use Rattle.nio_base.specs.declared.group.GKind.TheVariants as gkind
use Rattle.nio_group.specs.declared.channel.Channel.{Channel}
use Rattle.nio_group.specs.declared.channel.Endpoint.TheVariants.{Stream}
use Rattle.nio_group.specs.declared.channel.Link.TheVariants.{Connecting}
use Rattle.nio_base.specs.declared.group.OpKind.{OpKind}
use Rattle.nio_base.specs.declared.group.OpKind.TheVariants.{Accept, Connect, Read, Write}
use Rattle.nio_group.specs.declared.operation.Operation.{Operation}
use Rattle.nio_group.specs.declared.limits.GroupLimits.{GroupLimits}
use Rattle.nio_group.specs.declared.pending.Pending as slots
use Rattle.nio_group.specs.Stages.{is_pending_as}
use Rattle.nio_group.specs.Flight.{Flight, IsPendingAs, in_flight_on, with_accepted}
use Rattle.nio_group.specs.Limits.{IsFit}
use Rattle.nio_group.specs.Pending.{slot_of, with_slot, nothing_pending}
use Rattle.nio_group.specs.Group.{IsLawful, no_channel, new_endpoint}
use Rattle.nio_group.specs.GroupKept.{IsGroupKept, IsListed, AreCounted, group_of, is_open}
use Rattle.nio_group.proofs.TableLemmas.{by_test, count_by-set}
use Rattle.nio_group.proofs.ListLemmas.{get_or-push, count_by-push, get_or-set, within-where}
use Rattle.nio_group.proofs.PendingLemmas.{kinds, pending-parts, slot_of-with_same, slot_of-with_other}
use Rattle.nio_group.proofs.LawfulLemmas.{lawful-channel_made}
use Rattle.nio_group.proofs.NameLemmas.{name-push}
use Rattle.nio_group.proofs.CloseLemmas.{IsListedOn}
use Rattle.std.proofs.lemmas.Option.{same_Some}

-- a slot that is made has nothing pending
pub slots-push : (ps : List slots.Pending) (c : ℕ)
    → get_or (ps ++ nothing_pending ∷ []) c nothing_pending ≡ get_or ps c nothing_pending
slots-push ps c =
    by_test (eqb c (length ps))
    (λ t. let same = eqb-true c (length ps) t in
    rw t at (get_or-push ps nothing_pending nothing_pending c) ∙ sym (get_or_past ps c nothing_pending (omega arith)))
    (λ f. rw f at (get_or-push ps nothing_pending nothing_pending c))

pub kept-channel_made : {f : Flight} {cs : List Channel} {ps : List slots.Pending} {o r r' : ℕ} {sh : Bool}
    {l : GroupLimits} (ch : Channel)
    → IsGroupKept f cs ps o sh l r r' → ch.is_open ≡ true → (ch.endpoint ≡ Stream Connecting → ⊥)
    → length cs < l.channels → ch.serial ≡ 0
    → IsGroupKept f (cs ++ ch ∷ []) (ps ++ nothing_pending ∷ []) (o + 1) sh l r r'
kept-channel_made {f} {cs} {ps} {o} {r} {r'} {sh} {l} ch kept opened not_connecting room first =
    let slots_are = kept.slots in
    let opened_were = kept.opened_is in
    record {
      lawful = lawful-channel_made (group_of f cs sh l) ch kept.lawful room not_connecting;
      fit = kept.fit;
      same_limit = kept.same_limit;
      opened_is = let one : cond (is_open ch) 1 0 ≡ 1 = ap {B = ℕ} (λ (b : Bool). cond b 1 0) opened in
          omega (arith, count_by-push is_open cs ch, one, opened_were);
      slots = omega (arith, length_push cs ch, length_push ps nothing_pending, slots_are);
      is_listed = record {
        listed = λ c kind n h. kept.is_listed.listed c kind n (rw (slots-push ps c) at h);
        all = λ c kind n h. rw (slots-push ps c) (kept.is_listed.all c kind n h);
      };
      are_counted = λ c.
          ap (λ (p : slots.Pending). p.in_flight) (slots-push ps c)
          ∙ kept.are_counted c
          ∙ sym (ap (in_flight_on f) (name-push cs ch c first));
      has_room = kept.has_room;
      has_slots_room = kept.has_slots_room;
    }

-- one channel changes, and what is pending on it
pub kept-channel : {f : Flight} {cs : List Channel} {ps : List slots.Pending} {o r r' : ℕ} {sh : Bool} {l : GroupLimits}
    (f' : Flight) (c : ℕ) (ch : Channel) (p : slots.Pending) (o' : ℕ)
    → IsGroupKept f cs ps o sh l r r' → c < length cs → IsLawful (group_of f' (set cs c ch) sh l) → f'.limit ≡ f.limit
    → o' + cond (is_open (get_or cs c no_channel)) 1 0 ≡ o + cond (is_open ch) 1 0 → IsListed f' (set ps c p)
    → AreCounted f' (set cs c ch) (set ps c p) → IsGroupKept f' (set cs c ch) (set ps c p) o' sh l r r'
kept-channel {f} {cs} {ps} {o} f' c ch p o' kept within lawful limit opened is_listed counted =
    let slots_are = kept.slots in
    let opened_were = kept.opened_is in
    let counts = count_by-set is_open cs c ch no_channel within in
    record {
      lawful = lawful;
      fit = kept.fit;
      same_limit = limit ∙ kept.same_limit;
      opened_is = omega (arith, counts, opened_were, opened);
      slots = length-set ps c p ∙ slots_are ∙ sym (length-set cs c ch);
      is_listed = is_listed;
      are_counted = counted;
      has_room = kept.has_room;
      has_slots_room = kept.has_slots_room;
    }

-- the operations change, and no channel
pub kept-operations : {f : Flight} {cs : List Channel} {ps : List slots.Pending} {o r r' : ℕ} {sh : Bool}
    {l : GroupLimits} (f' : Flight)
    → IsGroupKept f cs ps o sh l r r' → IsLawful (group_of f' cs sh l) → f'.limit ≡ f.limit → IsListed f' ps
    → AreCounted f' cs ps → IsGroupKept f' cs ps o sh l r r'
kept-operations f' kept lawful limit is_listed counted =
    record {
      lawful = lawful;
      fit = kept.fit;
      same_limit = limit ∙ kept.same_limit;
      opened_is = kept.opened_is;
      slots = kept.slots;
      is_listed = is_listed;
      are_counted = counted;
      has_room = kept.has_room;
      has_slots_room = kept.has_slots_room;
    }

-- what is pending once an operation is put after the others
pub pending-pushed : (xs : List (Option Operation)) (slot : Option Operation) (c : ℕ) (kind : OpKind) (m : ℕ)
    → is_pending_as c kind (get_or (xs ++ slot ∷ []) m None) ≡ true
    → ((m ≡ length xs) × (is_pending_as c kind slot ≡ true))
    ⊎ ((m ≢ length xs) × (is_pending_as c kind (get_or xs m None) ≡ true))
pending-pushed xs slot c kind m h =
    by_test (eqb m (length xs))
    (λ t. let has = rw t at (get_or-push xs slot None m) in
    inl (eqb-true m (length xs) t, rw has at h))
    (λ f. let has = rw f at (get_or-push xs slot None m) in
    inr (eqb-false m (length xs) f, rw has at h))

pub pending-within : (xs : List (Option Operation)) (c : ℕ) (kind : OpKind) (m : ℕ)
    → is_pending_as c kind (get_or xs m None) ≡ true → m < length xs
pending-within xs c kind m h = within-where (is_pending_as c kind) xs m None refl h

pub pending-still : (xs : List (Option Operation)) (slot : Option Operation) (c : ℕ) (kind : OpKind) (m : ℕ)
    → is_pending_as c kind (get_or xs m None) ≡ true → is_pending_as c kind (get_or (xs ++ slot ∷ []) m None) ≡ true
pending-still xs slot c kind m h = rw (get_or_append_left xs (slot ∷ []) None m (pending-within xs c kind m h)) h

-- what is pending on one channel changes, and its slots
pub listed-channel : (f f' : Flight) (ps : List slots.Pending) (c : ℕ) (p : slots.Pending) → IsListed f ps
    → c < length ps → IsListedOn f' c p
    → ((d : ℕ) (kind : OpKind) (n : ℕ) → d ≢ c → IsPendingAs f d kind n → IsPendingAs f' d kind n)
    → ((d : ℕ) (kind : OpKind) (n : ℕ) → d ≢ c → IsPendingAs f' d kind n → IsPendingAs f d kind n)
    → IsListed f' (set ps c p)
listed-channel f f' ps c p is_listed within own stay less =
    record {
      listed = λ d kind n h.
          let has = get_or-set ps c p nothing_pending d within in
          by_test (eqb d c)
          (λ t. rw (eqb-true d c t)
          (own.listed kind n (sym (ap (λ (q : slots.Pending). slot_of q kind) (rw t at has)) ∙ h)))
          (λ e. stay d kind n (eqb-false d c e)
          (is_listed.listed d kind n (sym (ap (λ (q : slots.Pending). slot_of q kind) (rw e at has)) ∙ h)));
      all = λ d kind n h.
          let has = get_or-set ps c p nothing_pending d within in
          by_test (eqb d c)
          (λ t. ap (λ (q : slots.Pending). slot_of q kind) (rw t at has)
          ∙ own.all kind n (subst (λ (e : ℕ). IsPendingAs f' e kind n) (eqb-true d c t) h))
          (λ e. ap (λ (q : slots.Pending). slot_of q kind) (rw e at has)
          ∙ is_listed.all d kind n (less d kind n (eqb-false d c e) h));
    }

-- the slots after an operation was put after the others, pending
pub listed-started : (f : Flight) (ps : List slots.Pending) (op : Operation) (c : ℕ) → IsListed f ps → c < length ps
    → is_pending_as c op.kind (Some op) ≡ true → ((n : ℕ) → IsPendingAs f c op.kind n → ⊥)
    → IsListed (with_accepted f op)
    (set ps c (with_slot (get_or ps c nothing_pending) op.kind (Some (length f.operations))))
listed-started f ps op c is_listed within new free =
    let xs = f.operations in
    let p : slots.Pending = get_or ps c nothing_pending in
    let number : Option ℕ = Some (length xs) in
    listed-channel f (with_accepted f op) ps c (with_slot p op.kind number) is_listed within
    (record {
      listed = λ kind m h.
          elim (kinds kind op.kind) [
            | inl own ↦
                let at_end : length xs ≡ m = same_Some (length xs) m
                (sym (slot_of-with_same p op.kind number)
                ∙ subst (λ (k : OpKind). slot_of (with_slot p op.kind number) k ≡ Some m) own h) in
                rw (get_or_push xs (Some op) None m at_end, own) new
            | inr other ↦ pending-still xs (Some op) c kind m
                (is_listed.listed c kind m (sym (slot_of-with_other p op.kind kind number other) ∙ h))
          ];
      all = λ kind m h.
          elim (pending-pushed xs (Some op) c kind m h) [
            | inl last ↦ rw (last.0, sym (pending-parts c kind op last.1).same) (slot_of-with_same p op.kind number)
            | inr old ↦
                elim (kinds kind op.kind) [
                  | inl own ↦ absurd (free m (subst (λ (k : OpKind). IsPendingAs f c k m) own old.1))
                  | inr other ↦ slot_of-with_other p op.kind kind number other ∙ is_listed.all c kind m old.1
                ]
          ];
    })
    (λ d kind m differ h. pending-still xs (Some op) d kind m h)
    (λ d kind m differ h.
    elim (pending-pushed xs (Some op) d kind m h) [
      | inl last ↦ absurd
          (differ (sym (pending-parts d kind op last.1).chan ∙ (pending-parts c op.kind op new).chan))
      | inr old ↦ old.1
    ])

pub new-not_connecting : (kind : GKind) → new_endpoint kind ≡ Stream Connecting → ⊥
new-not_connecting gkind.Stream e = cc
new-not_connecting gkind.Listener e = cc

-- the slots of a channel change, and the same operations are pending
pub listed-same : (f : Flight) (ps : List slots.Pending) (c : ℕ) (p : slots.Pending) → IsListed f ps → c < length ps
    → ((kind : OpKind) → slot_of p kind ≡ slot_of (get_or ps c nothing_pending) kind) → IsListed f (set ps c p)
listed-same f ps c p is_listed within same =
    listed-channel f f ps c p is_listed within
    (record {
      listed = λ kind n h. is_listed.listed c kind n (sym (same kind) ∙ h);
      all = λ kind n h. same kind ∙ is_listed.all c kind n h;
    })
    (λ d kind n differ h. h)
    (λ d kind n differ h. h)

pub set-set : {X : Type 0} (xs : List X) (i : ℕ) (x y : X) → set (set xs i x) i y ≡ set xs i y
set-set {X} [] i x y = refl
set-set {X} (z ∷ xs) zero x y = refl
set-set {X} (z ∷ xs) (suc i) x y = ap (λ (ys : List X). z ∷ ys) (set-set xs i x y)

-- how many are in flight says nothing of which are pending
pub slot_of-counted : (p : slots.Pending) (count : ℕ) (kind : OpKind)
    → slot_of (record p { in_flight = count }) kind ≡ slot_of p kind
slot_of-counted p count Accept = refl
slot_of-counted p count Connect = refl
slot_of-counted p count Read = refl
slot_of-counted p count Write = refl

pub with_slot-counted : (p : slots.Pending) (count : ℕ) (kind : OpKind) (n : Option ℕ)
    → with_slot (record p { in_flight = count }) kind n ≡ record (with_slot p kind n) { in_flight = count }
with_slot-counted p count Accept n = refl
with_slot-counted p count Connect n = refl
with_slot-counted p count Read n = refl
with_slot-counted p count Write n = refl

pub with_slot-in_flight : (p : slots.Pending) (kind : OpKind) (n : Option ℕ) → (with_slot p kind n).in_flight ≡ p.in_flight
with_slot-in_flight p Accept n = refl
with_slot-in_flight p Connect n = refl
with_slot-in_flight p Read n = refl
with_slot-in_flight p Write n = refl

-- what is kept of a group, but for how many operations of each channel are in flight
pub record IsKeptBut (f : Flight) (cs : List Channel) (ps : List slots.Pending) (o : ℕ) (sh : Bool) (l : GroupLimits)
    (r r' : ℕ) : Type 0 where
  pub lawful : IsLawful (group_of f cs sh l)
  pub fit : IsFit l
  pub same_limit : f.limit ≡ l.flight
  pub opened_is : o ≡ count_by is_open cs
  pub slots : length ps ≡ length cs
  pub is_listed : IsListed f ps
  pub has_room : l.channels ≤ r
  pub has_slots_room : l.channels ≤ r'

-- the operations change, and no channel
pub kept-unlisted : {f : Flight} {cs : List Channel} {ps : List slots.Pending} {o r r' : ℕ} {sh : Bool}
    {l : GroupLimits} (f' : Flight)
    → IsGroupKept f cs ps o sh l r r' → IsLawful (group_of f' cs sh l) → f'.limit ≡ f.limit → IsListed f' ps
    → IsKeptBut f' cs ps o sh l r r'
kept-unlisted f' kept lawful limit is_listed =
    record {
      lawful = lawful;
      fit = kept.fit;
      same_limit = limit ∙ kept.same_limit;
      opened_is = kept.opened_is;
      slots = kept.slots;
      is_listed = is_listed;
      has_room = kept.has_room;
      has_slots_room = kept.has_slots_room;
    }

-- and then how many of one channel are
pub kept-slots : {f : Flight} {cs : List Channel} {ps : List slots.Pending} {o r r' : ℕ} {sh : Bool} {l : GroupLimits}
    (c : ℕ) (p : slots.Pending)
    → IsKeptBut f cs ps o sh l r r' → ((kind : OpKind) → slot_of p kind ≡ slot_of (get_or ps c nothing_pending) kind)
    → c < length ps → AreCounted f cs (set ps c p) → IsGroupKept f cs (set ps c p) o sh l r r'
kept-slots {f} {cs} {ps} c p kept same within counted =
    record {
      lawful = kept.lawful;
      fit = kept.fit;
      same_limit = kept.same_limit;
      opened_is = kept.opened_is;
      slots = length-set ps c p ∙ kept.slots;
      is_listed = listed-same f ps c p kept.is_listed within same;
      are_counted = counted;
      has_room = kept.has_room;
      has_slots_room = kept.has_slots_room;
    }
