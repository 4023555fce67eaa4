-- What a start that isn't refused keeps.
use Rattle.std.proofs.Common.{◌≡◌, ℕ, ◌+◌, ◌^◌, ◌<◌, Bool, true, false, cond, eqb, List, [], ◌∷◌, ◌++◌, Option, Some, None}
use Rattle.std.proofs.Common.{is_some, get_or, set, length, refl, sym, ap, ◌∙◌, subst, arith, inl, inr}
use Rattle.std.specs.Option.{option_or}
use Rattle.std.proofs.lemmas.Bool.{false≢true, eqb-false, and_parts}
use Rattle.std.proofs.lemmas.List.{length_push, length-set, set-get_or, get_or_push, get_or_read, get_or-set_same}
use Rattle.std.proofs.lemmas.List.Folds.{list_any_at}
use Rattle.nio_group.specs.declared.channel.Channel.{Channel}
use Rattle.nio_group.specs.declared.channel.Endpoint.{Endpoint}
use Rattle.nio_group.specs.declared.channel.Endpoint.TheVariants.{Stream, Listener}
use Rattle.nio_group.specs.declared.channel.Link.TheVariants.{Unconnected, Connecting, Connected}
use Rattle.nio_base.specs.declared.group.OpKind.{OpKind}
use Rattle.nio_base.specs.declared.group.OpKind.TheVariants.{Accept, Connect, Read, Write}
use Rattle.nio_group.specs.declared.operation.Stage.{Stage}
use Rattle.nio_group.specs.declared.operation.Stage.TheVariants.{Pending, Queued, Running}
use Rattle.nio_group.specs.declared.operation.Operation.{Operation}
use Rattle.nio_group.specs.declared.limits.GroupLimits.{GroupLimits}
use Rattle.nio_group.specs.declared.pending.Pending as slots
use Rattle.nio_group.specs.Pending.{with_slot, with_one_more, nothing_pending}
use Rattle.nio_group.specs.GroupKept.{IsGroupKept, IsListed, AreCounted, group_of}
use Rattle.nio_group.specs.Stages.{is_on, is_pending, is_pending_as, stage_is_pending}
use Rattle.nio_base.specs.declared.numbers.GChan.{GChan}
use Rattle.nio_group.specs.Flight.{Flight, accepted, in_flight, in_flight_on, IsPendingAs, with_accepted}
use Rattle.nio_group.specs.Group.{Group, IsLawful, IsMade, channel_at, no_channel, is_ready_for, is_terminated}
use Rattle.nio_group.specs.Group.{is_open, is_present}
use Rattle.nio_group.specs.Refusals.{channel_refusal, limit_refusal, start_refusal, has_pending}
use Rattle.nio_group.specs.Steps.{first_stage}
use Rattle.nio_group.proofs.ListLemmas.{count_by-push}
use Rattle.nio_group.proofs.QueueLemmas.{QueueHolds, queue-push}
use Rattle.nio_group.proofs.PendingLemmas.{pending-parts, not_pending-as, pending-own}
use Rattle.nio_group.proofs.LawfulLemmas.{IsFlightLawful, lawful-channel, lawful-operations}
use Rattle.nio_group.proofs.GroupLemmas.{pending-pushed, pending-still, pending-within, kept-channel}
use Rattle.nio_group.proofs.GroupLemmas.{listed-started, listed-same, set-set, slot_of-counted, with_slot-counted}
use Rattle.nio_group.proofs.GroupLemmas.{with_slot-in_flight, kept-unlisted, kept-slots}
use Rattle.nio_group.proofs.NameLemmas.{of-channels, of-channel, of-pushed, name_in, name-set, on-own, on-other}
use Rattle.nio_group.proofs.NameLemmas.{count-few, counted-channel}
use Rattle.std.proofs.Math.Numerals.{lt_of_le_of_ne}

pub some_none : {T : Type 0} (x : T) → Some x ≡ None → ⊥
some_none x e = cc

-- the endpoint of a channel once an operation of this kind was started on it
abbrev pub endpoint_after : Endpoint → OpKind → Endpoint
endpoint_after e Accept = e
endpoint_after e Connect = Stream Connecting
endpoint_after e Read = e
endpoint_after e Write = e

-- what is known of an open channel that doesn't refuse an operation
pub record IsAllowed (e : Endpoint) (pending : Bool) (kind : OpKind) : Type 0 where
  pub ready : is_ready_for (endpoint_after e kind) kind ≡ true
  pub others : (k : OpKind) → is_ready_for e k ≡ true → is_ready_for (endpoint_after e kind) k ≡ true
  pub free : is_ready_for e kind ≡ true → pending ≡ false
  pub connects : endpoint_after e kind ≡ Stream Connecting → kind ≡ Connect

unconnected : (kind : OpKind) → is_ready_for (Stream Unconnected) kind ≡ true → ⊥
unconnected Accept ready = false≢true ready
unconnected Connect ready = false≢true ready
unconnected Read ready = false≢true ready
unconnected Write ready = false≢true ready

pub allowed : (e : Endpoint) (pending : Bool) (kind : OpKind) → channel_refusal true e pending kind ≡ None
    → IsAllowed e pending kind
allowed (Listener true) true Accept h = absurd (some_none _ h)
allowed (Listener true) false Accept h =
    record { ready = refl; others = λ k r. r; free = λ r. refl; connects = λ c. cc }
allowed (Listener false) pending Accept h = absurd (some_none _ h)
allowed (Listener bound) pending Connect h = absurd (some_none _ h)
allowed (Listener bound) pending Read h = absurd (some_none _ h)
allowed (Listener bound) pending Write h = absurd (some_none _ h)
allowed (Stream link) pending Accept h = absurd (some_none _ h)
allowed (Stream Unconnected) pending Connect h =
    record {
      ready = refl;
      others = λ k r. absurd (unconnected k r);
      free = λ r. absurd (false≢true r);
      connects = λ c. refl;
    }
allowed (Stream Connecting) pending Connect h = absurd (some_none _ h)
allowed (Stream Connected) pending Connect h = absurd (some_none _ h)
allowed (Stream Unconnected) pending Read h = absurd (some_none _ h)
allowed (Stream Connecting) pending Read h = absurd (some_none _ h)
allowed (Stream Connected) true Read h = absurd (some_none _ h)
allowed (Stream Connected) false Read h =
    record { ready = refl; others = λ k r. r; free = λ r. refl; connects = λ c. cc }
allowed (Stream Unconnected) pending Write h = absurd (some_none _ h)
allowed (Stream Connecting) pending Write h = absurd (some_none _ h)
allowed (Stream Connected) true Write h = absurd (some_none _ h)
allowed (Stream Connected) false Write h =
    record { ready = refl; others = λ k r. r; free = λ r. refl; connects = λ c. cc }

option_or-none : {T : Type 0} (a b : Option T) → option_or a b ≡ None → (a ≡ None) × (b ≡ None)
option_or-none None b h = (refl, h)
option_or-none (Some x) b h = absurd (some_none x h)

pub cond-none : {T : Type 0} (b : Bool) (x : T) (y : Option T) → cond b (Some x) y ≡ None → (b ≡ false) × (y ≡ None)
cond-none true x y h = absurd (some_none x h)
cond-none false x y h = (refl, h)

-- what is known where a start isn't refused
pub record IsStartable (g : Group) (chan : GChan) (kind : OpKind) : Type 0 where
  pub not_terminated : is_terminated g ≡ false
  pub channel : channel_refusal (is_open g chan) (channel_at g chan.number).endpoint
      (has_pending g.flight chan.number kind) kind
      ≡ None
  pub room : in_flight g.flight < g.flight.limit
  pub numbers : accepted g.flight < g.op_limit

pub startable : (g : Group) (chan : GChan) (kind : OpKind) → IsLawful g → start_refusal g chan kind ≡ None
    → IsStartable g chan kind
startable g chan kind lawful h =
    let going = cond-none (is_terminated g) _ _ h in
    let parts = option_or-none
    (channel_refusal (is_open g chan) (channel_at g chan.number).endpoint (has_pending g.flight chan.number kind) kind)
    (limit_refusal g) going.1 in
    let numbers = cond-none (eqb (accepted g.flight) g.op_limit) _ _ parts.1 in
    let room = cond-none (eqb (in_flight g.flight) g.flight.limit) _ _ numbers.1 in
    record {
      not_terminated = going.0;
      channel = parts.0;
      room = lt_of_le_of_ne lawful.few_in_flight (eqb-false (in_flight g.flight) g.flight.limit room.0);
      numbers = lt_of_le_of_ne lawful.few_accepted (eqb-false (accepted g.flight) g.op_limit numbers.0);
    }

-- nothing of a kind is pending where nothing is found
pub none-pending : (f : Flight) (c : ℕ) (kind : OpKind) → has_pending f c kind ≡ false → (n : ℕ)
    → IsPendingAs f c kind n → ⊥
none-pending f c kind none n h =
    false≢true
    (sym none ∙ list_any_at (is_pending_as c kind) f.operations n None (pending-within f.operations c kind n h) h)

pub pending-open : (is_open : Bool) (kind : OpKind) (len : ℕ) → first_stage is_open kind len ≡ Pending → is_open ≡ true
pending-open true kind len h = refl
pending-open false kind len h = cc

pub flight-accepts : (f : Flight) (op : Operation) (op_limit : ℕ) → QueueHolds f.operations f.queue
    → in_flight f < f.limit → accepted f < op_limit → IsFlightLawful (with_accepted f op) op_limit
flight-accepts f op op_limit holds room numbers =
    record {
      queued_once = queue-push f.operations f.queue (Some op) holds;
      few_in_flight = omega (arith, count_by-push is_some f.operations (Some op));
      few_accepted = omega (arith, length_push f.operations (Some op));
    }

-- nothing of the kind is pending before
pub start-free : (g : Group) (c : ℕ) (kind : OpKind) → IsLawful g
    → IsAllowed (channel_at g c).endpoint (has_pending g.flight c kind) kind → (n : ℕ) → IsPendingAs g.flight c kind n
    → ⊥
start-free g c kind lawful allow n h =
    none-pending g.flight c kind (allow.free (lawful.pending_ready n c kind h)) n h

-- what is known of a channel that is open by its name
pub open-parts : (g : Group) (chan : GChan) → is_open g chan ≡ true
    → (is_present g chan ≡ true) × ((channel_at g chan.number).is_open ≡ true)
open-parts g chan opened = and_parts (is_present g chan) (channel_at g chan.number).is_open opened

-- the group after an operation that is pending was started
pub lawful-started : (g : Group) (op : Operation) → IsLawful g → IsMade g op.chan → op.stage ≡ Pending
    → is_open g op.chan ≡ true
    → IsAllowed (channel_at g op.chan.number).endpoint (has_pending g.flight op.chan.number op.kind) op.kind
    → in_flight g.flight < g.flight.limit → accepted g.flight < g.op_limit
    → IsLawful
    (record g {
      flight = with_accepted g.flight op;
      channels =
          set g.channels op.chan.number
          (record (channel_at g
          op.chan.number) { endpoint = endpoint_after (channel_at g op.chan.number).endpoint op.kind });
    })
lawful-started g op lawful made is_pending_op opened allow room numbers =
    let c = op.chan.number in
    let xs = g.flight.operations in
    let within = made.0 in
    let now = open-parts g op.chan opened in
    let ch : Channel = record (channel_at g c) { endpoint = endpoint_after (channel_at g c).endpoint op.kind } in
    let new = pending-own op (rw is_pending_op refl) in
    let free = start-free g c op.kind lawful allow in
    lawful-channel g (with_accepted g.flight op) c ch lawful within
    (flight-accepts g.flight op g.op_limit lawful.queued_once room numbers)
    (of-channel (xs ++ Some op ∷ []) g.channels c ch within (omega arith) (λ n o at pending there. refl)
    (of-pushed xs g.channels op made (λ pending. now.0) (of-channels g lawful)))
    (record {
      open_for = λ kind n h. now.1;
      ready_for = λ kind n h.
          elim (pending-pushed xs (Some op) c kind n h) [
            | inl own ↦ let parts =
                pending-parts c kind op own.1 in
                subst (λ (k : OpKind). is_ready_for (endpoint_after (channel_at g c).endpoint op.kind) k ≡ true)
                parts.same allow.ready
            | inr old ↦ allow.others kind (lawful.pending_ready n c kind old.1)
          ];
      once_for = λ kind m n a b.
          elim (pending-pushed xs (Some op) c kind m a) [
            | inl own ↦
                elim (pending-pushed xs (Some op) c kind n b) [
                  | inl own' ↦ own.0 ∙ sym own'.0
                  | inr old ↦ let parts =
                      pending-parts c kind op own.1 in
                      absurd (free n (subst (λ (k : OpKind). IsPendingAs g.flight c k n) (sym parts.same) old.1))
                ]
            | inr old ↦
                elim (pending-pushed xs (Some op) c kind n b) [
                  | inl own ↦ let parts =
                      pending-parts c kind op own.1 in
                      absurd (free m (subst (λ (k : OpKind). IsPendingAs g.flight c k m) (sym parts.same) old.1))
                  | inr old' ↦ lawful.one_each m n c kind old.1 old'.1
                ]
          ];
      connects = λ o is.
          let kind_is = allow.connects is in
          (length xs, rw get_or_push_here (subst (λ (k : OpKind). is_pending_as c k (Some op) ≡ true) kind_is new));
    })
    (λ d kind n differ h.
    elim (pending-pushed xs (Some op) d kind n h) [
      | inl own ↦ let parts = pending-parts d kind op own.1 in absurd (differ (sym parts.chan))
      | inr old ↦ old.1
    ])
    (λ d n differ h. pending-still xs (Some op) d Connect n h)
  where
    get_or_push_here : get_or (g.flight.operations ++ Some op ∷ []) (length g.flight.operations) None ≡ Some op
    get_or_push_here = get_or_push g.flight.operations (Some op) None (length g.flight.operations) refl

-- the group after an operation that is queued at once was started
pub lawful-queued : (g : Group) (op : Operation) → IsLawful g → IsMade g op.chan → is_pending (Some op) ≡ false
    → in_flight g.flight < g.flight.limit → accepted g.flight < g.op_limit
    → IsLawful (record g { flight = with_accepted g.flight op })
lawful-queued g op lawful made not_pending room numbers =
    let xs = g.flight.operations in
    lawful-operations g (with_accepted g.flight op) lawful
    (flight-accepts g.flight op g.op_limit lawful.queued_once room numbers)
    (of-pushed xs g.channels op made (λ pending. absurd (false≢true (sym not_pending ∙ pending)))
    (of-channels g lawful))
    (λ c kind n h.
    elim (pending-pushed xs (Some op) c kind n h) [
      | inl own ↦ absurd (false≢true (sym (not_pending-as c kind (Some op) not_pending) ∙ own.1))
      | inr old ↦ old.1
    ])
    (λ c n h. pending-still xs (Some op) c Connect n h)

-- the slots of a channel, where one more operation of it is counted
listed-counted : (f : Flight) (ps : List slots.Pending) (c : ℕ) (p : slots.Pending) (count : ℕ) (kind : OpKind)
    (n : Option ℕ) → IsListed f (set ps c (with_slot p kind n)) → c < length ps
    → IsListed f (set ps c (with_slot (record p { in_flight = count }) kind n))
listed-counted f ps c p count kind n is_listed within =
    let q : slots.Pending = with_slot (record p { in_flight = count }) kind n in
    let there : get_or (set ps c (with_slot p kind n)) c nothing_pending ≡ with_slot p kind n =
    get_or-set_same ps c (with_slot p kind n) nothing_pending within in
    rw (set-set ps c (with_slot p kind n) q) at
    (listed-same f (set ps c (with_slot p kind n)) c q is_listed (omega (arith, length-set ps c (with_slot p kind n)))
    (λ k. rw (there, with_slot-counted p count kind n) (slot_of-counted (with_slot p kind n) count k)))

more-by : (n : ℕ) (counts : Bool) → cond counts (n + 1) n ≡ n + cond counts 1 0
more-by n true = refl
more-by n false = omega arith

-- one more operation of its channel is counted
counted-accepted : (f : Flight) (cs cs' : List Channel) (ps : List slots.Pending) (op : Operation) (p : slots.Pending)
    → op.chan.number < length ps → ((d : ℕ) → name_in cs' d ≡ name_in cs d)
    → p.in_flight
    ≡ (with_one_more (get_or ps op.chan.number nothing_pending)
    (eqb (get_or cs op.chan.number no_channel).serial op.chan.serial)).in_flight
    → AreCounted f cs ps → AreCounted (with_accepted f op) cs' (set ps op.chan.number p)
counted-accepted f cs cs' ps op p within names more counted =
    let c = op.chan.number in
    let xs = f.operations in
    let b = eqb (get_or cs c no_channel).serial op.chan.serial in
    counted-channel f (with_accepted f op) cs cs' ps c p within
    (λ d differ.
    let other = rw (on-other cs d op differ) at (count_by-push (is_on (name_in cs d)) xs (Some op)) in
    rw (names d) (omega (arith, other)))
    (more
    ∙ more-by (get_or ps c nothing_pending).in_flight b
    ∙ ap (λ (k : ℕ). k + cond b 1 0) (counted c)
    ∙ sym (rw (on-own cs op) at (count_by-push (is_on (name_in cs c)) xs (Some op)))
    ∙ ap (λ (chan : GChan). in_flight_on (with_accepted f op) chan) (sym (names c)))
    counted

-- the group as it is kept, after an operation that is pending was started
pub kept-started : {f : Flight} {cs : List Channel} {ps : List slots.Pending} {o r r' : ℕ} {sh : Bool} {l : GroupLimits}
    (op : Operation) (x : Channel) (p : slots.Pending) (n : ℕ) (opened : Bool) → IsGroupKept f cs ps o sh l r r'
    → IsMade (group_of f cs sh l) op.chan → x ≡ get_or cs op.chan.number x → p ≡ get_or ps op.chan.number p
    → n ≡ length f.operations → start_refusal (group_of f cs sh l) op.chan op.kind ≡ None → op.stage ≡ Pending
    → op.stage ≡ first_stage opened op.kind op.len → opened ≡ is_open (group_of f cs sh l) op.chan
    → IsGroupKept (with_accepted f op)
    (set cs op.chan.number (record x { endpoint = endpoint_after x.endpoint op.kind }))
    (set ps op.chan.number (with_slot (with_one_more p (eqb x.serial op.chan.serial)) op.kind (Some n))) o sh l r r'
kept-started {f} {cs} {ps} {o} {r} {r'} {sh} {l} op x p n opened kept made_chan read read_slot number allowed_start
    is_pending_op stage is_opened =
    let c = op.chan.number in
    let within = made_chan.0 in
    let g : Group = group_of f cs sh l in
    let facts = startable g op.chan op.kind kept.lawful allowed_start in
    let slots_are = kept.slots in
    let is : x ≡ get_or cs c no_channel = get_or_read cs c x within read no_channel in
    let is_slot : p ≡ get_or ps c nothing_pending = get_or_read ps c p (omega arith) read_slot nothing_pending in
    let open_there : is_open g op.chan ≡ true = sym is_opened ∙ pending-open opened op.kind op.len
    (sym stage ∙ is_pending_op) in
    let refused = rw open_there at facts.channel in
    let allow = allowed (get_or cs c no_channel).endpoint (has_pending f c op.kind) op.kind refused in
    let lawful = lawful-started g op kept.lawful made_chan is_pending_op open_there allow facts.room facts.numbers in
    let free = start-free g c op.kind kept.lawful allow in
    let ch : Channel = record (get_or cs c no_channel) {
      endpoint = endpoint_after (get_or cs c no_channel).endpoint op.kind;
    } in
    let slot : slots.Pending = with_slot
    (with_one_more (get_or ps c nothing_pending) (eqb (get_or cs c no_channel).serial op.chan.serial)) op.kind
    (Some (length f.operations)) in
    let before = listed-started f ps op c kept.is_listed (omega arith) (pending-own op (rw is_pending_op refl)) free in
    let made = kept-channel (with_accepted f op) c ch slot o kept within lawful refl refl
    (listed-counted (with_accepted f op) ps c (get_or ps c nothing_pending) _ op.kind (Some (length f.operations)) before
    (omega arith))
    (counted-accepted f cs (set cs c ch) ps op slot (omega arith) (λ d. name-set cs c ch d within refl)
    (with_slot-in_flight
    (with_one_more (get_or ps c nothing_pending) (eqb (get_or cs c no_channel).serial op.chan.serial)) op.kind
    (Some (length f.operations))) kept.are_counted) in
    rw (is, is_slot, number) made

-- the same where no channel changes
pub kept-started-same : {f : Flight} {cs : List Channel} {ps : List slots.Pending} {o r r' : ℕ} {sh : Bool}
    {l : GroupLimits} (op : Operation) (x : Channel) (p : slots.Pending) (n : ℕ) (opened : Bool)
    → IsGroupKept f cs ps o sh l r r' → IsMade (group_of f cs sh l) op.chan → x ≡ get_or cs op.chan.number x
    → p ≡ get_or ps op.chan.number p → n ≡ length f.operations
    → start_refusal (group_of f cs sh l) op.chan op.kind ≡ None → op.stage ≡ Pending
    → op.stage ≡ first_stage opened op.kind op.len → opened ≡ is_open (group_of f cs sh l) op.chan
    → (op.kind ≡ Connect → ⊥)
    → IsGroupKept (with_accepted f op) cs
    (set ps op.chan.number (with_slot (with_one_more p (eqb x.serial op.chan.serial)) op.kind (Some n))) o sh l r r'
kept-started-same {f} {cs} {ps} {o} {r} {r'} {sh} {l} op x p n opened kept made_chan read read_slot number allowed_start
    is_pending_op stage is_opened other =
    let made = kept-started op x p n opened kept made_chan read read_slot number allowed_start is_pending_op stage
    is_opened in
    let same : set cs op.chan.number (record x { endpoint = endpoint_after x.endpoint op.kind }) ≡ cs =
    ap (λ (e : Endpoint). set cs op.chan.number (record x { endpoint = e })) (endpoint_same x.endpoint op.kind other)
    ∙ ap (set cs op.chan.number) read
    ∙ set-get_or cs op.chan.number x in
    subst (λ (xs : List Channel). IsGroupKept (with_accepted f op) xs
    (set ps op.chan.number (with_slot (with_one_more p (eqb x.serial op.chan.serial)) op.kind (Some n)))
    o sh l r r') same made
  where
    endpoint_same : (e : Endpoint) (kind : OpKind) → (kind ≡ Connect → ⊥) → endpoint_after e kind ≡ e
    endpoint_same e Accept h = refl
    endpoint_same e Connect h = absurd (h refl)
    endpoint_same e Read h = refl
    endpoint_same e Write h = refl

-- the slots after an operation was put after the others that isn't pending
pub listed-queued : (f : Flight) (ps : List slots.Pending) (op : Operation) → IsListed f ps
    → is_pending (Some op) ≡ false → IsListed (with_accepted f op) ps
listed-queued f ps op is_listed not_pending =
    record {
      listed = λ c kind n h. pending-still f.operations (Some op) c kind n (is_listed.listed c kind n h);
      all = λ c kind n h.
          elim (pending-pushed f.operations (Some op) c kind n h) [
            | inl own ↦ absurd (false≢true (sym (not_pending-as c kind (Some op) not_pending) ∙ own.1))
            | inr old ↦ is_listed.all c kind n old.1
          ];
    }

pub not_pending-stage : (op : Operation) → (op.stage ≡ Pending → ⊥) → is_pending (Some op) ≡ false
not_pending-stage op h = by_stage op.stage h
  where
    by_stage : (stage : Stage) → (stage ≡ Pending → ⊥) → stage_is_pending stage ≡ false
    by_stage Pending not = absurd (not refl)
    by_stage (Queued finished) not = refl
    by_stage Running not = refl

-- after an operation that is queued at once was started
pub kept-queued : {f : Flight} {cs : List Channel} {ps : List slots.Pending} {o r r' : ℕ} {sh : Bool} {l : GroupLimits}
    (op : Operation) (x : Channel) (p : slots.Pending)
    → IsGroupKept f cs ps o sh l r r' → IsMade (group_of f cs sh l) op.chan → x ≡ get_or cs op.chan.number x
    → p ≡ get_or ps op.chan.number p → start_refusal (group_of f cs sh l) op.chan op.kind ≡ None
    → (op.stage ≡ Pending → ⊥)
    → IsGroupKept (with_accepted f op) cs
    (set ps op.chan.number (with_one_more p (eqb x.serial op.chan.serial))) o sh l r r'
kept-queued {f} {cs} {ps} {o} {r} {r'} {sh} {l} op x p kept made read read_slot allowed_start not =
    let g : Group = group_of f cs sh l in
    let c = op.chan.number in
    let slots_are = kept.slots in
    let is : x ≡ get_or cs c no_channel = get_or_read cs c x made.0 read no_channel in
    let is_slot : p ≡ get_or ps c nothing_pending = get_or_read ps c p (omega (arith, made.0)) read_slot nothing_pending
    in
    let facts = startable g op.chan op.kind kept.lawful allowed_start in
    let not_pending = not_pending-stage op not in
    let more : slots.Pending = with_one_more (get_or ps c nothing_pending)
    (eqb (get_or cs c no_channel).serial op.chan.serial) in
    rw (is, is_slot)
    (kept-slots c more
    (kept-unlisted (with_accepted f op) kept
    (lawful-queued g op kept.lawful made not_pending facts.room facts.numbers) refl
    (listed-queued f ps op kept.is_listed not_pending))
    (λ kind. slot_of-counted (get_or ps c nothing_pending) more.in_flight kind) (omega (arith, made.0))
    (counted-accepted f cs cs ps op more (omega (arith, made.0)) (λ d. refl) refl kept.are_counted))

-- there is room where a start isn't refused
pub start-room : {f : Flight} {cs : List Channel} {ps : List slots.Pending} {o r r' : ℕ} {sh : Bool} {l : GroupLimits}
    (chan : GChan) (kind : OpKind)
    → IsGroupKept f cs ps o sh l r r' → start_refusal (group_of f cs sh l) chan kind ≡ None
    → (in_flight f < f.limit) × (accepted f < 2 ^ 62)
start-room {f} {cs} {ps} {o} {r} {r'} {sh} {l} chan kind kept allowed_start =
    let facts = startable (group_of f cs sh l) chan kind kept.lawful allowed_start in
    let numbers = facts.numbers in
    let fit = kept.fit.few_ops in
    (facts.room, omega arith)

-- fewer operations of a channel are in flight than fit
pub start-few : {f : Flight} {cs : List Channel} {ps : List slots.Pending} {o r r' : ℕ} {sh : Bool} {l : GroupLimits}
    (c : ℕ) (p : slots.Pending)
    → IsGroupKept f cs ps o sh l r r' → c < length cs → p ≡ get_or ps c p → in_flight f < f.limit
    → p.in_flight < 65536
start-few {f} {cs} {ps} {l = l} c p kept within read room =
    let slots_are = kept.slots in
    let is_slot : p ≡ get_or ps c nothing_pending = get_or_read ps c p (omega arith) read nothing_pending in
    let count = ap (λ (q : slots.Pending). q.in_flight) is_slot ∙ kept.are_counted c in
    let few = count-few (name_in cs c) f.operations in
    let limit = kept.same_limit in
    let fit = kept.fit.few_flight in
    omega arith

-- the same where the operation is a connect
pub kept-started-connect : {f : Flight} {cs : List Channel} {ps : List slots.Pending} {o r r' : ℕ} {sh : Bool}
    {l : GroupLimits} (op : Operation) (x : Channel) (p : slots.Pending) (n : ℕ) (opened : Bool)
    → IsGroupKept f cs ps o sh l r r' → IsMade (group_of f cs sh l) op.chan → x ≡ get_or cs op.chan.number x
    → p ≡ get_or ps op.chan.number p → n ≡ length f.operations
    → start_refusal (group_of f cs sh l) op.chan op.kind ≡ None → op.stage ≡ Pending
    → op.stage ≡ first_stage opened op.kind op.len → opened ≡ is_open (group_of f cs sh l) op.chan
    → op.kind ≡ Connect
    → IsGroupKept (with_accepted f op) (set cs op.chan.number (record x { endpoint = Stream Connecting }))
    (set ps op.chan.number (with_slot (with_one_more p (eqb x.serial op.chan.serial)) op.kind (Some n))) o sh l r r'
kept-started-connect {f} {cs} {ps} {o} {r} {r'} {sh} {l} op x p n opened kept made read read_slot number allowed_start
    is_pending_op stage is_opened connect =
    subst (λ (e : Endpoint). IsGroupKept (with_accepted f op) (set cs op.chan.number (record x { endpoint = e }))
    (set ps op.chan.number (with_slot (with_one_more p (eqb x.serial op.chan.serial)) op.kind (Some n))) o sh l r r')
    (ap (endpoint_after x.endpoint) connect)
    (kept-started op x p n opened kept made read read_slot number allowed_start is_pending_op stage is_opened)
