-- One connection changes, and the others stay.
use Rattle.std.proofs.Common.{◌≡◌, ◌≢◌, ℕ, ◌+◌, ◌-◌, ◌^◌, ◌<◌, ◌≤◌, ◌⊎◌, inl, inr, Bool, true, false, IsTrue}
use Rattle.std.proofs.Common.{IsFalse, Option, Some, None, IsSome, is_some, List, [], ◌∷◌, ◌++◌, length, slice_get}
use Rattle.std.proofs.Common.{refl, sym, ap, subst, ◌∙◌, arith, append_assoc, length-append}
use Rattle.std.specs.Prelude.{All, AllPairs, Contains, count_by, option_map, slice_index_or}
use Rattle.std.proofs.Math.Path.{subst₂}
use Rattle.std.proofs.lemmas.Bool.{both_ways, cases_eq, cases_lt}
use Rattle.std.proofs.lemmas.List.Elements.{All-push, Contains-append_left, Contains-push}
use Rattle.std.proofs.lemmas.List.Quantifiers.{all_pairs_push}
use Rattle.std.proofs.lemmas.Option.{get_or_from_slice_get, slice_get_within}
use Rattle.nio_base.specs.declared.numbers.Addr.{Addr}
use Rattle.nio_base.specs.declared.numbers.ChanId.{ChanId}
use Rattle.nio_bytes.specs.Cause.{Rose}
use Rattle.nio_link.specs.Links.{Link, IsSameBut, IsUnused}
use Rattle.nio_link.specs.Nets.{Members}
use Rattle.nio_link.specs.Places.{channel, never_asked, IsFree, IsVacant}
use Rattle.nio_link.specs.declared.place.Place.{Place}
use Rattle.nio_link.specs.declared.place.Role.{Role}
use Rattle.nio_board.specs.declared.board.Port.{Port}
use Rattle.nio_serve.specs.Changes.{AreOfOnePlan, Frees, IsNextSlot, NoneMoved, Occupies}
use Rattle.nio_serve.specs.Changes.{PutsBack, TakesOut, begun as begun_slot, emptied}
use Rattle.nio_serve.specs.Nets.{Accepts, Begins, FailsToAccept, IsQuiet, Works}
use Rattle.nio_serve.specs.Passing.{BothSame, OneRose}
use Rattle.nio_serve.specs.Relaying.{carried, IsTarget, IsUnasked}
use Rattle.nio_serve.specs.Serving.{HasFaulted, IsUnfaulted, IsUntouched, listener, target_of}
use Rattle.nio_serve.specs.Slots.{AreConnections, AreServed, AreSlots, AreUntouched, IsClient, ListensAt, Serving}
use Rattle.nio_serve.specs.Slots.{StandsAs, client_at, slot_of, status_at, status_of, target_at}
use Rattle.nio_serve.specs.Statuses.{HasRoles, IsStatus, IsStatusOf, has_ended, has_faulted, status_after}
use Rattle.nio_serve.specs.Statuses.{Live, Over, Status, status_begun}
use Rattle.nio_serve.specs.declared.connections.Connections.{Connections}
use Rattle.nio_serve.specs.declared.relay.Ended.{Ended}
use Rattle.nio_serve.specs.declared.relay.Relay.{Relay}
use Rattle.nio_serve.specs.declared.relay.Ended.TheVariants.{Clean, Faulted, Dropped}
use Rattle.nio_serve.specs.declared.relay.Stage.TheVariants as stage
use Rattle.nio_serve.specs.declared.slot.Slot.{Slot}
use Rattle.nio_serve.proofs.Counts.{count_less, count_one_in, count_push, count_same, one_if}
use Rattle.nio_serve.proofs.Idle.{counted_of, first_idle, put_others, put_slot, slot_of_idle, slot_of_relay}
use Rattle.nio_serve.proofs.Idle.{slots_freed, slots_occupied, slots_put}
use Rattle.nio_serve.proofs.Statuses.{Changes, by_change, changes_put, changes_begun, client_listener, client_target}
use Rattle.nio_serve.proofs.Statuses.{first_client, first_target, past_of, serial_of, slot_at}
use Rattle.nio_serve.proofs.Statuses.{status_idle, status_live, status_over}
use Rattle.nio_serve.proofs.Statuses.{status_past_live, statuses_idle, statuses_live, target_else, target_listener}
use Rattle.nio_serve.proofs.Working.{begins_then, rose_from, rose_on}

-- ---- links and places

-- only these two channels may have changed
abbrev pub IsSameElse : {A : Type 0} → ChanId → ChanId → (ChanId → A) → (ChanId → A) → Type 0
IsSameElse a b before now = (c : ChanId) → c ≢ a → c ≢ b → now c ≡ before c

-- the two channels of another connection
module _ {A : Type 0} (before now : ChanId → A) (j s i t : ℕ)
    (same : IsSameElse (client_at j s) (target_at j s) before now) (other : client_at i t ≢ client_at j s) where
  same_client : now (client_at i t) ≡ before (client_at i t)
  same_client = same (client_at i t) other (client_target i t j s)

  same_target : now (target_at i t) ≡ before (target_at i t)
  same_target = same (target_at i t) (λ at. client_target j s i t (sym at)) (target_else i t j s other)

stands_as : (to : Addr) (o : Option Status) {c0 c1 t0 t1 : Link} {p0 p1 q0 q1 : Place} → c1 ≡ c0 → t1 ≡ t0 → p1 ≡ p0
    → q1 ≡ q0 → StandsAs to o c0 t0 p0 q0 → StandsAs to o c1 t1 p1 q1
stands_as to o {c0} {c1} {t0} {t1} {p0} {p1} {q0} {q1} clients targets at_clients at_targets is =
    subst₂ (λ c t. StandsAs to o c t p1 q1) (sym clients) (sym targets)
    (subst₂ (λ p q. StandsAs to o c0 t0 p q) (sym at_clients) (sym at_targets) is)

pub untouched_as : {l0 l1 : Link} {p0 p1 : Place} → l1 ≡ l0 → p1 ≡ p0 → IsUntouched l0 p0 → IsUntouched l1 p1
untouched_as links places is =
    record { no_bytes = subst IsUnused (sym links) is.no_bytes; unasked = places ∙ is.unasked }

-- ---- faults

pub faulted_on : (before mid now : ChanId → ℕ) (c : ChanId) → ((k : ChanId) → before k ≤ mid k)
    → ((k : ChanId) → mid k ≤ now k) → HasFaulted before mid c → HasFaulted before now c
faulted_on before mid now c first second (inl rose) = inl (rose_on _ _ _ (first c) rose (second c))
faulted_on before mid now c first second (inr rose) =
    inr (rose_on _ _ _ (first (target_of c)) rose (second (target_of c)))

pub faulted_from : (before mid now : ChanId → ℕ) (c : ChanId) → ((k : ChanId) → before k ≤ mid k)
    → HasFaulted mid now c → HasFaulted before now c
faulted_from before mid now c first (inl rose) = inl (rose_from _ _ _ (first c) rose)
faulted_from before mid now c first (inr rose) = inr (rose_from _ _ _ (first (target_of c)) rose)

pub unfaulted_then : (before mid now : ChanId → ℕ) (c : ChanId) → IsUnfaulted before mid c → IsUnfaulted mid now c
    → IsUnfaulted before now c
unfaulted_then before mid now c first second =
    record { client = second.client ∙ first.client; target = second.target ∙ first.target }

false_before : (a b : Bool) → (IsTrue a → IsTrue b) → IsFalse b → IsFalse a
false_before true b lasts is = absurd (both_ways b is (lasts refl))
false_before false b lasts is = refl

-- ---- clients

-- a client of which something stands still is one
client_still : (before now : List Slot) (c : ChanId)
    → (IsSome (status_of before c) → IsSome (status_of now c)) → IsClient before c → IsClient now c
client_still before now c lasts is = record { its = is.its; taken = lasts is.taken }

client_of : (slots : List Slot) (j s : ℕ) → IsSome (status_at slots j s) → IsClient slots (client_at j s)
client_of slots j s taken = record {
  its = ap (λ i. client_at i s) (sym (slot_at j s));
  taken = subst (λ i. IsSome (status_at slots i s)) (sym (slot_at j s)) taken;
}

-- what stands of a client's connection, by its slot and serial
pub status_by : (slots : List Slot) (j s : ℕ) → status_of slots (client_at j s) ≡ status_at slots j s
status_by slots j s = ap (λ i. status_at slots i s) (slot_at j s)

-- the status of a client other than this one is as it was
status_else : (before now : List Slot) (j s : ℕ) (status : Status) (c : ChanId) → Changes before now j s status
    → c ≡ client_at (slot_of c) c.serial → c ≢ client_at j s → status_of now c ≡ status_of before c
status_else before now j s status c changes its other =
    changes.else_ (slot_of c) c.serial (λ same. other (its ∙ same))

-- whether a test holds of a client's connection; of no other channel
abbrev tests : (Option Status → Bool) → List Slot → ChanId → Bool
tests test slots c = test (status_of slots c)

some_lasts : (before now : List Slot) (j s : ℕ) (status : Status) → Changes before now j s status → (i t : ℕ)
    → IsSome (status_at before i t) → IsSome (status_at now i t)
some_lasts before now j s status changes =
    by_change (λ i t o. IsSome (status_at before i t) → IsSome o) changes (λ is. refl) (λ i t other is. is)

-- ---- counts

-- fewer than began, where one is relayed
pub fewer_counted : {link : ChanId → Link} {place : ChanId → Place} {c : Connections} (j s : ℕ) (relay : Relay)
    → AreServed link place c → status_at c.slots.items j s ≡ Some (Live relay)
    → (c.ended + 1 < 2 ^ 32) × (c.faulted + 1 < 2 ^ 32)
fewer_counted {c = c} j s relay served is =
    let has : Contains c.clients (client_at j s) = served.known j s (subst IsSome (sym is) refl) in
    let here : status_of c.slots.items (client_at j s) ≡ Some (Live relay) = status_by c.slots.items j s ∙ is in
    let ended = count_less (λ x. has_ended (status_of c.slots.items x)) (client_at j s) c.clients has
    (ap has_ended here) in
    let faulted = count_less (λ x. has_faulted (status_of c.slots.items x)) (client_at j s) c.clients has
    (ap has_faulted here) in (
      omega (arith, ended, served.ended, served.begun, served.within, served.bound),
      omega (arith, faulted, served.faulted, served.begun, served.within, served.bound),
    )

-- how many clients pass a test, where one changed that didn't pass it
module _ (test : Option Status → Bool) (before now : List Slot) (j s : ℕ) (status : Status) (clients : List ChanId)
    (changes : Changes before now j s status) (all : All (IsClient before) clients) where
  recount : (a b : ℕ) → AllPairs (λ x y. x ≢ y) clients → Contains clients (client_at j s)
      → test (status_at before j s) ≡ false → a ≡ count_by (tests test before) clients → b ≡ a + one_if (test (Some status))
      → b ≡ count_by (tests test now) clients
  recount a b apart has was count more =
      let own = client_at j s in
      let one : count_by (tests test now) clients ≡ count_by (tests test before) clients + one_if (tests test now own) =
      count_one_of apart has was in
      let here : one_if (tests test now own) ≡ one_if (test (Some status)) =
      ap (λ o. one_if (test o)) (status_by now j s ∙ changes.here) in
      omega (arith, more, count, one, here)
    where
      count_one_of : AllPairs (λ x y. x ≢ y) clients → Contains clients (client_at j s)
          → test (status_at before j s) ≡ false → count_by (tests test now) clients
          ≡ count_by (tests test before) clients + one_if (tests test now (client_at j s))
      count_one_of apart has was =
          count_one_in (tests test before) (tests test now) (client_at j s) clients apart has
          (ap test (status_by before j s) ∙ was)
          (λ k d few other. ap test (status_else before now j s status (slice_index_or clients k d) changes
          (all k d few).its other))

  -- where one was added
  recount_more : (a b : ℕ) → status_at before j s ≡ None → a ≡ count_by (tests test before) clients
      → b ≡ a + one_if (test (Some status)) → b ≡ count_by (tests test now) (clients ++ client_at j s ∷ [])
  recount_more a b none count more =
      let own = client_at j s in
      let rest : count_by (tests test now) clients ≡ count_by (tests test before) clients =
      count_same (tests test before) (tests test now) clients
      (λ k d few. ap test (status_else before now j s status (slice_index_or clients k d) changes (all k d few).its
      (λ at. never (status_none (slice_index_or clients k d) at) (all k d few).taken))) in
      let last : one_if (tests test now own) ≡ one_if (test (Some status)) =
      ap (λ o. one_if (test o)) (status_by now j s ∙ changes.here) in
      omega (arith, more, count, rest, last, count_push (tests test now) clients own)
    where
      status_none : (c : ChanId) → c ≡ client_at j s → status_of before c ≡ None
      status_none c at = ap (status_of before) at ∙ (status_by before j s ∙ none)

      never : {o : Option Status} → o ≡ None → IsSome o → ⊥
      never is some = let both : false ≡ true = sym (ap is_some is) ∙ some in absurd (cc)

-- ---- all connections

module _ (j s : ℕ) (status : Status) (link0 link1 : ChanId → Link) (place0 place1 : ChanId → Place)
    (c0 c1 : Connections) (served : AreServed link0 place0 c0)
    (changes : Changes c0.slots.items c1.slots.items j s status) (slots : AreSlots c1)
    (plan : AreOfOnePlan c0 c1) (links : IsSameElse (client_at j s) (target_at j s) link0 link1)
    (places : IsSameElse (client_at j s) (target_at j s) place0 place1)
    (here : IsStatusOf c0.target status (link1 (client_at j s)) (link1 (target_at j s)) (place1 (client_at j s))
    (place1 (target_at j s)))
    (not_ended : has_ended (status_at c0.slots.items j s) ≡ false)
    (not_faulted : has_faulted (status_at c0.slots.items j s) ≡ false)
    (ended : c1.ended ≡ c0.ended + one_if (has_ended (Some status)))
    (faulted : c1.faulted ≡ c0.faulted + one_if (has_faulted (Some status))) where
  connections_change : AreConnections c1.target c1.slots.items link1 place1
  connections_change =
      subst (λ to. AreConnections to c1.slots.items link1 place1) (sym plan.target)
      (by_change
      (λ i t o. StandsAs c0.target o (link1 (client_at i t)) (link1 (target_at i t)) (place1 (client_at i t))
      (place1 (target_at i t))) changes here
      (λ i t other. stands_as c0.target (status_at c0.slots.items i t)
      (same_client link0 link1 j s i t links other) (same_target link0 link1 j s i t links other)
      (same_client place0 place1 j s i t places other) (same_target place0 place1 j s i t places other)
      (served.connections i t)))

  later_change : (t : ℕ) → 1 ≤ t → IsUntouched (link1 (channel listener.number t)) (place1 (channel listener.number t))
  later_change t late =
      untouched_as (links (channel listener.number t) (first_client t j s) (first_target t j s))
      (places (channel listener.number t) (first_client t j s) (first_target t j s)) (served.later t late)

  still_clients : All (IsClient c1.slots.items) c0.clients
  still_clients k d few =
      let c = slice_index_or c0.clients k d in
      client_still c0.slots.items c1.slots.items c
      (some_lasts c0.slots.items c1.slots.items j s status changes (slot_of c) c.serial) (served.clients k d few)

  -- the connection had begun
  pub served_change : c1.begun ≡ c0.begun → c1.clients ≡ c0.clients → IsSome (status_at c0.slots.items j s)
      → AreServed link1 place1 c1
  served_change begun same had =
      let has : Contains c0.clients (client_at j s) = served.known j s had in
      record {
        slots = slots;
        connections = connections_change;
        clients = subst (All (IsClient c1.slots.items)) (sym same) still_clients;
        known = λ i t taken. subst (λ xs. Contains xs (client_at i t)) (sym same)
            (by_change (λ i' t' o. IsSome o → Contains c0.clients (client_at i' t')) changes (λ _. has)
            (λ i' t' other is. served.known i' t' is) i t taken);
        apart = subst (AllPairs (λ a b. a ≢ b)) (sym same) served.apart;
        begun = begun ∙ (served.begun ∙ ap length (sym same));
        within = omega (arith, begun, served.within, plan.conns);
        bound = omega (arith, served.bound, plan.conns);
        ended = subst (λ xs. c1.ended ≡ count_by (tests has_ended c1.slots.items) xs) (sym same)
            (recount has_ended c0.slots.items c1.slots.items j s status c0.clients changes served.clients c0.ended
            c1.ended served.apart has not_ended served.ended ended);
        faulted = subst (λ xs. c1.faulted ≡ count_by (tests has_faulted c1.slots.items) xs) (sym same)
            (recount has_faulted c0.slots.items c1.slots.items j s status c0.clients changes served.clients c0.faulted
            c1.faulted served.apart has not_faulted served.faulted faulted);
        later = later_change;
      }

  -- it begins
  pub served_new : c1.begun ≡ c0.begun + 1 → c1.clients ≡ c0.clients ++ client_at j s ∷ []
      → status_at c0.slots.items j s ≡ None → c0.begun < c0.conns → AreServed link1 place1 c1
  served_new begun more none few =
      let own = client_at j s in
      let taken : IsSome (status_at c1.slots.items j s) = subst IsSome (sym changes.here) refl in
      let new : All (λ x. x ≢ own) c0.clients = λ k d within at.
      let x = slice_index_or c0.clients k d in
      let never : status_of c0.slots.items x ≡ None =
      ap (status_of c0.slots.items) at ∙ (status_by c0.slots.items j s ∙ none) in
      let both : false ≡ true = sym (ap is_some never) ∙ (served.clients k d within).taken in absurd (cc) in
      record {
        slots = slots;
        connections = connections_change;
        clients = subst (All (IsClient c1.slots.items)) (sym more)
            (All-push (IsClient c1.slots.items) c0.clients own still_clients (client_of c1.slots.items j s taken));
        known = λ i t is. subst (λ xs. Contains xs (client_at i t)) (sym more)
            (by_change (λ i' t' o. IsSome o → Contains (c0.clients ++ own ∷ []) (client_at i' t')) changes
            (λ _. Contains-push c0.clients own)
            (λ i' t' other had. Contains-append_left c0.clients (own ∷ []) (client_at i' t')
            (served.known i' t' had)) i t is);
        apart = subst (AllPairs (λ a b. a ≢ b)) (sym more)
            (all_pairs_push (λ a b. a ≢ b) c0.clients own served.apart new);
        begun = omega (arith, begun, served.begun, ap length more, length-append c0.clients (own ∷ []));
        within = omega (arith, begun, few, plan.conns);
        bound = omega (arith, served.bound, plan.conns);
        ended = subst (λ xs. c1.ended ≡ count_by (tests has_ended c1.slots.items) xs) (sym more)
            (recount_more has_ended c0.slots.items c1.slots.items j s status c0.clients changes served.clients c0.ended
            c1.ended none served.ended ended);
        faulted = subst (λ xs. c1.faulted ≡ count_by (tests has_faulted c1.slots.items) xs) (sym more)
            (recount_more has_faulted c0.slots.items c1.slots.items j s status c0.clients changes served.clients
            c0.faulted c1.faulted none served.faulted faulted);
        later = later_change;
      }

module _ (j s : ℕ) (status : Status) (faults0 faults1 : ChanId → ℕ) (c0 c1 : Connections)
    (changes : Changes c0.slots.items c1.slots.items j s status) where
  faulty_change : (IsTrue (has_faulted (Some status)) → HasFaulted faults0 faults1 (client_at j s))
      → (i t : ℕ) → IsTrue (has_faulted (status_at c1.slots.items i t))
      → IsTrue (has_faulted (status_at c0.slots.items i t)) ⊎ HasFaulted faults0 faults1 (client_at i t)
  faulty_change faulty =
      by_change
      (λ i t o. IsTrue (has_faulted o)
      → IsTrue (has_faulted (status_at c0.slots.items i t)) ⊎ HasFaulted faults0 faults1 (client_at i t)) changes
      (λ is. inr (faulty is)) (λ i t other is. inl is)

  -- the connection hadn't ended by a fault
  lasting_change : has_faulted (status_at c0.slots.items j s) ≡ false → (i t : ℕ)
      → IsTrue (has_faulted (status_at c0.slots.items i t)) → IsTrue (has_faulted (status_at c1.slots.items i t))
  lasting_change was =
      by_change (λ i t o. IsTrue (has_faulted (status_at c0.slots.items i t)) → IsTrue (has_faulted o)) changes
      (λ is. absurd (both_ways (has_faulted (status_at c0.slots.items j s)) was is)) (λ i t other is. is)

  unfaulted_change : (IsFalse (has_faulted (Some status)) → IsUnfaulted faults0 faults1 (client_at j s))
      → IsSameElse (client_at j s) (target_at j s) faults0 faults1 → (i t : ℕ)
      → IsFalse (has_faulted (status_at c1.slots.items i t)) → IsUnfaulted faults0 faults1 (client_at i t)
  unfaulted_change unfaulted same =
      by_change (λ i t o. IsFalse (has_faulted o) → IsUnfaulted faults0 faults1 (client_at i t)) changes unfaulted
      (λ i t other _. record {
        client = same_client faults0 faults1 j s i t same other;
        target = same_target faults0 faults1 j s i t same other;
      })

-- no connection has carried more, and the connections are the same
pub served_still : (link0 link1 : ChanId → Link) (place0 place1 : ChanId → Place) (c : Connections)
    → AreServed link0 place0 c → ((k : ChanId) → link1 k ≡ link0 k) → IsSameBut listener place0 place1
    → AreServed link1 place1 c
served_still link0 link1 place0 place1 c served links places = record {
  slots = served.slots;
  connections = λ i t. stands_as c.target (status_at c.slots.items i t) (links (client_at i t)) (links (target_at i t))
      (places (client_at i t) (client_listener i t)) (places (target_at i t) (target_listener i t))
      (served.connections i t);
  clients = served.clients;
  known = served.known;
  apart = served.apart;
  begun = served.begun;
  within = served.within;
  bound = served.bound;
  ended = served.ended;
  faulted = served.faulted;
  later = λ t late. untouched_as (links (channel listener.number t))
      (places (channel listener.number t) (λ same.
      let at : t ≡ 0 = ap (λ (c : ChanId). c.serial) same in absurd (omega (arith, late, at)))) (served.later t late);
}

-- the statuses are the same, and so are the clients
module _ (link : ChanId → Link) (place : ChanId → Place) (c0 c1 : Connections) (served : AreServed link place c0)
    (slots : AreSlots c1) (moved : NoneMoved c0 c1)
    (same : (i t : ℕ) → status_at c1.slots.items i t ≡ status_at c0.slots.items i t) where
  same_count : (test : Option Status → Bool) (a b : ℕ) → a ≡ count_by (tests test c0.slots.items) c0.clients → b ≡ a
      → b ≡ count_by (tests test c1.slots.items) c1.clients
  same_count test a b count is =
      is
      ∙ (count
      ∙ (sym (count_same (tests test c0.slots.items) (tests test c1.slots.items) c0.clients
      (λ k d few. ap test (same (slot_of (slice_index_or c0.clients k d)) (slice_index_or c0.clients k d).serial)))
      ∙ ap (count_by (tests test c1.slots.items)) (sym moved.none.clients)))

  pub served_same : AreServed link place c1
  served_same = record {
    slots = slots;
    connections = λ i t. subst
        (λ to. StandsAs to (status_at c1.slots.items i t) (link (client_at i t)) (link (target_at i t))
        (place (client_at i t)) (place (target_at i t))) (sym moved.none.plan.target)
        (subst
        (λ o. StandsAs c0.target o (link (client_at i t)) (link (target_at i t)) (place (client_at i t))
        (place (target_at i t))) (sym (same i t)) (served.connections i t));
    clients = subst (All (IsClient c1.slots.items)) (sym moved.none.clients) (λ k d few.
        let c = slice_index_or c0.clients k d in
        client_still c0.slots.items c1.slots.items c
        (λ had. subst IsSome (sym (same (slot_of c) c.serial)) had) (served.clients k d few));
    known = λ i t is. subst (λ xs. Contains xs (client_at i t)) (sym moved.none.clients)
        (served.known i t (subst IsSome (same i t) is));
    apart = subst (AllPairs (λ a b. a ≢ b)) (sym moved.none.clients) served.apart;
    begun = moved.none.begun ∙ (served.begun ∙ ap length (sym moved.none.clients));
    within = omega (arith, moved.none.begun, served.within, moved.none.plan.conns);
    bound = omega (arith, served.bound, moved.none.plan.conns);
    ended = same_count has_ended c0.ended c1.ended served.ended moved.ended;
    faulted = same_count has_faulted c0.faulted c1.faulted served.faulted moved.faulted;
    later = served.later;
  }

-- ---- numbers that serve again

-- where nothing that stands as its status says is live, its channels are vacant
pub over_vacant : (to : Addr) (o : Option Status) (client target : Link) (p q : Place)
    → ((relay : Relay) → o ≢ Some (Live relay)) → StandsAs to o client target p q
    → IsVacant p.standing × IsVacant q.standing
over_vacant to None client target p q none is = (
  subst (λ (x : Place). IsVacant x.standing) (sym is.client.unasked) tt,
  subst (λ (x : Place). IsVacant x.standing) (sym is.target.unasked) tt,
)
over_vacant to (Some status) client target p q none is = of_status status none is
  where
    of_status : (status : Status) → ((relay : Relay) → Some status ≢ Some (Live relay))
        → IsStatusOf to status client target p q → IsVacant p.standing × IsVacant q.standing
    of_status (Live relay) none is = absurd (none relay refl)
    of_status (Over Clean) none is =
        (subst IsVacant (sym is.is_status.client_closed) tt, is.is_status.target_closed)
    of_status (Over Faulted) none is =
        (subst IsVacant (sym is.is_status.client_closed) tt, is.is_status.target_closed)
    of_status (Over Dropped) none is = (is.is_status.client_closed, is.is_status.target_closed)

-- the numbers of the slot j, where no connection of a later serial than s began, and the one of this serial, if it began,
-- isn't relayed
module _ (link : ChanId → Link) (place : ChanId → Place) (c : Connections) (served : AreServed link place c) (j : ℕ) where
  clients_vacant : ((t : ℕ) (relay : Relay) → status_at c.slots.items j t ≢ Some (Live relay)) → (t : ℕ)
      → IsVacant (place (client_at j t)).standing × IsVacant (place (target_at j t)).standing
  clients_vacant none t =
      over_vacant c.target (status_at c.slots.items j t) (link (client_at j t)) (link (target_at j t))
      (place (client_at j t)) (place (target_at j t)) (none t) (served.connections j t)

  untouched_from : (s : ℕ) → ((t : ℕ) → s ≤ t → status_at c.slots.items j t ≡ None) → (t : ℕ) → s ≤ t
      → AreUntouched (link (client_at j t)) (link (target_at j t)) (place (client_at j t)) (place (target_at j t))
  untouched_from s none t late =
      subst
      (λ o. StandsAs c.target o (link (client_at j t)) (link (target_at j t)) (place (client_at j t))
      (place (target_at j t))) (none t late) (served.connections j t)

  -- the next connection of an idle slot
  module _ (slot : Slot) (at : slice_get c.slots.items j ≡ Some slot) (idle : slot.relay ≡ None) where
    pub uses_idle : slot.uses ≡ serial_of slot
    uses_idle = (counted_of c j slot served.slots at).uses ∙ ap length (statuses_idle slot idle)

    pub none_live : (t : ℕ) (relay : Relay) → status_at c.slots.items j t ≢ Some (Live relay)
    none_live t relay is = elim (cases_lt t (serial_of slot)) [
      | inl less ↦ status_over c.slots.items j slot at t (λ same. absurd (omega (arith, less, same))) relay is
      | inr past ↦
          let none = status_idle c.slots.items j slot at idle t (omega (arith, past)) in
          let never : None ≡ Some (Live relay) = sym none ∙ is in absurd (cc)
    ]

    pub next_untouched : AreUntouched (link (client_at j slot.uses)) (link (target_at j slot.uses))
        (place (client_at j slot.uses)) (place (target_at j slot.uses))
    next_untouched =
        untouched_from slot.uses
        (λ t late. status_idle c.slots.items j slot at idle t (omega (arith, late, uses_idle))) slot.uses (omega arith)

    pub next_free : IsFree place (client_at j slot.uses)
    next_free = record {
      later = λ t late. (untouched_from slot.uses
          (λ u later. status_idle c.slots.items j slot at idle u (omega (arith, later, uses_idle))) t late).client.unasked;
      vacant = λ t. (clients_vacant none_live t).0;
    }

  -- a target whose link wasn't asked for can be asked
  pub target_free : (slot : Slot) (relay : Relay) → slice_get c.slots.items j ≡ Some slot → slot.relay ≡ Some relay
      → relay.stage ≡ stage.Accepted → IsFree place (target_at j (serial_of slot))
  target_free slot relay at is stage_is =
      let s = serial_of slot in
      let live : IsStatusOf c.target (Live relay) (link (client_at j s)) (link (target_at j s)) (place (client_at j s))
      (place (target_at j s)) =
      subst
      (λ o. StandsAs c.target o (link (client_at j s)) (link (target_at j s)) (place (client_at j s))
      (place (target_at j s))) (status_live c.slots.items j slot relay at is) (served.connections j s) in
      let unasked : IsUnasked (link (target_at j s)) (place (target_at j s)) (carried relay.back relay.there) =
      subst (λ x. IsTarget x (link (target_at j s)) (place (target_at j s)) (carried relay.back relay.there)) stage_is
      live.is_status.relaying.by_target in
      record {
        later = λ t late. elim (cases_eq t s) [
          | inl same ↦ subst (λ u. place (target_at j u) ≡ never_asked) (sym same) unasked.stands
          | inr other ↦ (untouched_from (s + 1)
              (λ u later. status_past_live c.slots.items j slot relay at is u (omega (arith, later))) t
              (omega (arith, late, other))).target.unasked
        ];
        vacant = λ t. elim (cases_eq t s) [
          | inl same ↦ subst (λ u. IsVacant (place (target_at j u)).standing) (sym same)
              (subst (λ (p : Place). IsVacant p.standing) (sym unasked.stands) tt)
          | inr other ↦
              (over_vacant c.target (status_at c.slots.items j t) (link (client_at j t)) (link (target_at j t))
              (place (client_at j t)) (place (target_at j t)) (status_over c.slots.items j slot at t other)
              (served.connections j t)).1
        ];
      }

-- a connection that begins hasn't ended
not_ended_begun : (relay : Option Relay) → has_ended (Some (status_begun relay)) ≡ false
not_ended_begun (Some relay) = refl
not_ended_begun None = refl

not_faulted_begun : (relay : Option Relay) → has_faulted (Some (status_begun relay)) ≡ false
not_faulted_begun (Some relay) = refl
not_faulted_begun None = refl

-- ---- the slot that is taken next

pub record Next (link : ChanId → Link) (place : ChanId → Place) (c : Connections) (j : ℕ) (slot : Slot) : Type 0 where
  pub at : slice_get c.slots.items j ≡ Some slot
  pub idle : slot.relay ≡ None
  pub few : j < 16000
  pub free : IsFree place (client_at j slot.uses)
  pub untouched : AreUntouched (link (client_at j slot.uses)) (link (target_at j slot.uses))
      (place (client_at j slot.uses)) (place (target_at j slot.uses))

pub next_few : {link : ChanId → Link} {place : ChanId → Place} (c : Connections) (j : ℕ) → AreServed link place c
    → IsNextSlot c j → (j < 16000) × (j < length c.slots.items)
next_few c j served next =
    let idle = first_idle c j next.rest served.slots next.first in
    (omega (arith, idle.within, served.slots.few), idle.within)

pub next_of : (link : ChanId → Link) (place : ChanId → Place) (c : Connections) (j : ℕ) (read : Slot)
    → AreServed link place c → IsNextSlot c j → read ≡ slice_index_or c.slots.items j read → Next link place c j read
next_of link place c j read served next is =
    let found = slot_of_idle c.slots.items j (first_idle c j next.rest served.slots next.first) in
    let same : read ≡ found.0 = is ∙ get_or_from_slice_get c.slots.items j found.0 read found.1.0 in
    let at : slice_get c.slots.items j ≡ Some read = found.1.0 ∙ ap Some (sym same) in
    let idle : read.relay ≡ None = ap (λ (x : Slot). x.relay) same ∙ found.1.1 in
    record {
      at = at;
      idle = idle;
      few = (next_few c j served next).0;
      free = next_free link place c served j read at idle;
      untouched = next_untouched link place c served j read at idle;
    }

-- the slot that was taken is that one
pub occupied_next : (client : ChanId) (relay : Option Relay) (c0 c1 : Connections) (j : ℕ) → IsNextSlot c0 j
    → (occupies : Occupies client relay c0 c1) → occupies.j ≡ j
occupied_next client relay c0 c1 j next occupies =
    ap (λ (xs : List ℕ). slice_index_or xs 0 0) (sym occupies.idle ∙ next.first)

-- ---- a connection that was taken out of its slot

pub record Taken (j : ℕ) (was : Relay) (c0 c1 : Connections) : Type 0 where
  pub slot : Slot
  pub at : slice_get c0.slots.items j ≡ Some slot
  pub relay : slot.relay ≡ Some was
  pub uses : slot.uses - 1 ≡ serial_of slot
  pub within : j < length c0.slots.items
  pub takes : TakesOut j was c0 c1

pub taken_of : {link : ChanId → Link} {place : ChanId → Place} (j : ℕ) (was : Relay) (c0 c1 : Connections)
    → AreServed link place c0 → TakesOut j was c0 c1 → Taken j was c0 c1
taken_of j was c0 c1 served takes =
    let found = slot_of_relay c0.slots.items j was takes.was in
    let slot = found.0 in
    let counted = counted_of c0 j slot served.slots found.1.0 in
    record {
      slot = slot;
      at = found.1.0;
      relay = found.1.1;
      uses = omega (
        arith,
        counted.uses,
        ap length (statuses_live slot was found.1.1),
        length-append (past_of slot) (Live was ∷ []),
      );
      within = slice_get_within c0.slots.items j slot found.1.0;
      takes = takes;
    }

-- the slot is there still, with as many uses
pub taken_slot : (j : ℕ) (was : Relay) (c0 c1 : Connections) (taken : Taken j was c0 c1)
    → slice_get c1.slots.items j ≡ Some (emptied taken.slot)
taken_slot j was c0 c1 taken = taken.takes.slot ∙ ap (λ o. option_map emptied o) taken.at

-- what is read of it tells the serial of its links
pub serial_read : (j : ℕ) (was : Relay) (c0 c1 : Connections) (taken : Taken j was c0 c1) (read : Slot)
    → read ≡ slice_index_or c1.slots.items j read → read.uses - 1 ≡ serial_of taken.slot
serial_read j was c0 c1 taken read is =
    let same : read ≡ emptied taken.slot =
    is ∙ get_or_from_slice_get c1.slots.items j (emptied taken.slot) read (taken_slot j was c0 c1 taken) in
    ap (λ (x : Slot). x.uses - 1) same ∙ taken.uses

-- ---- work on the connections, and on a net

module _ {N : Type 0} (n : Members N) where
  -- the accepted links stay the clients
  abbrev KeepsOrder : N → N → Connections → Connections → Type 0
  KeepsOrder x y c0 c1 = (start : List ChanId) → n.accepted x ≡ start ++ c0.clients → n.accepted y ≡ start ++ c1.clients

  order_still : (x y : N) (c0 c1 : Connections) → n.accepted y ≡ n.accepted x → c1.clients ≡ c0.clients
      → KeepsOrder x y c0 c1
  order_still x y c0 c1 none same start is = none ∙ (is ∙ ap (λ xs. start ++ xs) (sym same))

  order_more : (x y : N) (c0 c1 : Connections) (own : ChanId) → n.accepted y ≡ n.accepted x ++ own ∷ []
      → c1.clients ≡ c0.clients ++ own ∷ [] → KeepsOrder x y c0 c1
  order_more x y c0 c1 own more clients start is =
      more
      ∙ (ap (λ xs. xs ++ own ∷ []) is
      ∙ (append_assoc start c0.clients (own ∷ []) ∙ ap (λ xs. start ++ xs) (sym clients)))

  pub serving_none : (x : N) (c : Connections) → AreServed (n.link x) (n.place x) c → Serving n x x c c
  serving_none x c served = record {
    served = served;
    conns = refl;
    target = refl;
    faulty = λ j s is. inl is;
    lasting = λ j s is. is;
    unfaulted = λ j s is. record { client = refl; target = refl };
    order = λ start is. is;
    no_bytes = refl;
    later = λ c. omega arith;
    polls = omega arith;
  }

  pub serving_then : (x y z : N) (c0 c1 c2 : Connections) → Serving n x y c0 c1 → Serving n y z c1 c2
      → Serving n x z c0 c2
  serving_then x y z c0 c1 c2 first second = record {
    served = second.served;
    conns = second.conns ∙ first.conns;
    target = second.target ∙ first.target;
    faulty = λ j s is. elim (second.faulty j s is) [
      | inl before ↦ elim (first.faulty j s before) [
        | inl at_first ↦ inl at_first
        | inr rose ↦ inr (faulted_on (n.faults x) (n.faults y) (n.faults z) (client_at j s) first.later second.later
            rose)
      ]
      | inr rose ↦ inr (faulted_from (n.faults x) (n.faults y) (n.faults z) (client_at j s) first.later rose)
    ];
    lasting = λ j s is. second.lasting j s (first.lasting j s is);
    unfaulted = λ j s is. unfaulted_then (n.faults x) (n.faults y) (n.faults z) (client_at j s)
        (first.unfaulted j s
        (false_before (has_faulted (status_at c1.slots.items j s)) (has_faulted (status_at c2.slots.items j s))
        (second.lasting j s) is)) (second.unfaulted j s is);
    order = λ start is. second.order start (first.order start is);
    no_bytes = second.no_bytes ∙ first.no_bytes;
    later = λ c. omega (arith, first.later c, second.later c);
    polls = omega (arith, first.polls, second.polls);
  }

  -- where no link has carried more, and only the listener has failed or stands in another way
  pub serving_alone : (x y : N) (c : Connections) → AreServed (n.link x) (n.place x) c
      → ((k : ChanId) → n.link y k ≡ n.link x k) → IsSameBut listener (n.place x) (n.place y)
      → ((k : ChanId) → k ≢ listener → n.faults y k ≡ n.faults x k) → ((k : ChanId) → n.faults x k ≤ n.faults y k)
      → n.poll_faults x ≤ n.poll_faults y → n.accepted y ≡ n.accepted x → Serving n x y c c
  serving_alone x y c served links places faults later polls accepted = record {
    served = served_still (n.link x) (n.link y) (n.place x) (n.place y) c served links places;
    conns = refl;
    target = refl;
    faulty = λ j s is. inl is;
    lasting = λ j s is. is;
    unfaulted = λ j s is. record {
      client = faults (client_at j s) (client_listener j s);
      target = faults (target_at j s) (target_listener j s);
    };
    order = λ start is. accepted ∙ is;
    no_bytes = links listener;
    later = later;
    polls = polls;
  }

  -- where only the slots are others, and no connection stands in another way
  serving_same : (x : N) (c0 c1 : Connections) → AreServed (n.link x) (n.place x) c0 → AreSlots c1 → NoneMoved c0 c1
      → ((i t : ℕ) → status_at c1.slots.items i t ≡ status_at c0.slots.items i t) → Serving n x x c0 c1
  serving_same x c0 c1 served slots moved same = record {
    served = served_same (n.link x) (n.place x) c0 c1 served slots moved same;
    conns = moved.none.plan.conns;
    target = moved.none.plan.target;
    faulty = λ j s is. inl (subst (λ o. IsTrue (has_faulted o)) (same j s) is);
    lasting = λ j s is. subst (λ o. IsTrue (has_faulted o)) (sym (same j s)) is;
    unfaulted = λ j s is. record { client = refl; target = refl };
    order = order_still x x c0 c1 refl moved.none.clients;
    no_bytes = refl;
    later = λ c. omega arith;
    polls = omega arith;
  }

  -- all idle slots are free
  pub serving_freed : (x : N) (c0 c1 : Connections) → AreServed (n.link x) (n.place x) c0 → Frees c0 c1
      → Serving n x x c0 c1
  serving_freed x c0 c1 served frees =
      serving_same x c0 c1 served (slots_freed c0 c1 served.slots frees) frees.moved
      (λ i t. ap (λ (xs : List Slot). status_at xs i t) frees.slots)

  -- where work was done on the two links of the connection s of the slot j
  module _ (j s : ℕ) (status : Status) (x y : N) (c0 c1 : Connections)
      (changes : Changes c0.slots.items c1.slots.items j s status) (plan : AreOfOnePlan c0 c1)
      (faults : IsSameElse (client_at j s) (target_at j s) (n.faults x) (n.faults y))
      (later : (c : ChanId) → n.faults x c ≤ n.faults y c) (polls : n.poll_faults y ≡ n.poll_faults x)
      (no_bytes : n.link y listener ≡ n.link x listener)
      (not_faulted : has_faulted (status_at c0.slots.items j s) ≡ false)
      (faulty : IsTrue (has_faulted (Some status)) → HasFaulted (n.faults x) (n.faults y) (client_at j s))
      (calm : IsFalse (has_faulted (Some status)) → IsUnfaulted (n.faults x) (n.faults y) (client_at j s)) where
    serving_change : AreServed (n.link y) (n.place y) c1 → KeepsOrder x y c0 c1 → Serving n x y c0 c1
    serving_change served order = record {
      served = served;
      conns = plan.conns;
      target = plan.target;
      faulty = faulty_change j s status (n.faults x) (n.faults y) c0 c1 changes faulty;
      lasting = lasting_change j s status (n.faults x) (n.faults y) c0 c1 changes not_faulted;
      unfaulted = unfaulted_change j s status (n.faults x) (n.faults y) c0 c1 changes calm faults;
      order = order;
      no_bytes = no_bytes;
      later = later;
      polls = omega (arith, polls);
    }

  -- how its links stand
  pub live_is : (j : ℕ) (was : Relay) (client target : ChanId) (x : N) (c0 c1 : Connections)
      → AreServed (n.link x) (n.place x) c0 → (taken : Taken j was c0 c1)
      → client ≡ client_at j (serial_of taken.slot) → target ≡ target_at j (serial_of taken.slot)
      → IsStatusOf c0.target (Live was) (n.link x client) (n.link x target) (n.place x client) (n.place x target)
  live_is j was client target x c0 c1 served taken is_client is_target =
      let s = serial_of taken.slot in
      subst₂ (λ a b. IsStatusOf c0.target (Live was) (n.link x a) (n.link x b) (n.place x a) (n.place x b))
      (sym is_client) (sym is_target)
      (subst
      (λ o. StandsAs c0.target o (n.link x (client_at j s)) (n.link x (target_at j s)) (n.place x (client_at j s))
      (n.place x (target_at j s))) (status_live c0.slots.items j taken.slot was taken.at taken.relay)
      (served.connections j s))

  -- a connection was put back or has ended, after this work on its links
  module _ (j : ℕ) (was relay : Relay) (ended : Option Ended) (x y : N) (c0 c1 c2 : Connections)
      (served : AreServed (n.link x) (n.place x) c0) (taken : Taken j was c0 c1) (puts : PutsBack j relay ended c1 c2)
    where
      abbrev s : ℕ
      s = serial_of taken.slot

      put_changes : Changes c0.slots.items c2.slots.items j s (status_after relay ended)
      put_changes = changes_put c0.slots.items c2.slots.items j taken.slot was relay ended taken.at taken.relay
          (put_slot j was relay ended c0 c1 c2 taken.slot taken.at taken.takes puts)
          (put_others taken.takes.others puts.others)

      put_plan : AreOfOnePlan c0 c2
      put_plan = record {
        conns = puts.none.plan.conns ∙ taken.takes.moved.none.plan.conns;
        target = puts.none.plan.target ∙ taken.takes.moved.none.plan.target;
      }

      was_live : status_at c0.slots.items j s ≡ Some (Live was)
      was_live = status_live c0.slots.items j taken.slot was taken.at taken.relay

      pub serving_put : IsSameElse (client_at j s) (target_at j s) (n.link x) (n.link y)
          → IsSameElse (client_at j s) (target_at j s) (n.place x) (n.place y)
          → IsSameElse (client_at j s) (target_at j s) (n.faults x) (n.faults y)
          → ((c : ChanId) → n.faults x c ≤ n.faults y c) → n.poll_faults y ≡ n.poll_faults x
          → n.accepted y ≡ n.accepted x
          → IsStatusOf c0.target (status_after relay ended) (n.link y (client_at j s)) (n.link y (target_at j s))
          (n.place y (client_at j s)) (n.place y (target_at j s))
          → (IsTrue (has_faulted (Some (status_after relay ended)))
          → HasFaulted (n.faults x) (n.faults y) (client_at j s))
          → (IsFalse (has_faulted (Some (status_after relay ended)))
          → IsUnfaulted (n.faults x) (n.faults y) (client_at j s)) → Serving n x y c0 c2
      serving_put links places faults later polls accepted here faulty calm =
          serving_change j s (status_after relay ended) x y c0 c2 put_changes put_plan faults later polls
          (links listener (λ at. client_listener j s (sym at)) (λ at. target_listener j s (sym at)))
          (ap has_faulted was_live) faulty calm
          (served_change j s (status_after relay ended) (n.link x) (n.link y) (n.place x) (n.place y) c0 c2 served
          put_changes (slots_put j was relay ended c0 c1 c2 served.slots taken.takes puts) put_plan links places here
          (ap has_ended was_live) (ap has_faulted was_live)
          (puts.ended ∙ ap (λ m. m + one_if (has_ended (Some (status_after relay ended)))) taken.takes.moved.ended)
          (puts.faulted ∙ ap (λ m. m + one_if (has_faulted (Some (status_after relay ended)))) taken.takes.moved.faulted)
          (puts.none.begun ∙ taken.takes.moved.none.begun) (puts.none.clients ∙ taken.takes.moved.none.clients)
          (subst IsSome (sym was_live) refl))
          (order_still x y c0 c2 accepted (puts.none.clients ∙ taken.takes.moved.none.clients))

  -- its links did as they were told
  pub serving_told : (j : ℕ) (was relay : Relay) (ended : Option Ended) (client target : ChanId) (x y : N)
      (c0 c1 c2 : Connections) → AreServed (n.link x) (n.place x) c0 → (taken : Taken j was c0 c1)
      → client ≡ client_at j (serial_of taken.slot) → target ≡ target_at j (serial_of taken.slot)
      → PutsBack j relay ended c1 c2 → Works n client target x y
      → IsStatus (status_after relay ended) (n.link y client) (n.link y target) (n.place y client) (n.place y target)
      → ((to : Addr) (r t : Role) → HasRoles to (Live was) r t → HasRoles to (status_after relay ended) r t)
      → (IsTrue (has_faulted (Some (status_after relay ended))) → OneRose (n.faults x) (n.faults y) client target)
      → (IsFalse (has_faulted (Some (status_after relay ended))) → BothSame (n.faults x) (n.faults y) client target)
      → Serving n x y c0 c2
  serving_told j was relay ended client target x y c0 c1 c2 served taken is_client is_target puts works is roles faulty
      calm =
      let s = serial_of taken.slot in
      let a = client_at j s in
      let b = target_at j s in
      let work : Works n a b x y = subst₂ (λ c d. Works n c d x y) is_client is_target works in
      let now : IsStatus (status_after relay ended) (n.link y a) (n.link y b) (n.place y a) (n.place y b) =
      subst₂ (λ c d. IsStatus (status_after relay ended) (n.link y c) (n.link y d) (n.place y c) (n.place y d)) is_client
      is_target is in
      let before = live_is j was a b x c0 c1 served taken refl refl in
      serving_put j was relay ended x y c0 c1 c2 served taken puts work.links work.places work.faults work.later
      work.polls work.accepted
      (record {
        is_status = now;
        roles = roles c0.target (n.place y a).role (n.place y b).role
            (work.roles a ∙ before.roles.0, work.roles b ∙ before.roles.1);
      })
      (λ f. subst₂ (OneRose (n.faults x) (n.faults y)) is_client is_target (faulty f))
      (λ f. let same = subst₂ (BothSame (n.faults x) (n.faults y)) is_client is_target (calm f) in
      record { client = same.first; target = same.second })

  -- connecting its target was begun
  pub serving_begun : (j : ℕ) (was relay : Relay) (ended : Option Ended) (client target : ChanId) (x y : N)
      (c0 c1 c2 : Connections) → AreServed (n.link x) (n.place x) c0 → (taken : Taken j was c0 c1)
      → client ≡ client_at j (serial_of taken.slot) → target ≡ target_at j (serial_of taken.slot)
      → PutsBack j relay ended c1 c2 → Begins n client target x y
      → IsStatusOf c0.target (status_after relay ended) (n.link y client) (n.link y target) (n.place y client)
      (n.place y target)
      → (IsTrue (has_faulted (Some (status_after relay ended))) → Rose (n.faults x target) (n.faults y target))
      → (IsFalse (has_faulted (Some (status_after relay ended))) → n.faults y target ≡ n.faults x target)
      → n.accepted y ≡ n.accepted x → Serving n x y c0 c2
  serving_begun j was relay ended client target x y c0 c1 c2 served taken is_client is_target puts begins is faulty calm
      none =
      let s = serial_of taken.slot in
      let a = client_at j s in
      let b = target_at j s in
      let begun : Begins n a b x y = subst₂ (λ c d. Begins n c d x y) is_client is_target begins in
      let now : IsStatusOf c0.target (status_after relay ended) (n.link y a) (n.link y b) (n.place y a) (n.place y b) =
      subst₂ (λ c d. IsStatusOf c0.target (status_after relay ended) (n.link y c) (n.link y d) (n.place y c)
      (n.place y d)) is_client is_target is in
      serving_put j was relay ended x y c0 c1 c2 served taken puts (λ c _ _. begun.links c) begun.places
      (λ c _ not_target. begun.faults c not_target) begun.later begun.polls none now
      (λ f. inr (subst (λ d. Rose (n.faults x d) (n.faults y d)) is_target (faulty f)))
      (λ f. record {
        client = begun.faults a (client_target j s j s);
        target = subst (λ d. n.faults y d ≡ n.faults x d) is_target (calm f);
      })

  -- the connection of a client that was accepted took a slot
  pub serving_new : (client target : ChanId) (relay : Option Relay) (slot : Slot) (x y : N) (c0 c1 : Connections)
      → AreServed (n.link x) (n.place x) c0 → (occupies : Occupies client relay c0 c1)
      → slice_get c0.slots.items occupies.j ≡ Some slot → slot.relay ≡ None
      → client ≡ client_at occupies.j slot.uses → target ≡ target_at occupies.j slot.uses
      → c0.begun < c0.conns → Begins n client target x y
      → IsStatusOf c0.target (status_begun relay) (n.link y client) (n.link y target) (n.place y client)
      (n.place y target)
      → n.faults y target ≡ n.faults x target → n.accepted y ≡ n.accepted x ++ client ∷ [] → Serving n x y c0 c1
  serving_new client target relay slot x y c0 c1 served occupies at idle is_client is_target few begins is calm more =
      let j = occupies.j in
      let s = serial_of slot in
      let uses : slot.uses ≡ s = uses_idle (n.link x) (n.place x) c0 served j slot at idle in
      let here_client : client ≡ client_at j s = is_client ∙ ap (client_at j) uses in
      let here_target : target ≡ target_at j s = is_target ∙ ap (target_at j) uses in
      let a = client_at j s in
      let b = target_at j s in
      let begun : Begins n a b x y = subst₂ (λ c d. Begins n c d x y) here_client here_target begins in
      let now : IsStatusOf c0.target (status_begun relay) (n.link y a) (n.link y b) (n.place y a) (n.place y b) =
      subst₂ (λ c d. IsStatusOf c0.target (status_begun relay) (n.link y c) (n.link y d) (n.place y c) (n.place y d))
      here_client here_target is in
      let changes : Changes c0.slots.items c1.slots.items j s (status_begun relay) =
      changes_begun c0.slots.items c1.slots.items j slot relay at idle
      (occupies.slot ∙ ap (λ o. option_map (begun_slot relay) o) at) occupies.others in
      let none : status_at c0.slots.items j s ≡ None = status_idle c0.slots.items j slot at idle s (omega arith) in
      let uncounted : (test : Option Status → Bool) (m k : ℕ) → test (Some (status_begun relay)) ≡ false → m ≡ k
      → m ≡ k + one_if (test (Some (status_begun relay))) = λ test m k never same.
      let zero_more : one_if (test (Some (status_begun relay))) ≡ 0 = ap one_if never in
      omega (arith, same, zero_more) in
      let clients : c1.clients ≡ c0.clients ++ a ∷ [] =
      occupies.clients ∙ ap (λ (c : ChanId). c0.clients ++ c ∷ []) here_client in
      serving_change j s (status_begun relay) x y c0 c1 changes occupies.plan
      (λ c _ not_target. begun.faults c not_target) begun.later begun.polls (begun.links listener) (ap has_faulted none)
      (λ f. absurd (both_ways (has_faulted (Some (status_begun relay))) (not_faulted_begun relay) f))
      (λ _. record {
        client = begun.faults a (client_target j s j s);
        target = subst (λ d. n.faults y d ≡ n.faults x d) here_target calm;
      })
      (served_new j s (status_begun relay) (n.link x) (n.link y) (n.place x) (n.place y) c0 c1 served changes
      (slots_occupied client relay c0 c1 served.slots occupies) occupies.plan (λ c _ _. begun.links c) begun.places now
      (ap has_ended none) (ap has_faulted none)
      (uncounted has_ended c1.ended c0.ended (not_ended_begun relay) occupies.ended)
      (uncounted has_faulted c1.faulted c0.faulted (not_faulted_begun relay) occupies.faulted) occupies.more clients none
      few)
      (order_more x y c0 c1 a (more ∙ ap (λ (c : ChanId). n.accepted x ++ c ∷ []) here_client) clients)

  -- a client was accepted, its connection was taken on, and took the next slot
  pub serving_next : (j : ℕ) (read : Slot) (client target : ChanId) (relay : Option Relay) (x y z : N)
      (c0 c1 : Connections) → AreServed (n.link x) (n.place x) c0 → IsNextSlot c0 j
      → read ≡ slice_index_or c0.slots.items j read → client ≡ client_at j read.uses → target ≡ target_at j read.uses
      → c0.begun < c0.conns → Accepts n client x y → Begins n client target y z
      → ((to : Addr) → IsStatusOf to (status_begun relay) (n.link z client) (n.link z target) (n.place z client)
      (n.place z target))
      → n.faults z target ≡ n.faults y target → n.accepted z ≡ n.accepted y → Occupies client relay c0 c1
      → Serving n x z c0 c1
  serving_next j read client target relay x y z c0 c1 served next is is_client is_target few accepts begins status calm
      none occupies =
      let found = next_of (n.link x) (n.place x) c0 j read served next is in
      let same : occupies.j ≡ j = occupied_next client relay c0 c1 j next occupies in
      serving_new client target relay read x z c0 c1 served occupies
      (ap (slice_get c0.slots.items) same ∙ found.at) found.idle
      (is_client ∙ ap (λ i. client_at i read.uses) (sym same)) (is_target ∙ ap (λ i. target_at i read.uses) (sym same))
      few (begins_then n client target x y z accepts begins) (status c0.target) (calm ∙ accepts.faults target)
      (none ∙ accepts.accepted)

  -- where no client could be accepted
  pub serving_unaccepted : (x y : N) (c : Connections) → AreServed (n.link x) (n.place x) c → FailsToAccept n x y
      → Serving n x y c c
  serving_unaccepted x y c served fails =
      serving_alone x y c served fails.links (λ k _. fails.places k) fails.faults fails.later
      (omega (arith, fails.polls)) fails.accepted

  -- where a link was closed, or the listener
  pub serving_quiet : (x y z : N) (c0 c1 c2 : Connections) → Serving n x y c0 c1 → IsQuiet n y z
      → IsSameBut listener (n.place y) (n.place z) → c2 ≡ c1 → Serving n x z c0 c2
  serving_quiet x y z c0 c1 c2 serving quiet places same =
      let still : Serving n y z c1 c1 = serving_alone y z c1 serving.served quiet.links places (λ k _. quiet.faults k)
      (λ k. omega (arith, quiet.faults k)) (omega (arith, quiet.polls)) quiet.accepted in
      serving_then x y z c0 c1 c2 serving (subst (Serving n y z c1) (sym same) still)

  -- why a later part of the work failed is why the whole did
  pub cause_on : (x y z : N) (c0 c1 : Connections) → Serving n x y c0 c1
      → Rose (n.poll_faults y) (n.poll_faults z) ⊎ Rose (n.faults y listener) (n.faults z listener)
      → Rose (n.poll_faults x) (n.poll_faults z) ⊎ Rose (n.faults x listener) (n.faults z listener)
  cause_on x y z c0 c1 serving (inl rose) = inl (rose_from _ _ _ serving.polls rose)
  cause_on x y z c0 c1 serving (inr rose) = inr (rose_from _ _ _ (serving.later listener) rose)

-- the listener stands as it did, and is watched as it was
pub listens_on : (before now : Option Port) (p q : Place) → now ≡ before → q ≡ p → ListensAt before p.standing
    → ListensAt now q.standing
listens_on before now p q ports places listens =
    subst (λ o. ListensAt o q.standing) (sym ports)
    (subst (λ (x : Place). ListensAt before x.standing) (sym places) listens)
