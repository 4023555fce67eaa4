use Rattle.std.proofs.lemmas.Option.{none-some}
-- What takes, ends of operations and closings keep.
use Rattle.std.proofs.Common.{◌≡◌, ◌≢◌, ℕ, ◌+◌, ◌-◌, ◌<◌, ◌≤◌, zero, suc, Bool, true, false, cond, eqb, ◌&&◌, List, []}
use Rattle.std.proofs.Common.{◌∷◌, ◌++◌, Option, Some, None, is_some, count_by, get_or, set, map, length, refl, sym, ap}
use Rattle.std.proofs.Common.{◌∙◌, subst, arith, drop}
use Rattle.std.proofs.lemmas.Bool.{false≢true, ne_eqb, eqb-true, and_parts}
use Rattle.std.proofs.lemmas.List.{length-set, length-map, get_or_read}
use Rattle.std.proofs.lemmas.List.Sums.{sum_by-append}
use Rattle.nio_group.specs.declared.channel.Channel.{Channel}
use Rattle.nio_base.specs.declared.group.OpKind.{OpKind}
use Rattle.nio_base.specs.declared.group.OpKind.TheVariants.{Connect}
use Rattle.nio_group.specs.declared.operation.Stage.{Stage}
use Rattle.nio_group.specs.declared.operation.Stage.TheVariants.{Pending, Queued, Running}
use Rattle.nio_group.specs.declared.operation.Operation.{Operation}
use Rattle.nio_group.specs.declared.limits.GroupLimits.{GroupLimits}
use Rattle.nio_group.specs.declared.pending.Pending as slots
use Rattle.nio_group.specs.Stages.{is_on, is_pending, is_pending_on, is_pending_as, is_queued, is_running, stage_is_pending}
use Rattle.nio_group.specs.Stages.{stage_is_queued, stage_is_running, at_stage}
use Rattle.nio_group.specs.Flight.{Flight, op_at, IsPendingAs, flight_after_take, with_ended, closed_on, pending_from}
use Rattle.nio_group.specs.Flight.{with_channel_closed, in_flight_on}
use Rattle.nio_base.specs.declared.numbers.GChan.{GChan}
use Rattle.nio_group.specs.Pending.{slot_of, nothing_pending, none_pending, with_one_less}
use Rattle.nio_group.specs.Group.{Group, IsLawful, channel_at, no_channel, is_present}
use Rattle.nio_group.specs.GroupKept.{IsGroupKept, IsListed, AreCounted, group_of, is_open}
use Rattle.nio_group.proofs.TableLemmas.{by_test, count_by-set}
use Rattle.nio_group.proofs.IndexLemmas.{count_by-cons}
use Rattle.nio_group.proofs.ListLemmas.{eqb-same}
use Rattle.nio_group.proofs.QueueLemmas.{QueueHolds, once_if, queue-set, queue-taken, front-queued}
use Rattle.nio_group.proofs.PendingLemmas.{IsPendingOf, pending-parts, pending-as-pending, pending_as-on}
use Rattle.nio_group.proofs.PendingLemmas.{slot_of-nothing}
use Rattle.nio_group.proofs.LawfulLemmas.{IsFlightLawful, lawful-channel, lawful-operations, flight-lawful}
use Rattle.nio_group.proofs.GroupLemmas.{kept-channel, kept-operations, kept-slots, kept-unlisted, listed-channel}
use Rattle.nio_group.proofs.GroupLemmas.{slot_of-counted}
use Rattle.nio_group.proofs.NameLemmas.{KeepsChan, of-channels, of-channel, of-set, of-closed, name_in, name-set}
use Rattle.nio_group.proofs.NameLemmas.{count-same, count-closed_on, counted-same, counted-channel, counted-slots}
use Rattle.nio_group.proofs.NameLemmas.{on-own, on-other, count-some}
use Rattle.nio_group.proofs.CloseLemmas.{pending-after, pending-before}
use Rattle.nio_group.proofs.FlightLemmas.{some-within, not_queued-running, not_queued-pending}
use Rattle.nio_group.proofs.ReportLemmas.{flight-changes}
use Rattle.std.proofs.Math.ListN.{get_or-map}
use Rattle.nio_group.specs.Steps.{after_take, after_finish, finish_refusal, kept_if_refused}
use Rattle.std.specs.Option.{option_map}

-- an operation changes from one stage to another, neither of them pending
pub lawful-unpending : (g : Group) (n : ℕ) (slot : Option Operation) (queue : List ℕ) → IsLawful g
    → n < length g.flight.operations → is_pending (op_at g.flight n) ≡ false → is_pending slot ≡ false
    → KeepsChan (op_at g.flight n) slot
    → IsFlightLawful (record g.flight { operations = set g.flight.operations n slot; queue = queue }) g.op_limit
    → IsLawful
    (record g { flight = record g.flight { operations = set g.flight.operations n slot; queue = queue } })
lawful-unpending g n slot queue lawful l was will keeps flight =
    let xs = g.flight.operations in
    lawful-operations g (record g.flight { operations = set xs n slot; queue = queue }) lawful flight
    (of-set xs g.channels n slot l keeps (of-channels g lawful))
    (λ c kind m h. (pending-after xs n slot c kind m l will h).1)
    (λ c m h. pending-before xs n slot c Connect m
    (λ at. false≢true (sym was ∙ pending-as-pending c Connect (op_at g.flight n) at)) h)

pub listed-unpending : (f : Flight) (ps : List slots.Pending) (n : ℕ) (slot : Option Operation) (queue : List ℕ)
    → IsListed f ps → n < length f.operations → is_pending (op_at f n) ≡ false → is_pending slot ≡ false
    → IsListed (record f { operations = set f.operations n slot; queue = queue }) ps
listed-unpending f ps n slot queue is_listed l was will =
    record {
      listed = λ c kind m h.
          pending-before f.operations n slot c kind m
          (λ at. false≢true (sym was ∙ pending-as-pending c kind (op_at f n) at)) (is_listed.listed c kind m h);
      all = λ c kind m h. is_listed.all c kind m (pending-after f.operations n slot c kind m l will h).1;
    }

queued-some : (slot : Option Operation) → is_queued slot ≡ true → (op : Operation) × (slot ≡ Some op)
queued-some None h = absurd (false≢true h)
queued-some (Some op) h = (op, refl)

pub queued-not_pending : (stage : Stage) → stage_is_queued stage ≡ true → stage_is_pending stage ≡ false
queued-not_pending Pending h = absurd (false≢true h)
queued-not_pending (Queued finished) h = refl
queued-not_pending Running h = absurd (false≢true h)

pub running-not_pending : (stage : Stage) → stage_is_running stage ≡ true → stage_is_pending stage ≡ false
running-not_pending Pending h = absurd (false≢true h)
running-not_pending (Queued finished) h = absurd (false≢true h)
running-not_pending Running h = refl

running-some : (slot : Option Operation) → is_running slot ≡ true → (op : Operation) × (slot ≡ Some op)
running-some None h = absurd (false≢true h)
running-some (Some op) h = (op, refl)

-- a completion is taken
record IsFrontTaken (f : Flight) (op_limit : ℕ) (queue : List ℕ) : Type 0 where
  n : ℕ
  slot : Option Operation
  rest : List ℕ
  is : flight_after_take f queue ≡ record f { operations = set f.operations n slot; queue = rest }
  within : n < length f.operations
  was : is_pending (op_at f n) ≡ false
  will : is_pending slot ≡ false
  keeps : KeepsChan (op_at f n) slot
  counts : (chan : GChan) → is_on chan slot ≡ is_on chan (op_at f n)
  flight : IsFlightLawful (record f { operations = set f.operations n slot; queue = rest }) op_limit

taken-front : (f : Flight) (op_limit n : ℕ) (rest : List ℕ) → IsFlightLawful f op_limit → f.queue ≡ n ∷ rest
    → IsFrontTaken f op_limit (n ∷ rest)
taken-front f op_limit n rest lawful is =
    let holds : QueueHolds f.operations (n ∷ rest) = rw is at lawful.queued_once in
    let queued = front-queued f.operations n rest holds in
    let some = queued-some (op_at f n) queued in
    let op = some.0 in
    let within = some-within f.operations n op some.1 in
    let of : is_queued (Some op) ≡ true = sym (ap is_queued some.1) ∙ queued in
    let slot : Option Operation = Some (at_stage Running op) in
    record {
      n = n;
      slot = slot;
      rest = rest;
      is = ap (λ (o : Option Operation). record f {
        operations = set f.operations n (option_map (at_stage Running) o);
        queue = drop 1 f.queue;
      }) some.1
          ∙ ap (λ (q : List ℕ). record f { operations = set f.operations n slot; queue = drop 1 q }) is;
      within = within;
      was = ap is_pending some.1 ∙ queued-not_pending op.stage of;
      will = refl;
      keeps = (op, some.1, refl, refl);
      counts = λ chan. sym (ap (is_on chan) some.1);
      flight = flight-changes f n op (at_stage Running op) rest op_limit some.1
          (queue-taken f.operations n rest slot within refl holds) lawful.few_in_flight lawful.few_accepted;
    }

pub lawful-after_take : (g : Group) → IsLawful g → IsLawful (after_take g)
lawful-after_take g lawful = by_queue g.flight.queue refl
  where
    by_queue : (queue : List ℕ) → g.flight.queue ≡ queue
        → IsLawful (record g { flight = flight_after_take g.flight queue })
    by_queue [] is = lawful
    by_queue (n ∷ rest) is =
        let taken = taken-front g.flight g.op_limit n rest (flight-lawful g lawful) is in
        rw taken.is
        (lawful-unpending g taken.n taken.slot taken.rest lawful taken.within taken.was taken.will taken.keeps taken.flight)

pub kept-taken : {f : Flight} {cs : List Channel} {ps : List slots.Pending} {o r r' : ℕ} {sh : Bool} {l : GroupLimits}
    → IsGroupKept f cs ps o sh l r r' → IsGroupKept (flight_after_take f f.queue) cs ps o sh l r r'
kept-taken {f} {cs} {ps} {o} {r} {r'} {sh} {l} kept =
    let g : Group = group_of f cs sh l in
    let after = by_queue f.queue refl in
    kept-operations (flight_after_take f f.queue) kept (lawful-after_take g kept.lawful) after.0 after.1 after.2
  where
    by_queue : (queue : List ℕ) → f.queue ≡ queue
        → ((flight_after_take f queue).limit ≡ f.limit) × IsListed (flight_after_take f queue) ps
        × AreCounted (flight_after_take f queue) cs ps
    by_queue [] is = (refl, kept.is_listed, kept.are_counted)
    by_queue (n ∷ rest) is =
        let taken = taken-front f l.ops n rest (flight-lawful (group_of f cs sh l) kept.lawful) is in (
          refl,
          rw taken.is
              (listed-unpending f ps taken.n taken.slot taken.rest kept.is_listed taken.within taken.was taken.will),
          subst (λ (x : Flight). AreCounted x cs ps) (sym taken.is)
              (counted-same f (record f { operations = set f.operations taken.n taken.slot; queue = taken.rest }) cs cs ps
              (λ c. count-same (name_in cs c) f.operations taken.n taken.slot taken.within
              (taken.counts (name_in cs c))) kept.are_counted),
        )

-- an operation ends
record IsEnding (f : Flight) (op_limit n : ℕ) : Type 0 where
  within : n < length f.operations
  was : is_pending (op_at f n) ≡ false
  flight : IsFlightLawful (with_ended f n) op_limit

ending : (f : Flight) (op_limit n : ℕ) → IsFlightLawful f op_limit → is_running (op_at f n) ≡ true
    → IsEnding f op_limit n
ending f op_limit n lawful running =
    let some = running-some (op_at f n) running in
    let op = some.0 in
    let within = some-within f.operations n op some.1 in
    let of : is_running (Some op) ≡ true = rw some.1 at running in
    let not_queued : is_queued (get_or f.operations n None) ≡ false = rw some.1 (not_queued-running op of) in
    let few = lawful.few_in_flight in
    let few_numbers = lawful.few_accepted in
    let counts = rw some.1 at (count_by-set is_some f.operations n None None within) in
    record {
      within = within;
      was = rw some.1 (running-not_pending op.stage of);
      flight = record {
        queued_once = queue-set f.operations f.queue n None within not_queued lawful.queued_once;
        few_in_flight = omega (arith, counts);
        few_accepted = omega (arith, length-set f.operations n None);
      };
    }

pub lawful-ended : (g : Group) (n : ℕ) → IsLawful g → is_running (op_at g.flight n) ≡ true
    → IsLawful (record g { flight = with_ended g.flight n })
lawful-ended g n lawful running =
    let ends = ending g.flight g.op_limit n (flight-lawful g lawful) running in
    lawful-unpending g n None g.flight.queue lawful ends.within ends.was refl tt ends.flight

pub lawful-after_finish : (g : Group) (n : ℕ) → IsLawful g → IsLawful (after_finish g n)
lawful-after_finish g n lawful = by_running (is_running (op_at g.flight n)) refl
  where
    by_running : (b : Bool) → is_running (op_at g.flight n) ≡ b
        → IsLawful (kept_if_refused (finish_refusal b) g (record g { flight = with_ended g.flight n }))
    by_running false is = lawful
    by_running true is = lawful-ended g n lawful is

-- the operations that are counted of a channel once one has ended
count-ended : (chan : GChan) (xs : List (Option Operation)) (n : ℕ) (op : Operation) → get_or xs n None ≡ Some op
    → n < length xs
    → count_by (is_on chan) (set xs n None) + cond (is_on chan (Some op)) 1 0 ≡ count_by (is_on chan) xs
count-ended chan xs n op is l =
    let counts = rw is at (count_by-set (is_on chan) xs n None None l) in
    omega (arith, counts)

less-by : (a b : ℕ) (counts : Bool) → a + cond counts 1 0 ≡ b → cond counts (b - 1) b ≡ a
less-by a b true h = omega arith
less-by a b false h = omega arith

pub kept-ended : {f : Flight} {cs : List Channel} {ps : List slots.Pending} {o r r' : ℕ} {sh : Bool} {l : GroupLimits}
    (n : ℕ) (op : Operation) (x : Channel) (p : slots.Pending)
    → IsGroupKept f cs ps o sh l r r' → op_at f n ≡ Some op → is_running (op_at f n) ≡ true
    → x ≡ get_or cs op.chan.number x → p ≡ get_or ps op.chan.number p
    → IsGroupKept (with_ended f n) cs (set ps op.chan.number (with_one_less p (eqb x.serial op.chan.serial))) o sh l r
    r'
kept-ended {f} {cs} {ps} {o} {r} {r'} {sh} {l} n op x p kept is_op running read read_slot =
    let g : Group = group_of f cs sh l in
    let c = op.chan.number in
    let ends = ending f l.ops n (flight-lawful g kept.lawful) running in
    let slots_are = kept.slots in
    let made = kept.lawful.made n op is_op in
    let is : x ≡ get_or cs c no_channel = get_or_read cs c x made.0 read no_channel in
    let is_slot : p ≡ get_or ps c nothing_pending = get_or_read ps c p (omega (arith, made.0)) read_slot nothing_pending
    in
    let own = count-ended (name_in cs c) f.operations n op is_op ends.within in
    let counts = rw (on-own cs op) at own in
    let less = less-by _ _ (eqb (get_or cs c no_channel).serial op.chan.serial) counts in
    let q : slots.Pending = with_one_less (get_or ps c nothing_pending)
    (eqb (get_or cs c no_channel).serial op.chan.serial) in
    rw (is, is_slot)
    (kept-slots c q
    (kept-unlisted (with_ended f n) kept (lawful-ended g n kept.lawful running) refl
    (listed-unpending f ps n None f.queue kept.is_listed ends.within ends.was refl))
    (λ kind. slot_of-counted (get_or ps c nothing_pending) q.in_flight kind) (omega (arith, made.0))
    (counted-channel f (with_ended f n) cs cs ps c q (omega (arith, made.0))
    (λ d differ.
    let other = rw (on-other cs d op differ) at (count-ended (name_in cs d) f.operations n op is_op ends.within) in
    omega (arith, other))
    (rw (kept.are_counted c) less) kept.are_counted))

-- the numbers of what is pending on a channel
count-below : (c k m : ℕ) (xs : List (Option Operation)) → m < k → count_by (λ j. eqb j m) (pending_from c k xs) ≡ 0
count-below c k m [] l = refl
count-below c k m (x ∷ xs) l =
    let rest = count-below c (k + 1) m xs (omega arith) in
    by_test (is_pending_on c x)
    (λ t.
    let differ : eqb k m ≡ false = ne_eqb k m (omega arith) in
    let zero_here : cond (eqb k m) 1 0 ≡ 0 = ap {B = ℕ} (λ (b : Bool). cond b 1 0) differ in
    rw t (omega (arith, count_by-cons (λ j. eqb j m) k (pending_from c (k + 1) xs), rest, zero_here)))
    (λ f. rw f rest)

count-pending_from : (c k n : ℕ) (xs : List (Option Operation))
    → count_by (λ j. eqb j (k + n)) (pending_from c k xs) ≡ once_if (is_pending_on c (get_or xs n None))
count-pending_from c k n [] = refl
count-pending_from c k zero (x ∷ xs) =
    let rest = count-below c (k + 1) (k + 0) xs (omega arith) in
    by_test (is_pending_on c x)
    (λ t.
    let same : eqb k (k + 0) ≡ true = subst (λ (i : ℕ). eqb k i ≡ true) (omega arith) (eqb-same k) in
    let one_here : cond (eqb k (k + 0)) 1 0 ≡ 1 = ap {B = ℕ} (λ (b : Bool). cond b 1 0) same in
    rw t (omega (arith, count_by-cons (λ j. eqb j (k + 0)) k (pending_from c (k + 1) xs), rest, one_here)))
    (λ f. rw f rest)
count-pending_from c k (suc n) (x ∷ xs) =
    let rest : count_by (λ j. eqb j (k + suc n)) (pending_from c (k + 1) xs) ≡ once_if
    (is_pending_on c (get_or xs n None)) =
    subst (λ (i : ℕ). count_by (λ j. eqb j i) (pending_from c (k + 1) xs)
    ≡ once_if (is_pending_on c (get_or xs n None))) (omega arith) (count-pending_from c (k + 1) n xs) in
    by_test (is_pending_on c x)
    (λ t.
    let differ : eqb k (k + suc n) ≡ false = ne_eqb k (k + suc n) (omega arith) in
    let zero_here : cond (eqb k (k + suc n)) 1 0 ≡ 0 = ap {B = ℕ} (λ (b : Bool). cond b 1 0) differ in
    rw t (omega (arith, count_by-cons (λ j. eqb j (k + suc n)) k (pending_from c (k + 1) xs), rest, zero_here)))
    (λ f. rw f rest)

pending-not_queued : (slot : Option Operation) (c : ℕ) → is_pending_on c slot ≡ true → is_queued slot ≡ false
pending-not_queued None c h = refl
pending-not_queued (Some op) c h =
    not_queued-pending op (and_parts (stage_is_pending op.stage) (eqb op.chan.number c) h).0

closed-queued : (slot : Option Operation) (c : ℕ) → is_pending_on c slot ≡ true → is_queued (closed_on c slot) ≡ true
closed-queued None c h = absurd (false≢true h)
closed-queued (Some op) c h = rw h refl

pub queue-closed : (c : ℕ) (xs : List (Option Operation)) (queue : List ℕ) → QueueHolds xs queue
    → QueueHolds (map (closed_on c) xs) (queue ++ pending_from c 0 xs)
queue-closed c xs queue holds n =
    let slot = get_or xs n None in
    let had = holds n in
    let also : count_by (λ j. eqb j n) (pending_from c 0 xs) ≡ once_if (is_pending_on c slot) =
    subst (λ (i : ℕ). count_by (λ j. eqb j i) (pending_from c 0 xs) ≡ once_if (is_pending_on c slot)) (omega arith)
    (count-pending_from c 0 n xs) in
    let both = sum_by-append (λ j. cond (eqb j n) 1 0) queue (pending_from c 0 xs) in
    rw (get_or-map (closed_on c) xs n None)
    (by_test (is_pending_on c slot)
    (λ t.
    let none = rw (pending-not_queued slot c t) at had in
    let one = rw t at also in
    rw (closed-queued slot c t) (omega (arith, both, none, one)))
    (λ f.
    let none = rw f at also in
    let same : closed_on c slot ≡ slot = rw f refl in
    rw same (omega (arith, both, had, none))))

-- what is pending after a channel was closed
pending-closed : (c d : ℕ) (kind : OpKind) (slot : Option Operation) → is_pending_as d kind (closed_on c slot) ≡ true
    → (d ≢ c) × (is_pending_as d kind slot ≡ true)
pending-closed c d kind None h = absurd (false≢true h)
pending-closed c d kind (Some op) h =
    by_test (is_pending_on c (Some op))
    (λ t.
    let closed : is_pending_as d kind (closed_on c (Some op)) ≡ false = rw t refl in
    absurd (false≢true (sym closed ∙ h)))
    (λ f.
    let same : closed_on c (Some op) ≡ Some op = rw f refl in
    let still : is_pending_as d kind (Some op) ≡ true = subst
    (λ (slot : Option Operation). is_pending_as d kind slot ≡ true) same h in (
      λ e.
          let on : is_pending_on c (Some op) ≡ true = subst (λ (i : ℕ). is_pending_on i (Some op) ≡ true) e
          (pending_as-on d kind (Some op) still) in
          false≢true (sym f ∙ on),
      still,
    ))

pending-stays : (c d : ℕ) (kind : OpKind) (slot : Option Operation) → d ≢ c → is_pending_as d kind slot ≡ true
    → is_pending_as d kind (closed_on c slot) ≡ true
pending-stays c d kind None differ h = h
pending-stays c d kind (Some op) differ h =
    let parts = pending-parts d kind op h in
    let elsewhere : eqb op.chan.number c ≡ false = ne_eqb op.chan.number c (λ e. differ (sym parts.chan ∙ e)) in
    let off : is_pending_on c (Some op) ≡ false = and-false (stage_is_pending op.stage) (eqb op.chan.number c) elsewhere in
    let same : closed_on c (Some op) ≡ Some op = rw off refl in
    rw same h
  where
    and-false : (a b : Bool) → b ≡ false → (a && b) ≡ false
    and-false true b e = e
    and-false false b e = refl

count-closed : (c : ℕ) (xs : List (Option Operation)) → count_by is_some (map (closed_on c) xs) ≡ count_by is_some xs
count-closed c [] = refl
count-closed c (x ∷ xs) =
    let same : is_some (closed_on c x) ≡ is_some x = some-closed c x in
    let bits : cond {A = ℕ} (is_some (closed_on c x)) 1 0 ≡ cond {A = ℕ} (is_some x) 1 0 = ap {B = ℕ}
    (λ (b : Bool). cond b 1 0) same in
    omega (
      arith,
      count_by-cons is_some (closed_on c x) (map (closed_on c) xs),
      count_by-cons is_some x xs,
      bits,
      count-closed c xs,
    )
  where
    some-closed : (d : ℕ) (slot : Option Operation) → is_some (closed_on d slot) ≡ is_some slot
    some-closed d None = refl
    some-closed d (Some op) = by_test (is_pending_on d (Some op)) (λ t. rw t refl) (λ f. rw f refl)

closed-at_is : (f : Flight) (c d : ℕ) (kind : OpKind) (n : ℕ) → IsPendingAs (with_channel_closed f c) d kind n
    → (d ≢ c) × IsPendingAs f d kind n
closed-at_is f c d kind n h = pending-closed c d kind (op_at f n)
    (rw (get_or-map (closed_on c) f.operations n None) at h)

closed-at_stays : (f : Flight) (c d : ℕ) (kind : OpKind) (n : ℕ) → d ≢ c → IsPendingAs f d kind n
    → IsPendingAs (with_channel_closed f c) d kind n
closed-at_stays f c d kind n differ h =
    rw (get_or-map (closed_on c) f.operations n None) (pending-stays c d kind (op_at f n) differ h)

pub lawful-closed : (g : Group) (c : ℕ) → IsLawful g → c < length g.channels
    → IsLawful
    (record g {
      flight = with_channel_closed g.flight c;
      channels =
          set g.channels c (record (channel_at g c) { is_open = false });
    })
lawful-closed g c lawful within =
    let xs = g.flight.operations in
    let few = lawful.few_in_flight in
    let few_numbers = lawful.few_accepted in
    lawful-channel g (with_channel_closed g.flight c) c (record (channel_at g c) { is_open = false }) lawful within
    (record {
      queued_once = queue-closed c xs g.flight.queue lawful.queued_once;
      few_in_flight = omega (arith, count-closed c xs);
      few_accepted = omega (arith, length-map xs (closed_on c));
    })
    (of-channel (map (closed_on c) xs) g.channels c (record (channel_at g c) { is_open = false }) within (omega arith)
    (λ n op is pending same. refl) (of-closed c xs g.channels (of-channels g lawful)))
    (record {
      open_for = λ kind n h. absurd ((closed-at_is g.flight c c kind n h).0 refl);
      ready_for = λ kind n h. absurd ((closed-at_is g.flight c c kind n h).0 refl);
      once_for = λ kind m n h h'. absurd ((closed-at_is g.flight c c kind m h).0 refl);
      connects = λ o e. absurd (false≢true o);
    })
    (λ d kind n differ h. (closed-at_is g.flight c d kind n h).1)
    (λ d n differ h. closed-at_stays g.flight c d Connect n differ h)

pub kept-closed : {f : Flight} {cs : List Channel} {ps : List slots.Pending} {o r r' : ℕ} {sh : Bool} {l : GroupLimits}
    (c : ℕ) (x : Channel) (p : slots.Pending) → IsGroupKept f cs ps o sh l r r' → c < length cs → x ≡ get_or cs c x
    → p ≡ get_or ps c p → x.is_open ≡ true
    → IsGroupKept (with_channel_closed f c) (set cs c (record x { is_open = false })) (set ps c (none_pending p))
    (o - 1) sh l r r'
kept-closed {f} {cs} {ps} {o} {r} {r'} {sh} {l} c x p kept within read read_slot was_open =
    let slots_are = kept.slots in
    let is : x ≡ get_or cs c no_channel = get_or_read cs c x within read no_channel in
    let is_slot : p ≡ get_or ps c nothing_pending = get_or_read ps c p (omega arith) read_slot nothing_pending in
    let open_there : (get_or cs c no_channel).is_open ≡ true = ap (λ (y : Channel). y.is_open) (sym is) ∙ was_open in
    let one : cond {A = ℕ} (is_open (get_or cs c no_channel)) 1 0 ≡ 1 = ap {B = ℕ}
    (λ (b : Bool). cond b 1 0) open_there in
    let counts = count_by-set is_open cs c no_channel no_channel within in
    let counted = kept.opened_is in
    let some : 1 ≤ o = omega (arith, counts, one) in
    let fewer : o - 1 + cond {A = ℕ} (is_open (get_or cs c no_channel)) 1 0 ≡ o + 0 = omega (arith, one, some) in
    let closed : Channel = record (get_or cs c no_channel) { is_open = false } in
    let q : slots.Pending = none_pending (get_or ps c nothing_pending) in
    rw (is, is_slot)
    (kept-channel (with_channel_closed f c) c closed q (o - 1) kept within
    (lawful-closed (group_of f cs sh l) c kept.lawful within) refl
    fewer
    (listed-channel f (with_channel_closed f c) ps c q kept.is_listed (omega arith)
    (record {
      listed = λ kind n h. absurd (none-some n (sym (slot_of-counted nothing_pending q.in_flight kind ∙ slot_of-nothing kind) ∙ h));
      all = λ kind n h. absurd ((closed-at_is f c c kind n h).0 refl);
    })
    (λ d kind n differ h. closed-at_stays f c d kind n differ h)
    (λ d kind n differ h. (closed-at_is f c d kind n h).1))
    (counted-slots f (with_channel_closed f c) cs (set cs c closed) ps c q (omega arith)
    (λ d. ap (in_flight_on (with_channel_closed f c)) (name-set cs c closed d within refl)
    ∙ count-closed_on (name_in cs d) c f.operations) refl kept.are_counted))

-- what the slots of a channel lead to
pub job-pending : {f : Flight} {cs : List Channel} {ps : List slots.Pending} {o r r' : ℕ} {sh : Bool} {l : GroupLimits}
    (c : ℕ) (kind : OpKind) (p : slots.Pending) (n : ℕ) (op : Operation)
    → IsGroupKept f cs ps o sh l r r' → c < length cs → p ≡ get_or ps c p → slot_of p kind ≡ Some n
    → op_at f n ≡ Some op → IsPendingOf c kind op
job-pending {f} {cs} {ps} c kind p n op kept within read slot is =
    let slots_are = kept.slots in
    let is_slot : p ≡ get_or ps c nothing_pending = get_or_read ps c p (omega arith) read nothing_pending in
    let listed = kept.is_listed.listed c kind n (ap (λ (q : slots.Pending). slot_of q kind) (sym is_slot) ∙ slot) in
    pending-parts c kind op (rw is at listed)

-- and of which channel that is
pub job-named : {f : Flight} {cs : List Channel} {ps : List slots.Pending} {o r r' : ℕ} {sh : Bool} {l : GroupLimits}
    (chan : GChan) (n : ℕ) (op : Operation)
    → IsGroupKept f cs ps o sh l r r' → op_at f n ≡ Some op → op.stage ≡ Pending → op.chan.number ≡ chan.number
    → is_present (group_of f cs sh l) chan ≡ true → op.chan ≡ chan
job-named {f} {cs} {ps} {o} {r} {r'} {sh} {l} chan n op kept is stage same present =
    let own = eqb-true (get_or cs op.chan.number no_channel).serial op.chan.serial
    (kept.lawful.present n op is (rw stage refl)) in
    let named = eqb-true (get_or cs chan.number no_channel).serial chan.serial present in
    let serial : op.chan.serial ≡ chan.serial = sym own
    ∙ ap (λ (k : ℕ). (get_or cs k no_channel).serial) same ∙ named in
    rw (same, serial) refl

-- an operation that was found running
pub runs : (slot : Option Operation) (op : Operation) → cond (is_running slot) slot None ≡ Some op
    → (slot ≡ Some op) × (is_running (Some op) ≡ true)
runs None op h = absurd (none-some op h)
runs (Some op') op h =
    by_test (is_running (Some op'))
    (λ t. let same : Some op' ≡ Some op = rw t at h in (same, subst (λ (slot : Option Operation). is_running slot ≡ true) same t))
    (λ f. absurd (none-some op (rw f at h)))

-- it is counted, where its channel is the one that its number has
pub ended-counted : {f : Flight} {cs : List Channel} {ps : List slots.Pending} {o r r' : ℕ} {sh : Bool}
    {l : GroupLimits} (n : ℕ) (op : Operation) (x : Channel) (p : slots.Pending)
    → IsGroupKept f cs ps o sh l r r' → op_at f n ≡ Some op → x ≡ get_or cs op.chan.number x
    → p ≡ get_or ps op.chan.number p → eqb x.serial op.chan.serial ≡ true → 1 ≤ p.in_flight
ended-counted {f} {cs} {ps} n op x p kept is read read_slot counts =
    let c = op.chan.number in
    let slots_are = kept.slots in
    let made = kept.lawful.made n op is in
    let is_there : x ≡ get_or cs c no_channel = get_or_read cs c x made.0 read no_channel in
    let is_slot : p ≡ get_or ps c nothing_pending = get_or_read ps c p (omega (arith, made.0)) read_slot nothing_pending
    in
    let own : is_on (name_in cs c) (op_at f n) ≡ true = ap (is_on (name_in cs c)) is ∙ on-own cs op
    ∙ ap (λ (y : Channel). eqb y.serial op.chan.serial) (sym is_there) ∙ counts in
    let some = count-some (name_in cs c) f.operations n (some-within f.operations n op is) own in
    let count = ap (λ (q : slots.Pending). q.in_flight) is_slot ∙ kept.are_counted c in
    omega (arith, some, count)
