-- A group with time limits after each call.
use Rattle.std.proofs.Common.{◌≡◌, ℕ, ◌<◌, ◌≤◌, Bool, true, false, not, ◌&&◌, eqb, List, [], ◌∷◌, ◌++◌, filter, Option}
use Rattle.std.proofs.Common.{Some, None, length, refl, sym, ap, ◌∙◌, subst, arith, count_by, is_some, set, get_or}
use Rattle.std.proofs.Common.{get_or-set_other, Ok, Err, Result, OnErr, ◌↔◌, IfSome, IsNone}
use Rattle.std.proofs.lemmas.Bool.{false≢true, eqb-true, eqb-false}
use Rattle.nio_base.specs.declared.group.OpKind.{OpKind}
use Rattle.nio_base.specs.declared.group.OpKind.TheVariants.{Accept, Connect, Read, Write}
use Rattle.nio_group.specs.declared.operation.Operation.{Operation}
use Rattle.nio_group.specs.Completion.{JobFields}
use Rattle.nio_group.specs.Flight.{Flight, op_at, accepted, IsPendingAs, with_completed}
use Rattle.nio_group.specs.Group as group
use Rattle.nio_group.specs.Group.{Group, is_present}
use Rattle.nio_group.specs.Run as run
use Rattle.nio_group.specs.Stages.{is_pending}
use Rattle.nio_base.specs.declared.group.Outcome.{Outcome}
use Rattle.nio_group.specs.Refusals.{report_refusal}
use Rattle.nio_base.specs.declared.numbers.GChan.{GChan}
use Rattle.nio_group.specs.declared.channel.Endpoint.TheVariants.{Stream}
use Rattle.nio_group.specs.declared.channel.Link.TheVariants.{Connected}
use Rattle.nio_group.specs.Steps.{after_close, after_closing, completed, accepted_name, after_report, after_shutdown_now, kept_if_refused, unless_refused}
use Rattle.nio_group.specs.Steps.{reported, result_of, IsJobOf}
use Rattle.nio_group.proofs.ListLemmas.{eqb-same}
use Rattle.nio_group.proofs.PendingLemmas.{same_kind-refl, pending-as-pending}
use Rattle.nio_group.proofs.FlightLemmas.{some-within}
use Rattle.nio_group.proofs.StageLemmas.{IsStepped, stepped-after, made-flight}
use Rattle.nio_group.proofs.TableLemmas.{by_test, count_by-set}
use Rattle.nio_deadline.specs.Deadlines.{Deadline, AreInOrder, IsBefore, without}
use Rattle.nio_deadline.specs.Kept.{IsTimedKept, without_job, IsAboveAll, timed_of}
use Rattle.nio_deadline.specs.Timed.{Timed, ArePending, IsLawful, IsPartOf, no_number, passed, listed, with_group}
use Rattle.nio_deadline.specs.Timed.{may_have_limit}
use Rattle.nio_deadline.proofs.DeadlineLemmas.{filter-in_order}
use Rattle.nio_deadline.proofs.FilterLemmas.{AreSo, filter-same, filter-all, filter-none, filter-twice, filter-fewer}
use Rattle.nio_deadline.proofs.FilterLemmas.{all-so}
use Rattle.nio_deadline.proofs.PendingLemmas.{Stays, as-chan, next-as, next-on, pending-closed, pending-completed, none-pending}
use Rattle.nio_deadline.proofs.QueueLemmas.{Keeps}
use Rattle.nio_group.proofs.GroupLemmas.{pending-within}
use Rattle.std.proofs.Math.Bool.{and-false}
use Rattle.nio_group.proofs.RunLemmas.{lawful-after}

-- ---- deadlines of pending operations

pub pending-so : (g : Group) (P : Deadline → Type 0) (ds : List Deadline)
    → ((d : Deadline) → IsPendingAs g.flight d.chan.number d.kind d.op → may_have_limit d.kind ≡ true → P d)
    → ArePending g ds → AreSo P ds
pending-so g P [] holds pending = tt
pending-so g P (d ∷ ds) holds pending =
    (holds d pending.0.0 pending.1, pending-so g P ds holds pending.2)

-- where each pending operation stays so all deadlines stay
pub all-stay : (g g' : Group) (ds : List Deadline) → Stays g.flight g'.flight → ArePending g ds
    → ds ≡ filter (λ d. is_pending (op_at g'.flight d.op)) ds
all-stay g g' ds stays pending =
    filter-all (λ d. is_pending (op_at g'.flight d.op)) ds
    (pending-so g (λ d. is_pending (op_at g'.flight d.op) ≡ true) ds
    (λ d p limited. stays d.op (pending-as-pending d.chan.number d.kind (op_at g.flight d.op) p)) pending)

pub still-pending : (g g' : Group) (ds : List Deadline) → IsStepped g.flight g'.flight → ArePending g ds
    → ArePending g' (filter (λ d. is_pending (op_at g'.flight d.op)) ds)
still-pending g g' [] step pending = tt
still-pending g g' (d ∷ ds) step pending =
    let rest = still-pending g g' ds step pending.2 in
    by_test (is_pending (op_at g'.flight d.op))
    (λ t.
    let next = step.next d.op (pending-within g.flight.operations d.chan.number d.kind d.op pending.0.0) in
    rw t (
      (
        next-as d.chan.number d.kind (op_at g.flight d.op) (op_at g'.flight d.op) next pending.0.0 t,
        next-on d.chan (op_at g.flight d.op) (op_at g'.flight d.op) next pending.0.1 t,
      ),
      pending.1,
      rest,
    ))
    (λ e. rw e rest)

pub above-all : (g : Group) (ds : List Deadline) → ArePending g ds → IsAboveAll (accepted g.flight) ds
above-all g [] pending = tt
above-all g (d ∷ ds) pending =
    (pending-within g.flight.operations d.chan.number d.kind d.op pending.0.0, above-all g ds pending.2)

-- ---- parts of a queue

pub part-grows : {ms ns : List ℕ} (more : List ℕ) → IsPartOf ms ns → IsPartOf ms (ns ++ more)
part-grows more (no_number ns) = no_number (ns ++ more)
part-grows more (passed part) = passed (part-grows more part)
part-grows more (listed part) = listed (part-grows more part)

part-last : (ns : List ℕ) (n : ℕ) → IsPartOf (n ∷ []) (ns ++ n ∷ [])
part-last [] n = listed (no_number [])
part-last (k ∷ ns) n = passed (part-last ns n)

pub part-push : {ms ns : List ℕ} (n : ℕ) → IsPartOf ms ns → IsPartOf (ms ++ n ∷ []) (ns ++ n ∷ [])
part-push n (no_number ns) = part-last ns n
part-push n (passed part) = passed (part-push n part)
part-push n (listed part) = listed (part-push n part)

-- ---- every call but `take`

pub lawful-with_group : (t : Timed) (g : Group) → IsLawful t → group.IsLawful g → IsStepped t.group.flight g.flight
    → Keeps t.group g → IsLawful (with_group t g)
lawful-with_group t g lawful next step keeps =
    record {
      group = next;
      pending = still-pending t.group g t.deadlines step lawful.pending;
      in_order = filter-in_order (λ d. is_pending (op_at g.flight d.op)) t.deadlines lawful.in_order;
      queued = rw keeps.queue (part-grows keeps.more lawful.queued);
      each_channel = lawful.each_channel ∙ sym keeps.channels;
    }

-- a call of the group's was made, and the deadlines of what is still pending are left
pub kept-call : (t : Timed) (call : run.Call) (ds : List Deadline) (len room : ℕ) → IsTimedKept t len room
    → run.IsCallOf t.group call → Keeps t.group (run.after t.group call)
    → ds ≡ filter (λ d. is_pending (op_at (run.after t.group call).flight d.op)) t.deadlines
    → IsTimedKept (timed_of (run.after t.group call) ds t.timed_out t.kinds) len room
kept-call t call ds len room kept made keeps same =
    let g = run.after t.group call in
    let fewer = filter-fewer (λ d. is_pending (op_at g.flight d.op)) t.deadlines in
    let had = kept.has_room in
    rw same
    (record {
      lawful = lawful-with_group t g kept.lawful (lawful-after t.group call kept.lawful.group made)
          (stepped-after t.group call kept.lawful.group) keeps;
      counted = kept.counted;
      has_room = omega (arith, fewer, had);
      few_in_flight = rw keeps.flight kept.few_in_flight;
    })

-- ---- how many deadlines there are

some-as : (f : Flight) (c n : ℕ) (kind : OpKind) → IsPendingAs f c kind n → is_some (op_at f n) ≡ true
some-as f c n kind h = by_slot (op_at f n) refl
  where
    by_slot : (slot : Option Operation) → op_at f n ≡ slot → is_some slot ≡ true
    by_slot None is = absurd (false≢true (sym (ap is_pending is) ∙ pending-as-pending c kind (op_at f n) h))
    by_slot (Some op) is = refl

abbrev AreSome : List (Option Operation) → List Deadline → Type 0
AreSome xs ds = AreSo (λ d. is_some (get_or xs d.op None) ≡ true) ds

some-others : (xs : List (Option Operation)) (d : Deadline) (ds : List Deadline) → IsBefore d ds → AreSome xs ds
    → AreSome (set xs d.op None) ds
some-others xs d [] before some = tt
some-others xs d (e ∷ es) before some = (
  ap is_some (get_or-set_other xs d.op e.op None None (λ same. before.1 (sym same))) ∙ some.0,
  some-others xs d es before.2 some.1,
)

fewer-than : (xs : List (Option Operation)) (ds : List Deadline) → AreInOrder ds → AreSome xs ds
    → length ds ≤ count_by is_some xs
fewer-than xs [] order some = omega arith
fewer-than xs (d ∷ ds) order some =
    let rest = fewer-than (set xs d.op None) ds order.1 (some-others xs d ds order.0 some.1) in
    let counts = rw some.0 at (count_by-set is_some xs d.op None None (within (get_or xs d.op None) refl)) in
    omega (arith, rest, counts)
  where
    within : (slot : Option Operation) → get_or xs d.op None ≡ slot → d.op < length xs
    within None is = absurd (false≢true (sym (ap is_some is) ∙ some.0))
    within (Some op) is = some-within xs d.op op is

-- there are no more deadlines than operations in flight
pub few-deadlines : (t : Timed) → IsLawful t → length t.deadlines ≤ t.group.flight.limit
few-deadlines t lawful =
    let some = pending-so t.group (λ d. is_some (get_or t.group.flight.operations d.op None) ≡ true) t.deadlines
    (λ d p limited. some-as t.group.flight d.chan.number d.op d.kind p) lawful.pending in
    let few = fewer-than t.group.flight.operations t.deadlines lawful.in_order some in
    let flight = lawful.group.few_in_flight in
    omega (arith, few, flight)

-- ---- `report`

pub when-free : {E : Type 0} (P : Group → Type 0) (r : Option E) (old new : Group) → r ≡ None → P new
    → P (kept_if_refused r old new)
when-free P None old new free holds = holds
when-free P (Some e) old new free holds = cc

pub when-refused : {E : Type 0} (P : Group → Type 0) (r : Option E) (e : E) (old new : Group) → r ≡ Some e → P old
    → P (kept_if_refused r old new)
when-refused P None e old new refused holds = cc
when-refused P (Some e') e old new refused holds = holds

pub ok-free : {T E : Type 0} (r : Option E) (x y : T) → Ok y ≡ unless_refused r x → r ≡ None
ok-free None x y is = refl
ok-free (Some e) x y is = cc

pub err-refused : {T E : Type 0} (r : Option E) (x : T) (e : E) → Err e ≡ unless_refused r x → r ≡ Some e
err-refused None x e is = cc
err-refused (Some e') x e is = let same : e ≡ e' = cc in ap Some (sym same)

-- a refused call leaves all as it was
pub refused-keeps : {T E : Type 0} {old : Timed} {left : Group} (r : Option E) (x : T) (answer : Result T E) (t : Timed)
    (new : Group) → answer ≡ unless_refused r x → left ≡ kept_if_refused r t.group new → t ≡ old
    → OnErr answer (timed_of left t.deadlines t.timed_out t.kinds ≡ old)
refused-keeps r x (Ok y) t new is after same = tt
refused-keeps r x (Err e) t new is after same =
    ap (λ (h : Group). timed_of h t.deadlines t.timed_out t.kinds)
    (after ∙ when-refused (λ (h : Group). h ≡ t.group) r e t.group new (err-refused r x e is) refl)
    ∙ same

-- a report that isn't refused completes its operation
pub record IsReported (g : Group) (n : ℕ) (o : Outcome) : Type 0 where
  pub op : Operation
  pub is : op_at g.flight n ≡ Some op
  pub left : (after_report g n o).flight ≡ with_completed g.flight n (result_of g o)

pub reported-flight : (g : Group) (n : ℕ) (o : Outcome) → report_refusal (op_at g.flight n) o ≡ None → IsReported g n o
reported-flight g n o free =
    let made = by_slot (op_at g.flight n) refl free in record { op = made.0; is = made.1; left = made.2 }
  where
    by_slot : (slot : Option Operation) → op_at g.flight n ≡ slot → report_refusal slot o ≡ None
        → (op : Operation) × (op_at g.flight n ≡ Some op)
        × ((kept_if_refused (report_refusal slot o) g (reported g n o slot)).flight
        ≡ with_completed g.flight n (result_of g o))
    by_slot None is refused = cc
    by_slot (Some op) is open_for = (
      op,
      is,
      when-free (λ (h : Group). h.flight ≡ with_completed g.flight n (result_of g o)) (report_refusal (Some op) o) g
          (reported g n o (Some op)) open_for
          (made-flight (completed g n o (result_of g o) op) (accepted_name g o) (Stream Connected)),
    )

pub reported-deadlines : (g : Group) (n : ℕ) (o : Outcome) (ds : List Deadline)
    → report_refusal (op_at g.flight n) o ≡ None → ArePending g ds
    → without n ds ≡ filter (λ d. is_pending (op_at (after_report g n o).flight d.op)) ds
reported-deadlines g n o ds free pending =
    let made = reported-flight g n o free in
    filter-same (λ d. not (eqb d.op n)) (λ d. is_pending (op_at (after_report g n o).flight d.op)) ds
    (pending-so g (λ d. not (eqb d.op n) ≡ is_pending (op_at (after_report g n o).flight d.op)) ds
    (λ d p limited. sym
    (ap (λ (f : Flight). is_pending (op_at f d.op)) made.left
    ∙ pending-completed g.flight n made.op (result_of g o) made.is d.op
    (pending-as-pending d.chan.number d.kind (op_at g.flight d.op) p))) pending)

-- ---- `close_channel`

abbrev stays_by : Option JobFields → Deadline → Bool
stays_by None d = true
stays_by (Some job) d = not (eqb d.op job.op.0)

without-job-is : (job : Option JobFields) (ds : List Deadline) → without_job job ds ≡ filter (stays_by job) ds
without-job-is None ds = filter-all (stays_by None) ds (all-so (λ d. true ≡ true) ds (λ d. refl))
without-job-is (Some job) ds = refl

job-pending : (g : Group) (chan : GChan) (kind : OpKind) (job : JobFields) → IsJobOf g chan kind job
    → IsPendingAs g.flight chan.number kind job.op.0
job-pending g chan kind job is =
    rw (is.pending, is.chan, is.same_kind, eqb-same chan.number, same_kind-refl kind) refl

-- what `job` answers for a channel and a kind
pub record IsJobAt (g : Group) (chan : GChan) (kind : OpKind) (job : Option JobFields) : Type 0 where
  pub some : IfSome job (λ x. IsJobOf g chan kind x)
  pub none : IsNone job
      ↔ (is_present g chan ≡ true → (n : ℕ) → IsPendingAs g.flight chan.number kind n → ⊥)

job-removes : (g : Group) (chan : GChan) (kind : OpKind) (d : Deadline) (job : Option JobFields) → group.IsLawful g
    → is_present g chan ≡ true → IsJobAt g chan kind job → IsPendingAs g.flight chan.number kind d.op
    → stays_by job d ≡ false
job-removes g chan kind d None lawful present at pending = absurd (at.none.0 refl present d.op pending)
job-removes g chan kind d (Some job) lawful present at pending =
    let same : d.op ≡ job.op.0 = lawful.one_each d.op job.op.0 chan.number kind pending
    (job-pending g chan kind job at.some) in
    rw (same, eqb-same job.op.0) refl

job-spares : (g : Group) (chan : GChan) (kind : OpKind) (d : Deadline) (job : Option JobFields)
    → IsJobAt g chan kind job → IsPendingAs g.flight d.chan.number d.kind d.op
    → eqb d.chan.number chan.number ≡ false → stays_by job d ≡ true
job-spares g chan kind d None at pending other = refl
job-spares g chan kind d (Some job) at pending other =
    by_test (eqb d.op job.op.0)
    (λ t.
    let here : IsPendingAs g.flight chan.number kind d.op =
    subst (λ (k : ℕ). IsPendingAs g.flight chan.number kind k) (sym (eqb-true d.op job.op.0 t))
    (job-pending g chan kind job at.some) in
    absurd (eqb-false d.chan.number chan.number other
    (as-chan d.chan.number chan.number d.kind kind (op_at g.flight d.op) pending here).0))
    (λ e. rw e refl)

-- a name whose number has another channel by now has no job
job-absent : (g : Group) (chan : GChan) (kind : OpKind) (job : Option JobFields) → group.IsLawful g
    → is_present g chan ≡ false → IsJobAt g chan kind job → job ≡ None
job-absent g chan kind None lawful absent at = refl
job-absent g chan kind (Some job) lawful absent at =
    let present = lawful.present job.op.0 _ at.some.pending refl in
    absurd (false≢true (sym absent ∙ subst (λ (x : GChan). is_present g x ≡ true) at.some.chan present))

closed-present : (g : Group) (chan : GChan) (ds : List Deadline) (r w : Option JobFields) → group.IsLawful g
    → is_present g chan ≡ true → ArePending g ds → IsJobAt g chan Read r → IsJobAt g chan Write w
    → without_job w (without_job r ds) ≡ filter (λ d. is_pending (op_at (after_closing g chan.number).flight d.op)) ds
closed-present g chan ds r w lawful present pending reads writes =
    without-job-is w (without_job r ds)
    ∙ ap (λ es. filter (stays_by w) es) (without-job-is r ds)
    ∙ filter-twice (stays_by r) (stays_by w) ds
    ∙ filter-same (λ d. stays_by r d && stays_by w d) (λ d. is_pending (op_at (after_closing g chan.number).flight d.op)) ds
    (pending-so g (λ d. (stays_by r d && stays_by w d) ≡ is_pending (op_at
    (after_closing g chan.number).flight d.op)) ds each pending)
  where
    by_kind : (d : Deadline) (kind : OpKind) → d.kind ≡ kind → may_have_limit kind ≡ true
        → IsPendingAs g.flight chan.number kind d.op → (stays_by r d && stays_by w d) ≡ false
    by_kind d Accept is limited here = absurd (false≢true limited)
    by_kind d Connect is limited here = absurd (false≢true limited)
    by_kind d Read is limited here = rw (job-removes g chan Read d r lawful present reads here) refl
    by_kind d Write is limited here =
        ap (λ b. stays_by r d && b) (job-removes g chan Write d w lawful present writes here) ∙ and-false (stays_by r d)

    each : (d : Deadline) → IsPendingAs g.flight d.chan.number d.kind d.op → may_have_limit d.kind ≡ true
        → (stays_by r d && stays_by w d) ≡ is_pending (op_at (after_closing g chan.number).flight d.op)
    each d p limited =
        by_test (eqb d.chan.number chan.number)
        (λ t.
        let here : IsPendingAs g.flight chan.number d.kind d.op =
        subst (λ (k : ℕ). IsPendingAs g.flight k d.kind d.op) (eqb-true d.chan.number chan.number t) p in
        by_kind d d.kind refl limited here
        ∙ sym (pending-closed g chan.number d.chan.number d.op d.kind lawful p ∙ ap not t))
        (λ e.
        rw (job-spares g chan Read d r reads p e, job-spares g chan Write d w writes p e)
        (sym (pending-closed g chan.number d.chan.number d.op d.kind lawful p ∙ ap not e)))

pub closed-deadlines : (g : Group) (chan : GChan) (ds : List Deadline) (r w : Option JobFields) → group.IsLawful g
    → ArePending g ds → IsJobAt g chan Read r → IsJobAt g chan Write w
    → without_job w (without_job r ds) ≡ filter (λ d. is_pending (op_at (after_close g chan).flight d.op)) ds
closed-deadlines g chan ds r w lawful pending reads writes =
    by_test (is_present g chan)
    (λ t.
    let same : after_close g chan ≡ after_closing g chan.number = rw t refl in
    subst (λ (h : Group). without_job w (without_job r ds) ≡ filter (λ d. is_pending (op_at h.flight d.op)) ds) (sym same)
    (closed-present g chan ds r w lawful t pending reads writes))
    (λ f.
    let same : after_close g chan ≡ g = rw f refl in
    let reads_none = job-absent g chan Read r lawful f reads in
    let writes_none = job-absent g chan Write w lawful f writes in
    subst (λ (h : Group). without_job w (without_job r ds) ≡ filter (λ d. is_pending (op_at h.flight d.op)) ds) (sym same)
    (ap (λ (o : Option JobFields). without_job o (without_job r ds)) writes_none
    ∙ ap (λ (o : Option JobFields). without_job o ds) reads_none
    ∙ all-stay g g ds (λ n p. p) pending))

-- ---- `shutdown_now`

pub no-deadlines : (g : Group) (ds : List Deadline) → group.IsLawful (after_shutdown_now g)
    → [] ≡ filter (λ d. is_pending (op_at (after_shutdown_now g).flight d.op)) ds
no-deadlines g ds lawful =
    filter-none (λ d. is_pending (op_at (after_shutdown_now g).flight d.op)) ds
    (all-so (λ d. is_pending (op_at (after_shutdown_now g).flight d.op) ≡ false) ds
    (λ d. none-pending g d.op lawful))
