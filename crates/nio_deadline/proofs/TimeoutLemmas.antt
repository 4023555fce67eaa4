-- Over every list of calls an operation completes with `InterruptedByTimeout` exactly where it was due.
use Rattle.std.proofs.Common.{◌≡◌, ◌≢◌, ◌⊎◌, ◌↔◌, inl, inr, ℕ, ◌<◌, ◌≤◌, ◌+◌, Bool, true, false, cond, not, ◌&&◌, ◌||◌}
use Rattle.std.proofs.Common.{eqb, leb, List, [], ◌∷◌, ◌++◌, Option, Some, None, refl, sym, ap, ◌∙◌, subst, arith, drop}
use Rattle.std.proofs.Common.{count_by, get_or-set_other}
use Rattle.std.specs.List.{list_any}
use Rattle.std.specs.Option.{option_map}
use Rattle.std.proofs.lemmas.Bool.{false≢true, cases_lt, eqb-true, eqb-false, le-leb}
use Rattle.std.proofs.lemmas.List.{get_or_past, length-set}
use Rattle.nio_base.specs.declared.numbers.GChan.{GChan}
use Rattle.nio_base.specs.declared.numbers.OpNo.{OpNo}
use Rattle.nio_base.specs.declared.group.Finished.{Finished}
use Rattle.nio_base.specs.declared.group.OpKind.{OpKind}
use Rattle.nio_base.specs.declared.group.Outcome.TheVariants.{Fault}
use Rattle.nio_group.specs.declared.limits.GroupLimits.{GroupLimits}
use Rattle.nio_group.specs.declared.operation.Operation.{Operation}
use Rattle.nio_group.specs.declared.operation.Stage.{Stage}
use Rattle.nio_group.specs.declared.operation.Stage.TheVariants.{Pending, Queued, Running}
use Rattle.nio_group.specs.Completion.{CompletionFields}
use Rattle.nio_group.specs.Flight.{Flight, op_at, accepted, flight_after_take}
use Rattle.nio_group.specs.Group.{Group}
use Rattle.nio_group.specs.Refusals.{report_refusal}
use Rattle.nio_group.specs.Run as run
use Rattle.nio_group.specs.Run.{IsNext, GoesOn, has_completed, once_where}
use Rattle.nio_group.specs.Stages.{is_pending, is_queued, stage_is_pending}
use Rattle.nio_group.specs.Steps as group_steps
use Rattle.nio_group.specs.Steps.{after_report, answer_to_take}
use Rattle.nio_group.proofs.ListLemmas.{eqb-same, within-where}
use Rattle.nio_group.proofs.QueueLemmas.{QueueHolds, front-queued}
use Rattle.nio_group.proofs.RestLemmas.{at-rest, step-count, none-completed, completed-stays}
use Rattle.nio_group.proofs.StageLemmas.{IsStepped, stepped-after, next-not_pending, stepped-same}
use Rattle.nio_group.proofs.TableLemmas.{by_test}
use Rattle.nio_deadline.specs.Deadlines.{Deadline, due}
use Rattle.nio_deadline.specs.Kept.{timed_of}
use Rattle.nio_deadline.specs.Run.{Call, take, IsRunOf, after, left_by}
use Rattle.nio_deadline.specs.Run.{completions, CompletesOnce, LosesNone, IsCallOf}
use Rattle.nio_deadline.specs.Steps.{after_start, after_expire, after_take, with_timeout, started, is_among}
use Rattle.nio_deadline.specs.Steps.{without_number, done_of, answer_to_take as timed_answer}
use Rattle.nio_deadline.specs.Timed.{Timed, IsLawful, with_group, own_refusal, empty_timed}
use Rattle.nio_deadline.specs.declared.done.TimedDone.{TimedDone}
use Rattle.nio_deadline.specs.declared.done.TimedResult.{TimedResult}
use Rattle.nio_deadline.specs.declared.done.TimedResult.TheVariants.{Core, InterruptedByTimeout}
use Rattle.nio_deadline.proofs.Due.{is_due, is_due_at, was_due}
use Rattle.nio_deadline.proofs.ExpireLemmas.{fault-free, timeout-deadlines, first-pending}
use Rattle.nio_deadline.proofs.PendingLemmas.{pending-completed, stays-take}
use Rattle.nio_deadline.proofs.RunLemmas.{expire-by, kept-or, lawful-step, lawful-left, lawful-empty_timed, by-call}
use Rattle.nio_deadline.proofs.TakeLemmas.{front-is, left-queue, nothing-same, part-among, taken-nothing, taken-one}
use Rattle.nio_deadline.proofs.TimedLemmas.{reported-flight}
use Rattle.nio_group.proofs.PendingLemmas.{pending-as-pending}
use Rattle.nio_group.proofs.GroupLemmas.{pending-within}
use Rattle.std.proofs.Math.Bool.{or-false, or-true, or_assoc, and-false}
use Rattle.nio_group.proofs.FlightLemmas.{not_queued-pending}

-- ---- tests

-- ---- what is known of an operation in a run, where it was due or not

record Tells (n : ℕ) (late : Bool) (t : Timed) : Type 0 where
  pending : is_pending (op_at t.group.flight n) ≡ true → late ≡ false
  unknown : accepted t.group.flight ≤ n → late ≡ false
  queued : is_queued (op_at t.group.flight n) ≡ true → is_among n t.timed_out ≡ late

pub pending-idle : (slot : Option Operation) → is_pending slot ≡ true → is_queued slot ≡ false
pending-idle None p = refl
pending-idle (Some op) p = not_queued-pending op p

pub next-pending : (slot next : Option Operation) → IsNext slot next → is_pending next ≡ true → is_pending slot ≡ true
next-pending slot next is p =
    by_test (is_pending slot) (λ t. t) (λ f. absurd (false≢true (sym (next-not_pending slot next is f) ∙ p)))

goes-queued : (stage : Stage) (op : Operation) (next : Option Operation) → GoesOn stage op next → is_queued next
    ≡ true
    → stage_is_pending stage ≡ true
goes-queued Pending op next goes q = refl
goes-queued (Queued r) op next goes q = absurd (false≢true (rw goes at q))
goes-queued Running op next goes q = absurd (false≢true (rw goes at q))

next-queued : (slot next : Option Operation) → IsNext slot next → is_queued next ≡ true
    → (is_queued slot ≡ true) ⊎ (is_pending slot ≡ true)
next-queued None next is q = absurd (false≢true (rw is at q))
next-queued (Some op) next is q =
    elim is [ inl same ↦ inl (rw same at q) | inr goes ↦ inr (goes-queued op.stage op next goes q) ]

not-among-idle : (t : Timed) (n : ℕ) → IsLawful t → is_queued (op_at t.group.flight n) ≡ false
    → is_among n t.timed_out ≡ false
not-among-idle t n lawful idle =
    let counts : count_by (λ m. eqb m n) t.group.flight.queue ≡ 0 = rw idle at (lawful.group.queued_once n) in
    part-among n lawful.queued counts

past-idle : (f : Flight) (n : ℕ) → accepted f ≤ n → is_queued (op_at f n) ≡ false
past-idle f n past = ap is_queued (get_or_past f.operations n None past)

tells-stepped : (t t' : Timed) (n : ℕ) (late : Bool) → IsLawful t → IsStepped t.group.flight t'.group.flight
    → is_among n t'.timed_out ≡ is_among n t.timed_out → Tells n late t → Tells n late t'
tells-stepped t t' n late lawful step same tells =
    record {
      pending = λ p.
          elim (cases_lt n (accepted t.group.flight)) [
            | inl l ↦ tells.pending
                (next-pending (op_at t.group.flight n) (op_at t'.group.flight n) (step.next n l) p)
            | inr past ↦ tells.unknown past
          ];
      unknown = λ l. let more = step.accepts in tells.unknown (omega (arith, more));
      queued = λ q. same ∙ elim (cases_lt n (accepted t.group.flight)) [
        | inl l ↦ elim (next-queued (op_at t.group.flight n) (op_at t'.group.flight n) (step.next n l) q) [
          | inl was ↦ tells.queued was
          | inr p ↦
              not-among-idle t n lawful (pending-idle (op_at t.group.flight n) p) ∙ sym (tells.pending p)
        ]
        | inr past ↦
            not-among-idle t n lawful (past-idle t.group.flight n past) ∙ sym (tells.unknown past)
      ];
    }

-- ---- `expire`

among-push : (n m : ℕ) (ms : List ℕ) → is_among n (ms ++ m ∷ []) ≡ (is_among n ms || eqb m n)
among-push n m [] = or-false (eqb m n)
among-push n m (k ∷ ms) =
    ap (λ b. eqb k n || b) (among-push n m ms) ∙ sym (or_assoc (eqb k n) (is_among n ms) (eqb m n))

pub timeout-stepped : (t : Timed) (d : Deadline) → IsLawful t → IsStepped t.group.flight (with_timeout t d).group.flight
timeout-stepped t d lawful = stepped-after t.group (run.report (record { 0 = d.op }) Fault) lawful.group

-- the operation that times out isn't pending any more, and the others are as they were
reported-here : (g : Group) (n : ℕ) → report_refusal (op_at g.flight n) Fault ≡ None
    → is_pending (op_at g.flight n) ≡ true → is_pending (op_at (after_report g n Fault).flight n) ≡ false
reported-here g n free p =
    let made = reported-flight g n Fault free in
    ap (λ (f : Flight). is_pending (op_at f n)) made.left
    ∙ pending-completed g.flight n made.op (group_steps.result_of g Fault) made.is n p
    ∙ ap not (eqb-same n)

reported-others : (g : Group) (n m : ℕ) → report_refusal (op_at g.flight n) Fault ≡ None → m ≢ n
    → op_at (after_report g n Fault).flight m ≡ op_at g.flight m
reported-others g n m free other =
    ap (λ (f : Flight). op_at f m) (reported-flight g n Fault free).left
    ∙ get_or-set_other g.flight.operations n m _ None other

tells-timeout : (t : Timed) (d : Deadline) (ds : List Deadline) (n : ℕ) (late : Bool) → IsLawful t
    → t.deadlines ≡ d ∷ ds → Tells n late t → Tells n (late || eqb d.op n) (with_timeout t d)
tells-timeout t d ds n late lawful is tells =
    let pending = first-pending t d ds lawful is in
    let free = fault-free d.chan.number d.kind (op_at t.group.flight d.op) pending in
    let step = timeout-stepped t d lawful in
    by_test (eqb d.op n)
    (λ u.
    let same = eqb-true d.op n u in
    let gone = reported-here t.group d.op free (pending-as-pending d.chan.number d.kind (op_at t.group.flight d.op) pending) in
    let gone_n : is_pending (op_at (with_timeout t d).group.flight n) ≡ false =
    subst (λ (k : ℕ). is_pending (op_at (with_timeout t d).group.flight k) ≡ false) same gone in
    let within = pending-within t.group.flight.operations d.chan.number d.kind d.op pending in
    let more = step.accepts in
    record {
      pending = λ p. absurd (false≢true (sym gone_n ∙ p));
      unknown = λ l. absurd (let never : ⊥ = omega arith in never);
      queued = λ q. among-push n d.op t.timed_out ∙ ap (λ b. is_among n t.timed_out || b) u
          ∙ or-true (is_among n t.timed_out) ∙ sym (ap (λ b. late || b) u ∙ or-true late);
    })
    (λ f.
    let among : is_among n (with_timeout t d).timed_out ≡ is_among n t.timed_out =
    among-push n d.op t.timed_out ∙ ap (λ b. is_among n t.timed_out || b) f ∙ or-false (is_among n t.timed_out) in
    subst (λ (b : Bool). Tells n b (with_timeout t d)) (sym (ap (λ b. late || b) f ∙ or-false late))
    (tells-stepped t (with_timeout t d) n late lawful step among tells))

abbrev pub comes_by : ℕ → ℕ → Deadline → Bool
comes_by now n d = eqb d.op n && leb d.at now

-- the operation is due where it is the one that times out, or is due later
due-first : (t : Timed) (now n : ℕ) (d : Deadline) (ds : List Deadline) → IsLawful t → t.deadlines ≡ d ∷ ds
    → d.at ≤ now → is_due t now n ≡ (eqb d.op n || is_due (with_timeout t d) now n)
due-first t now n d ds lawful is come =
    let pending = first-pending t d ds lawful is in
    let free = fault-free d.chan.number d.kind (op_at t.group.flight d.op) pending in
    let left = sym (timeout-deadlines t d ds lawful is) in
    by_test (eqb d.op n)
    (λ u.
    let here : is_pending (op_at t.group.flight n) ≡ true =
    subst (λ (k : ℕ). is_pending (op_at t.group.flight k) ≡ true) (eqb-true d.op n u)
    (pending-as-pending d.chan.number d.kind (op_at t.group.flight d.op) pending) in
    let listed : list_any (comes_by now n) t.deadlines ≡ true =
    ap (λ (es : List Deadline). list_any (comes_by now n) es) is ∙ rw (u, le-leb d.at now come) refl in
    ap (λ b. b && list_any (comes_by now n) t.deadlines) here ∙ listed
    ∙ sym (ap (λ b. b || is_due (with_timeout t d) now n) u))
    (λ f.
    let slot = reported-others t.group d.op n free (λ same. eqb-false d.op n f (sym same)) in
    let listed : list_any (comes_by now n) t.deadlines ≡ list_any (comes_by now n) (with_timeout t d).deadlines =
    ap (λ (es : List Deadline). list_any (comes_by now n) es) is ∙ rw f refl
    ∙ ap (λ (es : List Deadline). list_any (comes_by now n) es) (sym left) in
    ap (λ b. is_pending (op_at t.group.flight n) && b) listed
    ∙ ap (λ b. b && list_any (comes_by now n) (with_timeout t d).deadlines) (ap is_pending (sym slot))
    ∙ sym (ap (λ b. b || is_due (with_timeout t d) now n) f))

none-come : (now n : ℕ) (ds : List Deadline) → due now ds ≡ [] → list_any (comes_by now n) ds ≡ false
none-come now n [] none = refl
none-come now n (d ∷ ds) none =
    by_test (leb d.at now)
    (λ u. let some = rw u at none in cc)
    (λ f. let rest = rw f at none in
    rw (f, and-false (eqb d.op n)) (none-come now n ds rest))

tells-expire : (t : Timed) (now n : ℕ) (late : Bool) → IsLawful t → Tells n late t
    → Tells n (late || is_due t now n) (after_expire t now)
tells-expire t now n late lawful tells =
    let all = expire-by
    (λ x. (b : Bool) × Tells n b x × ((b || is_due x now n) ≡ (late || is_due t now n))) now
    (λ x d ds lawful' is come h. (
      h.0 || eqb d.op n,
      tells-timeout x d ds n h.0 lawful' is h.1,
      or_assoc h.0 (eqb d.op n) (is_due (with_timeout x d) now n)
          ∙ ap (λ b. h.0 || b) (sym (due-first x now n d ds lawful' is come)) ∙ h.2,
    ))
    t.deadlines t refl lawful (late, tells, refl) in
    let last = all.3 in
    let none : is_due all.0 now n ≡ false =
    ap (λ b. is_pending (op_at all.0.group.flight n) && b) (none-come now n all.0.deadlines all.4)
    ∙ and-false (is_pending (op_at all.0.group.flight n)) in
    let same : last.0 ≡ (late || is_due t now n) =
    sym (ap (λ b. last.0 || b) none ∙ or-false last.0) ∙ last.2 in
    subst (λ (x : Timed). Tells n (late || is_due t now n) x) all.1
    (subst (λ (b : Bool). Tells n b all.0) same last.1)

-- ---- `take`

among-without : (n x : ℕ) (ms : List ℕ) → eqb n x ≡ false → is_among n (without_number x ms) ≡ is_among n ms
among-without n x [] other = refl
among-without n x (m ∷ ms) other =
    let rest = among-without n x ms other in
    by_test (eqb m x)
    (λ u.
    let apart : eqb m n ≡ false =
    by_test (eqb m n)
    (λ v. absurd (eqb-false n x other (sym (eqb-true m n v) ∙ eqb-true m x u)))
    (λ f. f) in
    rw u (rest ∙ sym (ap (λ b. b || is_among n ms) apart)))
    (λ f. rw f (ap (λ b. eqb m n || b) rest))

left-accepted : (f : Flight) (queue : List ℕ) → accepted (flight_after_take f queue) ≡ accepted f
left-accepted f [] = refl
left-accepted f (n ∷ rest) = length-set f.operations n _

tells-one : (t : Timed) (x : CompletionFields) (n : ℕ) (late : Bool) → IsLawful t → answer_to_take t.group ≡ Some x
    → Tells n late t
    → Tells n late (timed_of (group_steps.after_take t.group) t.deadlines (without_number x.op.0 t.timed_out) t.kinds)
tells-one t x n late lawful some tells =
    let g = group_steps.after_take t.group in
    let step = stepped-after t.group run.take lawful.group in
    let next = lawful-step t take lawful tt in
    let front = front-is t.group x lawful.group some in
    let same = left-accepted t.group.flight t.group.flight.queue in
    record {
      pending = λ p.
          elim (cases_lt n (accepted t.group.flight)) [
            | inl l ↦ tells.pending (next-pending (op_at t.group.flight n) (op_at g.flight n) (step.next n l) p)
            | inr past ↦ tells.unknown past
          ];
      unknown = λ l. tells.unknown (omega (arith, same));
      queued = λ q.
          by_test (eqb n x.op.0)
          (λ u.
          let queue : g.flight.queue ≡ front.rest =
          left-queue t.group.flight t.group.flight.queue refl ∙ ap (λ (ns : List ℕ). drop 1 ns) front.is in
          let counts = rw q at (next.group.queued_once n) in
          let none : count_by (λ m. eqb m n) front.rest ≡ 0 =
          subst (λ (k : ℕ). count_by (λ m. eqb m k) front.rest ≡ 0) (sym (eqb-true n x.op.0 u)) front.once in
          let some' : count_by (λ m. eqb m n) front.rest ≡ 1 =
          ap (λ (ns : List ℕ). count_by (λ m. eqb m n) ns) (sym queue) ∙ counts in
          absurd (let never : ⊥ = omega (arith, none, some') in never))
          (λ f.
          let l : n < accepted t.group.flight =
          let past = within-where is_queued g.flight.operations n None refl q in omega (arith, past, same) in
          among-without n x.op.0 t.timed_out f
          ∙ elim (next-queued (op_at t.group.flight n) (op_at g.flight n) (step.next n l) q) [
            | inl was ↦ tells.queued was
            | inr p ↦ absurd
                (false≢true
                (sym (pending-idle (op_at g.flight n) (stays-take t.group lawful.group n p)) ∙ q))
          ]);
    }

tells-take : (t : Timed) (n : ℕ) (late : Bool) → IsLawful t → Tells n late t → Tells n late (after_take t)
tells-take t n late lawful tells = by_answer (answer_to_take t.group) refl
  where
    by_answer : (o : Option CompletionFields) → answer_to_take t.group ≡ o → Tells n late (after_take t)
    by_answer None none =
        subst (λ (x : Timed). Tells n late x)
        (ap (λ (g : Group). timed_of g t.deadlines t.timed_out t.kinds) (sym (nothing-same t.group lawful.group none))
        ∙ taken-nothing t lawful none) tells
    by_answer (Some x) some =
        subst (λ (y : Timed). Tells n late y) (taken-one t x lawful some) (tells-one t x n late lawful some tells)

-- ---- `start_timed`

pub record Starts (t x : Timed) : Type 0 where
  pub stepped : IsStepped t.group.flight x.group.flight
  pub same : x.timed_out ≡ t.timed_out

pub starts : (t : Timed) (chan : GChan) (kind : OpKind) (len now limit : ℕ) → IsLawful t
    → Starts t (after_start t chan kind len now limit)
starts t chan kind len now limit lawful =
    let g = group_steps.after_start t.group chan kind len in
    let step = stepped-after t.group (run.start chan kind len) lawful.group in
    let plain : Starts t (with_group t g) = record { stepped = step; same = refl } in
    kept-or (Starts t) (own_refusal t chan kind now limit) t (started t chan kind len now limit)
    (record { stepped = stepped-same t.group.flight; same = refl })
    (λ free.
    by_test (eqb limit 0) (λ u. rw u plain)
    (λ f.
    rw f
    (by_test (is_pending (op_at g.flight (accepted t.group.flight)))
    (λ u. rw u (record { stepped = step; same = refl })) (λ e. rw e plain))))

-- ---- runs

tells-plain : (t t' : Timed) (n : ℕ) (late : Bool) → IsLawful t → Starts t t' → Tells n late t
    → Tells n (late || false) t'
tells-plain t t' n late lawful starts' tells =
    subst (λ (b : Bool). Tells n b t') (sym (or-false late))
    (tells-stepped t t' n late lawful starts'.stepped (ap (λ (ms : List ℕ). is_among n ms) starts'.same) tells)

tells-step : (t : Timed) (call : Call) (n : ℕ) (late : Bool) → IsLawful t → IsCallOf t call → Tells n late t
    → Tells n (late || is_due_at n t call) (after t call)
tells-step t call n late lawful made tells =
    by-call t (λ c x. Tells n (late || is_due_at n t c) x)
    (λ c core of keeps none. rw (none n)
    (tells-plain t (with_group t (run.after t.group core)) n late lawful
    (record { stepped = stepped-after t.group core lawful.group; same = refl }) tells))
    (λ chan kind len now limit within. tells-plain t _ n late lawful (starts t chan kind len now limit lawful) tells)
    (λ now. tells-expire t now n late lawful tells)
    (subst (λ (b : Bool). Tells n b (after_take t)) (sym (or-false late)) (tells-take t n late lawful tells)) call made

tells-run : (t : Timed) (calls : List Call) (n : ℕ) (late : Bool) → IsLawful t → IsRunOf t calls → Tells n late t
    → Tells n (late || was_due n t calls) (left_by t calls)
tells-run t [] n late lawful is tells = subst (λ (b : Bool). Tells n b t) (sym (or-false late)) tells
tells-run t (call ∷ calls) n late lawful is tells =
    subst (λ (b : Bool). Tells n b (left_by (after t call) calls))
    (or_assoc late (is_due_at n t call) (was_due n (after t call) calls))
    (tells-run (after t call) calls n (late || is_due_at n t call) (lawful-step t call lawful is.0) is.1
    (tells-step t call n late lawful is.0 tells))

tells-empty : (limits : GroupLimits) (n : ℕ) → Tells n false (empty_timed limits)
tells-empty limits n =
    record { pending = λ p. refl; unknown = λ l. refl; queued = λ q. absurd (false≢true q) }

-- ---- the law

exactly : (late : Bool) (r : TimedResult) (finished : Finished) → r ≡ cond late InterruptedByTimeout (Core finished)
    → (r ≡ InterruptedByTimeout) ↔ (late ≡ true)
exactly true r finished is = (λ e. refl, λ e. is)
exactly false r finished is = (
  λ e. absurd (let clash : Core finished ≡ InterruptedByTimeout = sym is
      ∙ e in cc),
  λ e. absurd (false≢true e),
)

taken-done : (t : Timed) (late : Bool) (o : Option CompletionFields) (done : TimedDone) → IsLawful t
    → answer_to_take t.group ≡ o → option_map (done_of t) o ≡ Some done → Tells done.op.0 late t
    → (done.result ≡ InterruptedByTimeout) ↔ (late ≡ true)
taken-done t late None done lawful some answer tells = cc
taken-done t late (Some x) done lawful some answer tells =
    let same : done_of t x ≡ done = cc in
    let op : x.op ≡ done.op = ap (λ (d : TimedDone). d.op) same in
    let result : done.result ≡ cond (is_among x.op.0 t.timed_out) InterruptedByTimeout (Core x.finished) =
    sym (ap (λ (d : TimedDone). d.result) same) in
    let front = front-is t.group x lawful.group some in
    let holds : QueueHolds t.group.flight.operations (x.op.0 ∷ front.rest) = rw front.is at lawful.group.queued_once
    in
    let queued = front-queued t.group.flight.operations x.op.0 front.rest holds in
    let queued' : is_queued (op_at t.group.flight done.op.0) ≡ true =
    subst (λ (n : OpNo). is_queued (op_at t.group.flight n.0) ≡ true) op queued in
    let among : is_among x.op.0 t.timed_out ≡ late =
    ap (λ (n : OpNo). is_among n.0 t.timed_out) op ∙ tells.queued queued' in
    exactly late done.result x.finished
    (result ∙ ap (λ (b : Bool). cond b InterruptedByTimeout (Core x.finished)) among)

-- by the deadlines that the group has
pub due-exactly : (limits : GroupLimits) (calls : List Call) (done : TimedDone) → IsRunOf (empty_timed limits) calls
    → timed_answer (left_by (empty_timed limits) calls) ≡ Some done
    → (done.result ≡ InterruptedByTimeout) ↔ (was_due done.op.0 (empty_timed limits) calls ≡ true)
due-exactly limits calls done is answer =
    let t = left_by (empty_timed limits) calls in
    taken-done t (was_due done.op.0 (empty_timed limits) calls) (answer_to_take t.group) done
    (lawful-left (empty_timed limits) calls (lawful-empty_timed limits) is) refl answer
    (tells-run (empty_timed limits) calls done.op.0 false (lawful-empty_timed limits) is
    (tells-empty limits done.op.0))

-- ---- completions

pub completed-step : (t : Timed) (call : Call) (n : ℕ) → IsLawful t → IsCallOf t call → has_completed t.group n ≡ true
    → has_completed (after t call).group n ≡ true
completed-step t call n lawful made is =
    by-call t (λ c x. has_completed x.group n ≡ true)
    (λ c core of keeps none. completed-stays t.group (run.after t.group core) n
    (stepped-after t.group core lawful.group) is)
    (λ chan kind len now limit within. completed-stays t.group (after_start t chan kind len now limit).group n
    (starts t chan kind len now limit lawful).stepped is)
    (λ now.
    let all = expire-by (λ x. has_completed x.group n ≡ true) now
    (λ x d ds lawful' first come h.
    completed-stays x.group (with_timeout x d).group n (timeout-stepped x d lawful') h)
    t.deadlines t refl lawful is in
    subst (λ (x : Timed). has_completed x.group n ≡ true) all.1 all.3)
    (completed-stays t.group (run.after t.group run.take) n (stepped-after t.group run.take lawful.group) is) call made

counted : (n : ℕ) (t : Timed) (calls : List Call) → IsLawful t → IsRunOf t calls
    → completions n t calls + once_where (has_completed t.group n)
    ≡ once_where (has_completed (left_by t calls).group n)
counted n t [] lawful is = omega arith
counted n t (call ∷ calls) lawful is =
    let later = counted n (after t call) calls (lawful-step t call lawful is.0) is.1 in
    let here = step-count (has_completed t.group n) (has_completed (after t call).group n)
    (completed-step t call n lawful is.0) in
    omega (arith, later, here)

pub completes-once : CompletesOnce
completes-once limits calls n is =
    let total = counted n (empty_timed limits) calls (lawful-empty_timed limits) is in
    let before : once_where (has_completed (empty_timed limits).group n) ≡ 0 =
    ap once_where (none-completed n limits) in
    omega (arith, total, before)

pub loses-none : LosesNone
loses-none limits calls n is terminated within =
    let lawful = lawful-left (empty_timed limits) calls (lawful-empty_timed limits) is in
    (at-rest (left_by (empty_timed limits) calls).group lawful.group terminated).ended n within
