-- A group with time limits after a completion was taken.
use Rattle.nio_group.proofs.IndexLemmas.{count_by-cons}
use Rattle.std.proofs.Common.{◌≡◌, ◌≢◌, ℕ, ◌<◌, ◌≤◌, true, false, eqb, List, [], ◌∷◌, filter, Option, Some, None}
use Rattle.std.proofs.Common.{length, refl, sym, ap, ◌∙◌, subst, arith, count_by, get_or, drop}
use Rattle.std.proofs.lemmas.Bool.{false≢true, ne_eqb}
use Rattle.nio_group.specs.declared.operation.Operation.{Operation}
use Rattle.nio_group.specs.declared.operation.Stage.{Stage}
use Rattle.nio_group.specs.declared.operation.Stage.TheVariants.{Pending, Queued, Running}
use Rattle.nio_group.specs.Completion.{CompletionFields}
use Rattle.nio_group.specs.Flight.{flight_after_take, Flight, op_at}
use Rattle.nio_group.specs.Group as group
use Rattle.nio_group.specs.Group.{Group}
use Rattle.nio_group.specs.Run as run
use Rattle.nio_group.specs.Stages.{is_pending, is_queued, stage_is_queued}
use Rattle.nio_group.specs.Steps as group_steps
use Rattle.nio_group.specs.Steps.{completion_at, completion_of, taken_from, answer_to_take}
use Rattle.nio_group.proofs.ListLemmas.{eqb-same}
use Rattle.nio_group.proofs.QueueLemmas.{QueueHolds, front-queued}
use Rattle.nio_group.proofs.RunLemmas.{lawful-after}
use Rattle.nio_group.proofs.StageLemmas.{stepped-after}
use Rattle.nio_group.proofs.TableLemmas.{by_test}
use Rattle.nio_deadline.specs.Deadlines.{Deadline}
use Rattle.nio_deadline.specs.Kept.{IsTimedKept, timed_of, is_among_later}
use Rattle.nio_deadline.specs.Steps.{is_among, without_number, after_take}
use Rattle.nio_deadline.specs.Timed.{Timed, ArePending, IsLawful, IsPartOf, no_number, passed, listed}
use Rattle.nio_deadline.proofs.PendingLemmas.{stays-take}
use Rattle.nio_deadline.proofs.TimedLemmas.{all-stay, still-pending}

pub part-among : {ms ns : List ℕ} (x : ℕ) → IsPartOf ms ns → count_by (λ m. eqb m x) ns ≡ 0 → is_among x ms ≡ false
part-among x (no_number ns) none = refl
part-among x (passed {n} {ms} {ns} part) none =
    let counts = count_by-cons {X = ℕ} (λ m. eqb m x) n ns in
    part-among x part (omega (arith, none, counts))
part-among x (listed {n} {ms} {ns} part) none =
    by_test (eqb n x)
    (λ t. let counts = rw t at (sym (count_by-cons {X = ℕ} (λ m. eqb m x) n ns) ∙ none) in
    absurd (omega (arith, counts)))
    (λ e. let counts = rw e at (sym (count_by-cons {X = ℕ} (λ m. eqb m x) n ns) ∙ none) in
    rw e (part-among x part (omega (arith, counts))))

pub not-among : (n : ℕ) (ms : List ℕ) → is_among n ms ≡ false → without_number n ms ≡ ms
not-among n [] none = refl
not-among n (m ∷ ms) none =
    by_test (eqb m n)
    (λ t. let there = rw t at none in absurd (false≢true (sym there)))
    (λ e. let rest = rw e at none in rw e (ap (λ ns. m ∷ ns) (not-among n ms rest)))

among-later : (n : ℕ) (ms : List ℕ) → is_among n ms ≡ false → is_among n (drop 1 ms) ≡ false
among-later n [] none = refl
among-later n (m ∷ ms) none =
    by_test (eqb m n)
    (λ t. let there = rw t at none in absurd (false≢true (sym there)))
    (λ e. rw e at none)

-- of those that have timed out the one at the queue's front can be the first alone
pub part-later : {ms ns : List ℕ} (x : ℕ) (rest : List ℕ) → IsPartOf ms ns → ns ≡ x ∷ rest
    → count_by (λ m. eqb m x) rest ≡ 0 → is_among_later x ms ≡ false
part-later x rest (no_number ns) is none = refl
part-later x rest (passed {n} {ms} {ns} part) is none =
    let same : ns ≡ rest = cc in
    among-later x ms (part-among x part (ap (λ xs. count_by (λ m. eqb m x) xs) same ∙ none))
part-later x rest (listed {n} {ms} {ns} part) is none =
    let same : ns ≡ rest = cc in
    part-among x part (ap (λ xs. count_by (λ m. eqb m x) xs) same ∙ none)

pub part-taken : {ms ns : List ℕ} (x : ℕ) (rest : List ℕ) → IsPartOf ms ns → ns ≡ x ∷ rest
    → count_by (λ m. eqb m x) rest ≡ 0 → IsPartOf (without_number x ms) rest
part-taken x rest (no_number ns) is none = no_number rest
part-taken x rest (passed {n} {ms} {ns} part) is none =
    let same : ns ≡ rest = cc in
    let apart = not-among x ms (part-among x part (ap (λ xs. count_by (λ m. eqb m x) xs) same ∙ none)) in
    rw apart (subst (λ (xs : List ℕ). IsPartOf ms xs) same part)
part-taken x rest (listed {n} {ms} {ns} part) is none =
    let same : ns ≡ rest = cc in
    let front : n ≡ x = cc in
    let apart = not-among x ms (part-among x part (ap (λ xs. count_by (λ m. eqb m x) xs) same ∙ none)) in
    rw (front, eqb-same x, apart) (subst (λ (xs : List ℕ). IsPartOf ms xs) same part)

-- what a completion that is taken says of the queue
pub record IsFront (g : Group) (n : ℕ) : Type 0 where
  pub rest : List ℕ
  pub is : g.flight.queue ≡ n ∷ rest
  pub once : count_by (λ m. eqb m n) rest ≡ 0

queued-some : (slot : Option Operation) → is_queued slot ≡ true → (n : ℕ)
    → (x : CompletionFields) × (completion_at n slot ≡ Some x) × (x.op.0 ≡ n)
queued-some None q n = absurd (false≢true q)
queued-some (Some op) q n = by_stage op.stage refl q
  where
    by_stage : (stage : Stage) → op.stage ≡ stage → stage_is_queued stage ≡ true
        → (x : CompletionFields) × (completion_of n op.chan op.kind stage ≡ Some x) × (x.op.0 ≡ n)
    by_stage Pending is queued = absurd (false≢true queued)
    by_stage (Queued r) is queued =
        (record { op = record { 0 = n }; chan = op.chan; kind = op.kind; finished = r }, refl, refl)
    by_stage Running is queued = absurd (false≢true queued)

-- where nothing is taken the queue is empty, else what is taken stands at its front
abbrev pub IsTakenFrom : Group → Option CompletionFields → Type 0
IsTakenFrom g None = g.flight.queue ≡ []
IsTakenFrom g (Some x) = IsFront g x.op.0

pub taken-from : (g : Group) → group.IsLawful g → IsTakenFrom g (answer_to_take g)
taken-from g lawful = by_queue g.flight.queue refl
  where
    by_queue : (queue : List ℕ) → g.flight.queue ≡ queue → IsTakenFrom g (taken_from g.flight queue)
    by_queue [] is = is
    by_queue (n ∷ rest) is =
        let holds : QueueHolds g.flight.operations (n ∷ rest) = rw is at lawful.queued_once in
        let queued = front-queued g.flight.operations n rest holds in
        let some = queued-some (op_at g.flight n) queued n in
        let counts = rw (eqb-same n) at (sym (count_by-cons {X = ℕ} (λ m. eqb m n) n rest) ∙ holds n) in
        let one = rw queued at counts in
        rw some.1
        (record { rest = rest; is = rw some.2 is; once = rw some.2 (omega (arith, one)) })

number-fewer : (n : ℕ) (ms : List ℕ) → length (without_number n ms) ≤ length ms
number-fewer n [] = omega arith
number-fewer n (m ∷ ms) =
    let rest = number-fewer n ms in
    by_test (eqb m n) (λ t. rw t (omega (arith, rest))) (λ e. rw e (omega (arith, rest)))

taken-stay : (t : Timed) → IsLawful t
    → t.deadlines ≡ filter (λ d. is_pending (op_at (group_steps.after_take t.group).flight d.op)) t.deadlines
taken-stay t lawful =
    all-stay t.group (group_steps.after_take t.group) t.deadlines (stays-take t.group lawful.group) lawful.pending

pub taken-nothing : (t : Timed) → IsLawful t → answer_to_take t.group ≡ None
    → timed_of (group_steps.after_take t.group) t.deadlines t.timed_out t.kinds ≡ after_take t
taken-nothing t lawful none =
    rw none
    (ap (λ (ds : List Deadline). timed_of (group_steps.after_take t.group) ds t.timed_out t.kinds)
    (taken-stay t lawful))

pub taken-one : (t : Timed) (x : CompletionFields) → IsLawful t → answer_to_take t.group ≡ Some x
    → timed_of (group_steps.after_take t.group) t.deadlines (without_number x.op.0 t.timed_out) t.kinds ≡ after_take t
taken-one t x lawful some =
    rw some
    (ap
    (λ (ds : List Deadline).
    timed_of (group_steps.after_take t.group) ds (without_number x.op.0 t.timed_out) t.kinds) (taken-stay t lawful))

pub nothing-same : (g : Group) → group.IsLawful g → answer_to_take g ≡ None → group_steps.after_take g ≡ g
nothing-same g lawful none =
    let empty : g.flight.queue ≡ [] =
    subst (λ (o : Option CompletionFields). IsTakenFrom g o) none (taken-from g lawful) in
    rw empty refl

pub front-is : (g : Group) (x : CompletionFields) → group.IsLawful g → answer_to_take g ≡ Some x → IsFront g x.op.0
front-is g x lawful some = subst (λ (o : Option CompletionFields). IsTakenFrom g o) some (taken-from g lawful)

pub late-first : (t : Timed) (x : CompletionFields) → IsLawful t → answer_to_take t.group ≡ Some x
    → is_among_later x.op.0 t.timed_out ≡ false
late-first t x lawful some =
    let front = front-is t.group x lawful.group some in
    part-later x.op.0 front.rest lawful.queued front.is front.once

pub left-queue : (f : Flight) (queue : List ℕ) → f.queue ≡ queue → (flight_after_take f queue).queue ≡ drop 1 queue
left-queue f [] is = is
left-queue f (n ∷ rest) is = ap (λ (ns : List ℕ). drop 1 ns) is

left-limit : (f : Flight) (queue : List ℕ) → (flight_after_take f queue).limit ≡ f.limit
left-limit f [] = refl
left-limit f (n ∷ rest) = refl

pub lawful-take : (t : Timed) (x : CompletionFields) → IsLawful t → answer_to_take t.group ≡ Some x
    → IsLawful (timed_of (group_steps.after_take t.group) t.deadlines (without_number x.op.0 t.timed_out) t.kinds)
lawful-take t x lawful some =
    let front = front-is t.group x lawful.group some in
    let g = group_steps.after_take t.group in
    let step = stepped-after t.group run.take lawful.group in
    let pending : ArePending g t.deadlines =
    subst (λ (ds : List Deadline). ArePending g ds) (sym (taken-stay t lawful))
    (still-pending t.group g t.deadlines step lawful.pending) in
    let rest : (group_steps.after_take t.group).flight.queue ≡ front.rest =
    left-queue t.group.flight t.group.flight.queue refl ∙ ap (λ (ns : List ℕ). drop 1 ns) front.is in
    record {
      group = lawful-after t.group run.take lawful.group tt;
      pending = pending;
      in_order = lawful.in_order;
      queued = rw rest (part-taken x.op.0 front.rest lawful.queued front.is front.once);
      each_channel = lawful.each_channel;
    }

pub kept-take : (t : Timed) (x : CompletionFields) (len len' room room' : ℕ) → IsTimedKept t len room
    → answer_to_take t.group ≡ Some x → len' ≡ length (without_number x.op.0 t.timed_out) → room' ≡ room
    → IsTimedKept (timed_of (group_steps.after_take t.group) t.deadlines (without_number x.op.0 t.timed_out) t.kinds)
    len' room'
kept-take t x len len' room room' kept some counted same =
    let had = kept.has_room in
    let fewer = number-fewer x.op.0 t.timed_out in
    let limit : (group_steps.after_take t.group).flight.limit ≡ t.group.flight.limit =
    left-limit t.group.flight t.group.flight.queue in
    record {
      lawful = lawful-take t x kept.lawful some;
      counted = counted;
      has_room = omega (arith, had, fewer, same);
      few_in_flight = rw limit kept.few_in_flight;
    }

-- where the number is the first it is taken out
pub popped : (n : ℕ) (ms rest : List ℕ) → ms ≡ n ∷ rest → is_among_later n ms ≡ false
    → (is_among n ms ≡ true) × (rest ≡ without_number n ms)
popped n ms rest is later =
    let none : is_among n rest ≡ false = rw is at later in
    rw is (rw (eqb-same n) (refl, sym (not-among n rest none)))

-- where it isn't the first it isn't among them
pub not-first : (n m : ℕ) (ms rest : List ℕ) → ms ≡ m ∷ rest → m ≢ n → is_among_later n ms ≡ false
    → (is_among n ms ≡ false) × (ms ≡ without_number n ms)
not-first n m ms rest is other later =
    let none : is_among n rest ≡ false = rw is at later in
    let absent : is_among n ms ≡ false = rw is (rw (ne_eqb m n other) none) in
    (absent, sym (not-among n ms absent))

pub starts-with : (ms : List ℕ) (x : ℕ) → 0 < length ms → x ≡ get_or ms 0 x → ms ≡ x ∷ drop 1 ms
starts-with [] x some is = absurd (omega arith)
starts-with (m ∷ ms) x some is = let same : m ≡ x = sym is in ap (λ (n : ℕ). n ∷ ms) same
