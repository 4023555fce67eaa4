-- Over every list of calls an operation is due exactly where a start with a limit and a later `expire` say so.
use Rattle.std.proofs.Common.{◌≡◌, ◌≢◌, ◌⊎◌, inl, inr, ℕ, ◌<◌, ◌≤◌, ◌+◌, Bool, true, false, not, ◌&&◌, ◌||◌, eqb, leb}
use Rattle.std.proofs.Common.{ltb, List, [], ◌∷◌, ◌++◌, Option, Some, None, Result, Ok, Err, refl, sym, ap, ◌∙◌, subst, arith}
use Rattle.std.specs.List.{list_any}
use Rattle.std.proofs.lemmas.Bool.{false≢true, eqb-true, eqb-false, leb-true, le-leb, lt-ltb, and_parts, and_from}
use Rattle.std.proofs.lemmas.Bool.{not-true, not_from_false}
use Rattle.std.proofs.lemmas.List.{length_push}
use Rattle.std.proofs.lemmas.Map.Views.{any-filter_same}
use Rattle.std.proofs.Math.Bool.{or-true, or_assoc}
use Rattle.nio_base.specs.declared.numbers.GChan.{GChan}
use Rattle.nio_base.specs.declared.numbers.OpNo.{OpNo}
use Rattle.nio_base.specs.declared.group.OpKind.{OpKind}
use Rattle.nio_base.specs.declared.group.Outcome.TheVariants.{Fault}
use Rattle.nio_group.specs.declared.refusal.StartError.{StartError}
use Rattle.nio_group.specs.Flight.{op_at, accepted}
use Rattle.nio_group.specs.Group.{Group}
use Rattle.nio_group.specs.Refusals.{start_refusal}
use Rattle.nio_group.specs.Run as run
use Rattle.nio_group.specs.Run.{has_completed}
use Rattle.nio_group.specs.Stages.{is_pending}
use Rattle.nio_group.specs.Steps as group_steps
use Rattle.nio_group.proofs.ListLemmas.{eqb-same}
use Rattle.nio_group.proofs.StageLemmas.{stepped-after}
use Rattle.nio_group.proofs.TableLemmas.{by_test}
use Rattle.nio_deadline.specs.Deadlines.{Deadline, with_deadline}
use Rattle.nio_deadline.specs.Run.{Call, open_channel, bind, start_timed, report, expire, take, finish, close_channel}
use Rattle.nio_deadline.specs.Run.{shutdown, shutdown_now, IsCallOf, IsRunOf, after, left_by, TimesOut, TimesOutExactly}
use Rattle.nio_deadline.specs.Steps.{answer_to_start, after_start, started, by_group, unless_refused}
use Rattle.nio_deadline.specs.Steps.{kept_if_refused}
use Rattle.nio_deadline.specs.Timed.{Timed, IsLawful, with_group, own_refusal, empty_timed}
use Rattle.nio_deadline.specs.declared.refusal.TimedError.{TimedError}
use Rattle.nio_deadline.proofs.Due.{is_due, is_due_at, was_due}
use Rattle.nio_deadline.proofs.RunLemmas.{by-call, expire-by, lawful-empty_timed, lawful-left, lawful-step}
use Rattle.nio_deadline.proofs.StartLemmas.{none-next}
use Rattle.nio_deadline.proofs.TimedLemmas.{when-free, when-refused}
use Rattle.nio_deadline.proofs.TimeoutLemmas.{comes_by, completed-step, due-exactly, next-pending, starts, timeout-stepped}

-- a deadline of the operation has come at this moment
abbrev listed : ℕ → ℕ → Timed → Bool
listed m n t = list_any (comes_by m n) t.deadlines

abbrev waits : ℕ → Timed → Bool
waits n t = is_pending (op_at t.group.flight n)

-- ---- the deadlines after a step

listed-left : (t : Timed) (g : Group) (m n : ℕ)
    → listed m n (with_group t g) ≡ (is_pending (op_at g.flight n) && listed m n t)
listed-left t g m n =
    any-filter_same (comes_by m n) (λ d. is_pending (op_at g.flight d.op)) (is_pending (op_at g.flight n))
    (λ d comes.
    ap (λ (k : ℕ). is_pending (op_at g.flight k))
    (eqb-true d.op n (and_parts (eqb d.op n) (leb d.at m) comes).0))
    t.deadlines

left-listed : (t : Timed) (g : Group) (m n : ℕ) → listed m n (with_group t g) ≡ true → listed m n t ≡ true
left-listed t g m n l =
    (and_parts (is_pending (op_at g.flight n)) (listed m n t) (sym (listed-left t g m n) ∙ l)).1

stays-listed : (t : Timed) (g : Group) (m n : ℕ) → listed m n t ≡ true → is_pending (op_at g.flight n) ≡ true
    → listed m n (with_group t g) ≡ true
stays-listed t g m n l w = listed-left t g m n ∙ ap (λ b. b && listed m n t) w ∙ l

or-swap : (a b c : Bool) → (a || (b || c)) ≡ (b || (a || c))
or-swap false b c = refl
or-swap true false c = refl
or-swap true true c = refl

listed-insert : (m n : ℕ) (d : Deadline) (ds : List Deadline)
    → list_any (comes_by m n) (with_deadline d ds) ≡ (comes_by m n d || list_any (comes_by m n) ds)
listed-insert m n d [] = refl
listed-insert m n d (e ∷ es) =
    by_test (leb e.at d.at)
    (λ u. rw u
    (ap (λ b. comes_by m n e || b) (listed-insert m n d es)
    ∙ or-swap (comes_by m n e) (comes_by m n d) (list_any (comes_by m n) es)))
    (λ f. rw f refl)

-- ---- what a start answers

record IsStart (t : Timed) (chan : GChan) (kind : OpKind) (now limit n : ℕ) : Type 0 where
  own : own_refusal t chan kind now limit ≡ None
  free : start_refusal t.group chan kind ≡ None
  next : accepted t.group.flight ≡ n

own-free : (r : Option TimedError) (answer : Result OpNo StartError) (op : OpNo) → unless_refused r answer ≡ Ok op
    → (r ≡ None) × (answer ≡ Ok op)
own-free None (Ok x) op is = (refl, cc)
own-free None (Err e) op is = cc
own-free (Some e) answer op is = cc

group-free : (r : Option StartError) (x op : OpNo) → group_steps.unless_refused r x ≡ Ok op → (r ≡ None) × (x ≡ op)
group-free None x op is = (refl, cc)
group-free (Some e) x op is = cc

start-parts : (t : Timed) (chan : GChan) (kind : OpKind) (now limit n : ℕ)
    → answer_to_start t chan kind now limit ≡ Ok (record { 0 = n }) → IsStart t chan kind now limit n
start-parts t chan kind now limit n is =
    let own = own-free (own_refusal t chan kind now limit) (group_steps.answer_to_start t.group chan kind) _ is in
    let free = group-free (start_refusal t.group chan kind) (record { 0 = accepted t.group.flight }) _ own.1 in
    record { own = own.0; free = free.0; next = ap (λ (op : OpNo). op.0) free.1 }

start-answer : (t : Timed) (chan : GChan) (kind : OpKind) (now limit n : ℕ) → IsStart t chan kind now limit n
    → answer_to_start t chan kind now limit ≡ Ok (record { 0 = n })
start-answer t chan kind now limit n is =
    ap (λ (r : Option TimedError). unless_refused r (group_steps.answer_to_start t.group chan kind)) is.own
    ∙ ap (λ (r : Option StartError). by_group (group_steps.unless_refused r (record { 0 = accepted t.group.flight })))
    is.free
    ∙ ap (λ (k : ℕ). Ok (record { 0 = k })) is.next

-- where the next operation is pending after a start it wasn't refused
next-free : (g : Group) (chan : GChan) (kind : OpKind) (len : ℕ)
    → is_pending (op_at (group_steps.after_start g chan kind len).flight (accepted g.flight)) ≡ true
    → start_refusal g chan kind ≡ None
next-free g chan kind len p = by_refusal (start_refusal g chan kind) refl
  where
    by_refusal : (r : Option StartError) → start_refusal g chan kind ≡ r → start_refusal g chan kind ≡ None
    by_refusal None is = is
    by_refusal (Some e) is =
        let none = when-refused (λ (h : Group). is_pending (op_at h.flight (accepted g.flight)) ≡ false)
        (start_refusal g chan kind) e g (group_steps.started g chan kind len) is (none-next g.flight) in
        absurd (false≢true (sym none ∙ p))

abbrev deadline-of : Timed → GChan → OpKind → ℕ → Deadline
deadline-of t chan kind at = record { at = at; op = accepted t.group.flight; chan = chan; kind = kind }

abbrev with-deadline : Timed → Group → Deadline → Timed
with-deadline t g d = record (with_group t g) { deadlines = with_deadline d (with_group t g).deadlines }

kept-by : (P : Timed → Type 0) (r : Option TimedError) (old new : Timed)
    → ((e : TimedError) → r ≡ Some e → P old) → (r ≡ None → P new) → P (kept_if_refused r old new)
kept-by P None old new kept made = made refl
kept-by P (Some e) old new kept made = kept e refl

-- a start is refused, or it gives no deadline, or it gives one
start-by : (P : Timed → Type 0) (t : Timed) (chan : GChan) (kind : OpKind) (len now limit : ℕ)
    → ((e : TimedError) → own_refusal t chan kind now limit ≡ Some e → P t)
    → ((limit ≡ 0)
    ⊎ (is_pending (op_at (group_steps.after_start t.group chan kind len).flight (accepted t.group.flight)) ≡ false)
    → P (with_group t (group_steps.after_start t.group chan kind len)))
    → (own_refusal t chan kind now limit ≡ None → limit ≢ 0
    → is_pending (op_at (group_steps.after_start t.group chan kind len).flight (accepted t.group.flight)) ≡ true
    → P (with-deadline t (group_steps.after_start t.group chan kind len) (deadline-of t chan kind (now + limit))))
    → P (after_start t chan kind len now limit)
start-by P t chan kind len now limit refused plain limited =
    kept-by P (own_refusal t chan kind now limit) t (started t chan kind len now limit) refused
    (λ free.
    by_test (eqb limit 0)
    (λ u. rw u (plain (inl (eqb-true limit 0 u))))
    (λ f.
    rw f
    (by_test (is_pending (op_at (group_steps.after_start t.group chan kind len).flight (accepted t.group.flight)))
    (λ p. rw p (limited free (eqb-false limit 0 f) p))
    (λ e. rw e (plain (inr e))))))

-- ---- where a deadline comes from

record StartsBy (n m : ℕ) (t : Timed) (chan : GChan) (kind : OpKind) (now limit : ℕ) : Type 0 where
  starts : answer_to_start t chan kind now limit ≡ Ok (record { 0 = n })
  has_limit : limit ≢ 0
  has_come : now + limit ≤ m

start-listed : (t : Timed) (chan : GChan) (kind : OpKind) (len now limit m n : ℕ)
    → listed m n (after_start t chan kind len now limit) ≡ true
    → (listed m n t ≡ true) ⊎ StartsBy n m t chan kind now limit
start-listed t chan kind len now limit m n =
    let g = group_steps.after_start t.group chan kind len in
    let d = deadline-of t chan kind (now + limit) in
    start-by (λ x. listed m n x ≡ true → (listed m n t ≡ true) ⊎ StartsBy n m t chan kind now limit)
    t chan kind len now limit (λ e is l. inl l) (λ none l. inl (left-listed t g m n l))
    (λ own some p l.
    by_test (comes_by m n d)
    (λ comes.
    let both = and_parts (eqb (accepted t.group.flight) n) (leb (now + limit) m) comes in
    inr (record {
      starts = start-answer t chan kind now limit n (record {
        own = own;
        free = next-free t.group chan kind len p;
        next = eqb-true (accepted t.group.flight) n both.0;
      });
      has_limit = some;
      has_come = leb-true (now + limit) m both.1;
    }))
    (λ other.
    let rest : listed m n (with_group t g) ≡ true =
    sym (ap (λ b. b || listed m n (with_group t g)) other)
    ∙ sym (listed-insert m n d (with_group t g).deadlines) ∙ l in
    inl (left-listed t g m n rest)))

record StartedBy (n m : ℕ) (t : Timed) (call : Call) : Type 0 where
  chan : GChan
  kind : OpKind
  len : ℕ
  now : ℕ
  limit : ℕ
  is : call ≡ start_timed chan kind len now limit
  by : StartsBy n m t chan kind now limit

came : (t : Timed) (call : Call) (m n : ℕ) → IsLawful t → IsCallOf t call → listed m n (after t call) ≡ true
    → (listed m n t ≡ true) ⊎ StartedBy n m t call
came t call m n lawful made =
    by-call t (λ c x. listed m n x ≡ true → (listed m n t ≡ true) ⊎ StartedBy n m t c)
    (λ c core of keeps none l. inl (left-listed t (run.after t.group core) m n l))
    (λ chan kind len now limit within l.
    elim (start-listed t chan kind len now limit m n l) [
      | inl was ↦ inl was
      | inr starts' ↦ inr (record {
        chan = chan;
        kind = kind;
        len = len;
        now = now;
        limit = limit;
        is = refl;
        by = starts';
      })
    ])
    (λ now.
    let all = expire-by (λ x. listed m n x ≡ true → listed m n t ≡ true) now
    (λ x d ds lawful' is come h l. h (left-listed x (group_steps.after_report x.group d.op Fault) m n l))
    t.deadlines t refl lawful (λ l. l) in
    subst (λ (x : Timed). listed m n x ≡ true → (listed m n t ≡ true) ⊎ StartedBy n m t (expire now)) all.1
    (λ l. inl (all.3 l)))
    (λ l. inl (left-listed t (group_steps.after_take t.group) m n l)) call made

record StartedIn (n m : ℕ) (t : Timed) (calls : List Call) : Type 0 where
  before : List Call
  chan : GChan
  kind : OpKind
  len : ℕ
  now : ℕ
  limit : ℕ
  between : List Call
  are : calls ≡ before ++ start_timed chan kind len now limit ∷ between
  by : StartsBy n m (left_by t before) chan kind now limit

came-in : (t : Timed) (calls : List Call) (m n : ℕ) → IsLawful t → IsRunOf t calls
    → listed m n (left_by t calls) ≡ true → (listed m n t ≡ true) ⊎ StartedIn n m t calls
came-in t [] m n lawful run' l = inl l
came-in t (call ∷ calls) m n lawful run' l =
    elim (came-in (after t call) calls m n (lawful-step t call lawful run'.0) run'.1 l) [
      | inl later ↦ elim (came t call m n lawful run'.0 later) [
        | inl was ↦ inl was
        | inr s ↦ inr (record {
          before = [];
          chan = s.chan;
          kind = s.kind;
          len = s.len;
          now = s.now;
          limit = s.limit;
          between = calls;
          are = ap (λ (c : Call). c ∷ calls) s.is;
          by = s.by;
        })
      ]
      | inr s ↦ inr (record {
        before = call ∷ s.before;
        chan = s.chan;
        kind = s.kind;
        len = s.len;
        now = s.now;
        limit = s.limit;
        between = s.between;
        are = ap (λ (cs : List Call). call ∷ cs) s.are;
        by = s.by;
      })
    ]

-- ---- the `expire` at which an operation is due

due-call : (n : ℕ) (t : Timed) (call : Call) → is_due_at n t call ≡ true
    → (m : ℕ) × (call ≡ expire m) × (is_due t m n ≡ true)
due-call n t (open_channel kind) due = absurd (false≢true due)
due-call n t (bind chan) due = absurd (false≢true due)
due-call n t (start_timed chan kind len now limit) due = absurd (false≢true due)
due-call n t (report op outcome) due = absurd (false≢true due)
due-call n t (expire now) due = (now, refl, due)
due-call n t take due = absurd (false≢true due)
due-call n t (finish op) due = absurd (false≢true due)
due-call n t (close_channel chan) due = absurd (false≢true due)
due-call n t shutdown due = absurd (false≢true due)
due-call n t shutdown_now due = absurd (false≢true due)

record DueIn (n : ℕ) (t : Timed) (calls : List Call) : Type 0 where
  before : List Call
  moment : ℕ
  later : List Call
  are : calls ≡ before ++ expire moment ∷ later
  due : is_due (left_by t before) moment n ≡ true

due-in : (n : ℕ) (t : Timed) (calls : List Call) → was_due n t calls ≡ true → DueIn n t calls
due-in n t [] due = absurd (false≢true due)
due-in n t (call ∷ calls) due =
    by_test (is_due_at n t call)
    (λ u.
    let here = due-call n t call u in
    record { before = []; moment = here.0; later = calls; are = ap (λ (c : Call). c ∷ calls) here.1; due = here.2 })
    (λ f.
    let rest = due-in n (after t call) calls (sym (ap (λ b. b || was_due n (after t call) calls) f) ∙ due) in
    record {
      before = call ∷ rest.before;
      moment = rest.moment;
      later = rest.later;
      are = ap (λ (cs : List Call). call ∷ cs) rest.are;
      due = rest.due;
    })

-- ---- runs one after the other

pub left-append : (t : Timed) (calls more : List Call) → left_by t (calls ++ more) ≡ left_by (left_by t calls) more
left-append t [] more = refl
left-append t (call ∷ calls) more = left-append (after t call) calls more

run-split : (t : Timed) (calls more : List Call) → IsRunOf t (calls ++ more)
    → IsRunOf t calls × IsRunOf (left_by t calls) more
run-split t [] more run' = (tt, run')
run-split t (call ∷ calls) more run' =
    let rest = run-split (after t call) calls more run'.1 in ((run'.0, rest.0), rest.1)

due-append : (n : ℕ) (t : Timed) (calls more : List Call)
    → was_due n t (calls ++ more) ≡ (was_due n t calls || was_due n (left_by t calls) more)
due-append n t [] more = refl
due-append n t (call ∷ calls) more =
    ap (λ b. is_due_at n t call || b) (due-append n (after t call) calls more)
    ∙ sym (or_assoc (is_due_at n t call) (was_due n (after t call) calls) (was_due n (left_by (after t call) calls) more))

times-out : (n : ℕ) (t : Timed) (calls : List Call) → IsLawful t → IsRunOf t calls
    → ((m : ℕ) → listed m n t ≡ false) → was_due n t calls ≡ true → TimesOut n t calls
times-out n t calls lawful run' none due =
    let late = due-in n t calls due in
    let s = left_by t late.before in
    let both = and_parts (waits n s) (listed late.moment n s) late.due in
    let part = run-split t late.before (expire late.moment ∷ late.later) (subst (IsRunOf t) late.are run') in
    elim (came-in t late.before late.moment n lawful part.0 both.1) [
      | inl was ↦ absurd (false≢true (sym (none late.moment) ∙ was))
      | inr start ↦ record {
        before = start.before;
        chan = start.chan;
        kind = start.kind;
        len = start.len;
        now = start.now;
        limit = start.limit;
        between = start.between;
        moment = late.moment;
        later = late.later;
        are = late.are ∙ ap (λ (cs : List Call). cs ++ expire late.moment ∷ late.later) start.are;
        has_limit = start.by.has_limit;
        starts = start.by.starts;
        pending = subst (λ (cs : List Call). waits n (left_by t cs) ≡ true) start.are both.0;
        has_come = start.by.has_come;
      }
    ]

-- ---- a deadline stays while its operation is pending

grows : (t : Timed) (call : Call) → IsLawful t → IsCallOf t call
    → accepted t.group.flight ≤ accepted (after t call).group.flight
grows t call lawful made =
    by-call t (λ c x. accepted t.group.flight ≤ accepted x.group.flight)
    (λ c core of keeps none. (stepped-after t.group core lawful.group).accepts)
    (λ chan kind len now limit within. (starts t chan kind len now limit lawful).stepped.accepts)
    (λ now.
    let all = expire-by (λ x. accepted t.group.flight ≤ accepted x.group.flight) now
    (λ x d ds lawful' is come h. let more = (timeout-stepped x d lawful').accepts in omega (arith, h, more))
    t.deadlines t refl lawful (omega arith) in
    subst (λ (x : Timed). accepted t.group.flight ≤ accepted x.group.flight) all.1 all.3)
    (stepped-after t.group run.take lawful.group).accepts call made

keeps-listed : (t : Timed) (call : Call) (m n : ℕ) → IsLawful t → IsCallOf t call → n < accepted t.group.flight
    → listed m n t ≡ true → waits n (after t call) ≡ true → listed m n (after t call) ≡ true
keeps-listed t call m n lawful made within l =
    by-call t (λ c x. waits n x ≡ true → listed m n x ≡ true)
    (λ c core of keeps none. stays-listed t (run.after t.group core) m n l)
    (λ chan kind len now limit made'.
    let g = group_steps.after_start t.group chan kind len in
    let d = deadline-of t chan kind (now + limit) in
    start-by (λ x. waits n x ≡ true → listed m n x ≡ true) t chan kind len now limit
    (λ e is w. l) (λ none. stays-listed t g m n l)
    (λ own some p w.
    listed-insert m n d (with_group t g).deadlines
    ∙ ap (λ b. comes_by m n d || b) (stays-listed t g m n l w) ∙ or-true (comes_by m n d)))
    (λ now.
    let all = expire-by (λ x. (n < accepted x.group.flight) × (waits n x ≡ true → listed m n x ≡ true)) now
    (λ x d ds lawful' is come h.
    let step = timeout-stepped x d lawful' in
    let more = step.accepts in
    let had = h.0 in (
      omega (arith, more, had),
      λ w. stays-listed x (group_steps.after_report x.group d.op Fault) m n
          (h.1 (next-pending (op_at x.group.flight n) _ (step.next n h.0) w)) w,
    ))
    t.deadlines t refl lawful (within, λ w. l) in
    subst (λ (x : Timed). waits n x ≡ true → listed m n x ≡ true) all.1 all.3.1)
    (stays-listed t (group_steps.after_take t.group) m n l) call made

completed-in : (t : Timed) (calls : List Call) (n : ℕ) → IsLawful t → IsRunOf t calls
    → has_completed t.group n ≡ true → has_completed (left_by t calls).group n ≡ true
completed-in t [] n lawful run' is = is
completed-in t (call ∷ calls) n lawful run' is =
    completed-in (after t call) calls n (lawful-step t call lawful run'.0) run'.1
    (completed-step t call n lawful run'.0 is)

-- an operation that is pending in the end was pending all the time
waits-back : (t : Timed) (calls : List Call) (n : ℕ) → IsLawful t → IsRunOf t calls → n < accepted t.group.flight
    → waits n (left_by t calls) ≡ true → waits n t ≡ true
waits-back t calls n lawful run' within w =
    by_test (waits n t) (λ u. u)
    (λ f.
    let s = left_by t calls in
    let now = and_from (ltb n (accepted t.group.flight)) (not (waits n t)) (lt-ltb n (accepted t.group.flight) within)
    (not_from_false (waits n t) f) in
    let then = completed-in t calls n lawful run' now in
    let past = not-true (waits n s) (and_parts (ltb n (accepted s.group.flight)) (not (waits n s)) then).1 in
    absurd (false≢true (sym past ∙ w)))

kept-in : (t : Timed) (calls : List Call) (m n : ℕ) → IsLawful t → IsRunOf t calls → n < accepted t.group.flight
    → listed m n t ≡ true → waits n (left_by t calls) ≡ true → listed m n (left_by t calls) ≡ true
kept-in t [] m n lawful run' within l w = l
kept-in t (call ∷ calls) m n lawful run' within l w =
    let next = lawful-step t call lawful run'.0 in
    let more = grows t call lawful run'.0 in
    let within' : n < accepted (after t call).group.flight = omega (arith, within, more) in
    let here = waits-back (after t call) calls n next run'.1 within' w in
    kept-in (after t call) calls m n next run'.1 within' (keeps-listed t call m n lawful run'.0 within l here) w

-- ---- an operation that was started with a limit and is pending is listed

started-more : (t : Timed) (chan : GChan) (kind : OpKind) (len now limit : ℕ)
    → IsStart t chan kind now limit (accepted t.group.flight)
    → accepted (after_start t chan kind len now limit).group.flight ≡ accepted t.group.flight + 1
started-more t chan kind len now limit is =
    let g = group_steps.after_start t.group chan kind len in
    let more : accepted g.flight ≡ accepted t.group.flight + 1 =
    when-free (λ (h : Group). accepted h.flight ≡ accepted t.group.flight + 1) (start_refusal t.group chan kind) t.group
    (group_steps.started t.group chan kind len) is.free (length_push t.group.flight.operations _) in
    start-by (λ x. accepted x.group.flight ≡ accepted t.group.flight + 1) t chan kind len now limit
    (λ e refused. absurd (let clash : None ≡ Some e = sym is.own ∙ refused in cc)) (λ none. more) (λ own some p. more)

at-start : (t : Timed) (chan : GChan) (kind : OpKind) (len now limit m : ℕ) → limit ≢ 0 → now + limit ≤ m
    → waits (accepted t.group.flight) (after_start t chan kind len now limit) ≡ true
    → listed m (accepted t.group.flight) (after_start t chan kind len now limit) ≡ true
at-start t chan kind len now limit m some come =
    let n = accepted t.group.flight in
    let g = group_steps.after_start t.group chan kind len in
    let d = deadline-of t chan kind (now + limit) in
    start-by (λ x. waits n x ≡ true → listed m n x ≡ true) t chan kind len now limit
    (λ e refused w. absurd (false≢true (sym (none-next t.group.flight) ∙ w)))
    (λ none w. elim none [ inl zero' ↦ absurd (some zero') | inr idle ↦ absurd (false≢true (sym idle ∙ w)) ])
    (λ own some' p w.
    listed-insert m n d (with_group t g).deadlines
    ∙ ap (λ b. b || listed m n (with_group t g))
    (and_from (eqb n n) (leb (now + limit) m) (eqb-same n) (le-leb (now + limit) m come)))

-- from the start on
start-kept : (t : Timed) (chan : GChan) (kind : OpKind) (len now limit m n : ℕ) (calls : List Call) → IsLawful t
    → IsRunOf t (start_timed chan kind len now limit ∷ calls) → StartsBy n m t chan kind now limit
    → waits n (left_by (after_start t chan kind len now limit) calls) ≡ true
    → listed m n (left_by (after_start t chan kind len now limit) calls) ≡ true
start-kept t chan kind len now limit m n calls lawful run' by w =
    let is = start-parts t chan kind now limit n by.starts in
    subst
    (λ (k : ℕ). waits k (left_by (after_start t chan kind len now limit) calls) ≡ true
    → listed m k (left_by (after_start t chan kind len now limit) calls) ≡ true) is.next
    (λ w'.
    let s = after_start t chan kind len now limit in
    let next = lawful-step t (start_timed chan kind len now limit) lawful run'.0 in
    let more = started-more t chan kind len now limit (record { own = is.own; free = is.free; next = refl }) in
    let within : accepted t.group.flight < accepted s.group.flight = omega (arith, more) in
    let first = waits-back s calls (accepted t.group.flight) next run'.1 within w' in
    kept-in s calls m (accepted t.group.flight) next run'.1 within
    (at-start t chan kind len now limit m by.has_limit by.has_come first) w') w

due-back : (n : ℕ) (t : Timed) (calls : List Call) → IsLawful t → IsRunOf t calls → TimesOut n t calls
    → was_due n t calls ≡ true
due-back n t calls lawful run' is =
    let start = start_timed is.chan is.kind is.len is.now is.limit in
    let front = is.before ++ start ∷ is.between in
    let back = expire is.moment ∷ is.later in
    let both = run-split t front back (subst (IsRunOf t) is.are run') in
    let parts = run-split t is.before (start ∷ is.between) both.0 in
    let same = left-append t is.before (start ∷ is.between) in
    let s = left_by t front in
    let kept : listed is.moment n s ≡ true =
    subst (λ (x : Timed). listed is.moment n x ≡ true) (sym same)
    (start-kept (left_by t is.before) is.chan is.kind is.len is.now is.limit is.moment n is.between
    (lawful-left t is.before lawful parts.0) parts.1
    (record { starts = is.starts; has_limit = is.has_limit; has_come = is.has_come })
    (subst (λ (x : Timed). waits n x ≡ true) same is.pending)) in
    let due : is_due s is.moment n ≡ true = and_from (waits n s) (listed is.moment n s) is.pending kept in
    subst (λ (cs : List Call). was_due n t cs ≡ true) (sym is.are)
    (due-append n t front back
    ∙ ap (λ b. was_due n t front || (b || was_due n (after s (expire is.moment)) is.later)) due
    ∙ or-true (was_due n t front))

-- ---- the law

pub times-out-exactly : TimesOutExactly
times-out-exactly limits calls done is answer =
    let t = empty_timed limits in
    let lawful = lawful-empty_timed limits in
    let exact = due-exactly limits calls done is answer in (
      λ late. times-out done.op.0 t calls lawful is (λ m. refl) (exact.0 late),
      λ timed. exact.1 (due-back done.op.0 t calls lawful is timed),
    )
