-- Each timed step leads from a lawful state to a lawful one.
use Rattle.std.specs.Bool.{⊤}
use Rattle.std.proofs.Common.{◌≡◌, ℕ, ◌≤◌, ◌+◌, Bool, true, false, not, ◌&&◌, eqb, leb, List, [], ◌∷◌, ◌++◌, cond}
use Rattle.std.proofs.Common.{◌⊎◌, inl, inr, Option, Some, None, refl, sym, ap, ◌∙◌, subst, get_or}
use Rattle.std.specs.Option.{option_or}
use Rattle.std.proofs.lemmas.Bool.{false≢true, eqb-false, leb-false, leb-true}
use Rattle.std.proofs.lemmas.List.{get_or_push, length-replicate}
use Rattle.nio_base.specs.declared.numbers.GChan.{GChan}
use Rattle.nio_base.specs.declared.group.OpKind.{OpKind}
use Rattle.nio_base.specs.declared.group.OpKind.TheVariants.{Accept, Connect, Read, Write}
use Rattle.nio_group.specs.declared.limits.GroupLimits.{GroupLimits}
use Rattle.nio_group.specs.declared.operation.Operation.{Operation}
use Rattle.nio_group.specs.Completion.{CompletionFields}
use Rattle.nio_group.specs.Flight.{op_at, accepted}
use Rattle.nio_group.specs.Group.{Group, IsMade, is_open as open_by}
use Rattle.nio_group.specs.Refusals.{start_refusal}
use Rattle.nio_group.specs.Run as run
use Rattle.nio_group.specs.Stages.{is_on, is_pending, is_pending_as, stage_is_pending}
use Rattle.nio_group.specs.Steps as group_steps
use Rattle.nio_group.specs.Steps.{first_stage, answer_to_take}
use Rattle.nio_group.proofs.ListLemmas.{eqb-same}
use Rattle.nio_group.proofs.PendingLemmas.{same_kind-refl}
use Rattle.nio_group.proofs.RestLemmas.{lawful-empty}
use Rattle.nio_group.proofs.RunLemmas.{lawful-after, unless-refused}
use Rattle.nio_group.proofs.StageLemmas.{stepped-after}
use Rattle.nio_group.proofs.TableLemmas.{by_test}
use Rattle.nio_deadline.specs.Deadlines.{Deadline, AreInOrder, due}
use Rattle.nio_deadline.specs.Kept.{timed_of, IsAboveAll}
use Rattle.nio_deadline.specs.Run.{Call, open_channel, bind, start_timed, report, expire, take, finish, close_channel}
use Rattle.nio_deadline.specs.Run.{shutdown, shutdown_now, IsCallOf, IsRunOf, after, reply_to, left_by, StepsAreLawful}
use Rattle.nio_deadline.specs.Steps.{after_start, after_expire, after_take, with_timeout, with_timeouts, with_limit}
use Rattle.nio_deadline.specs.Steps.{kept_if_refused, started}
use Rattle.nio_deadline.specs.Timed.{Timed, IsLawful, no_number, with_group, may_have_limit, own_refusal, late_refusal}
use Rattle.nio_deadline.specs.Timed.{empty_timed, no_kinds, last_moment, IsPendingBy}
use Rattle.nio_deadline.specs.declared.refusal.TimedError.{TimedError}
use Rattle.nio_deadline.proofs.Due.{is_due_at}
use Rattle.nio_deadline.proofs.DeadlineLemmas.{insert-in_order, none-due}
use Rattle.nio_deadline.proofs.ExpireLemmas.{expire-first, lawful-timeout, timeout-deadlines}
use Rattle.nio_deadline.proofs.PendingLemmas.{stays-start}
use Rattle.nio_deadline.proofs.QueueLemmas.{keeps-open, keeps-bind, keeps-start, keeps-report, keeps-finish}
use Rattle.nio_deadline.proofs.QueueLemmas.{keeps-close, keeps-shutdown, keeps-shutdown_now, Keeps}
use Rattle.nio_deadline.proofs.StartLemmas.{none-next, pending-insert}
use Rattle.nio_deadline.proofs.TakeLemmas.{lawful-take, nothing-same, taken-nothing, taken-one}
use Rattle.nio_deadline.proofs.TimedLemmas.{above-all, all-stay, lawful-with_group}

-- ---- `expire`, one deadline after the other

-- what holds before the first deadline that has come times out holds after it, and so after all have
pub expire-by : (P : Timed → Type 0) (now : ℕ)
    → ((t : Timed) (d : Deadline) (ds : List Deadline) → IsLawful t → t.deadlines ≡ d ∷ ds → d.at ≤ now → P t
    → P (with_timeout t d))
    → (es : List Deadline) (t : Timed) → t.deadlines ≡ es → IsLawful t → P t
    → (x : Timed) × (x ≡ after_expire t now) × IsLawful x × P x × (due now x.deadlines ≡ [])
expire-by P now step [] t is lawful holds =
    let none : due now t.deadlines ≡ [] = ap (λ (xs : List Deadline). due now xs) is in
    (t, sym (ap (λ (xs : List Deadline). with_timeouts t xs) none), lawful, holds, none)
expire-by P now step (d ∷ ds) t is lawful holds =
    by_test (leb d.at now)
    (λ u.
    let come = leb-true d.at now u in
    let left = sym (timeout-deadlines t d ds lawful is) in
    let rest = expire-by P now step ds (with_timeout t d) left (lawful-timeout t d ds lawful is)
    (step t d ds lawful is come holds) in
    (rest.0, rest.1 ∙ sym (expire-first t now d ds is come left), rest.2, rest.3, rest.4))
    (λ f.
    let order : AreInOrder (d ∷ ds) = subst (λ (xs : List Deadline). AreInOrder xs) is lawful.in_order in
    let none : due now t.deadlines ≡ [] =
    ap (λ (xs : List Deadline). due now xs) is ∙ none-due now d.at (d ∷ ds) order refl (leb-false d.at now f) in
    (t, sym (ap (λ (xs : List Deadline). with_timeouts t xs) none), lawful, holds, none))

lawful-expire : (t : Timed) (now : ℕ) → IsLawful t → IsLawful (after_expire t now)
lawful-expire t now lawful =
    let all = expire-by (λ x. ⊤) now (λ x d ds l is come h. tt) t.deadlines t refl lawful tt in
    subst (λ (x : Timed). IsLawful x) all.1 all.2

-- ---- `take`

lawful-taken : (t : Timed) → IsLawful t → IsLawful (after_take t)
lawful-taken t lawful = by_answer (answer_to_take t.group) refl
  where
    by_answer : (o : Option CompletionFields) → answer_to_take t.group ≡ o → IsLawful (after_take t)
    by_answer None none =
        subst (λ (x : Timed). IsLawful x)
        (ap (λ (g : Group). timed_of g t.deadlines t.timed_out t.kinds)
        (sym (nothing-same t.group lawful.group none))
        ∙ taken-nothing t lawful none) lawful
    by_answer (Some x) some =
        subst (λ (y : Timed). IsLawful y) (taken-one t x lawful some) (lawful-take t x lawful some)

-- ---- `start_timed`

started-as : (g : Group) (chan : GChan) (kind : OpKind) (len : ℕ)
    → is_pending (op_at (group_steps.after_start g chan kind len).flight (accepted g.flight)) ≡ true
    → IsPendingBy (group_steps.after_start g chan kind len).flight chan kind (accepted g.flight)
started-as g chan kind len =
    unless-refused
    (λ (h : Group). is_pending (op_at h.flight (accepted g.flight)) ≡ true
    → IsPendingBy h.flight chan kind (accepted g.flight))
    (start_refusal g chan kind) g (group_steps.started g chan kind len)
    (λ p. absurd (false≢true (sym (none-next g.flight) ∙ p)))
    (λ free p. by_op (record {
      chan = chan;
      kind = kind;
      len = len;
      stage = first_stage (open_by g chan) kind len;
    }) refl refl p)
  where
    by_op : (op : Operation) → op.chan ≡ chan → op.kind ≡ kind
        → is_pending (get_or (g.flight.operations ++ Some op ∷ []) (accepted g.flight) None) ≡ true
        → (is_pending_as chan.number kind (get_or (g.flight.operations ++ Some op ∷ []) (accepted g.flight) None) ≡ true)
        × (is_on chan (get_or (g.flight.operations ++ Some op ∷ []) (accepted g.flight) None) ≡ true)
    by_op op same_chan same p =
        let last = get_or_push g.flight.operations (Some op) None (accepted g.flight) refl in
        let pending = sym (ap is_pending last) ∙ p in (
          rw last (rw (pending, same_chan, same, eqb-same chan.number, same_kind-refl kind) refl),
          rw last (rw (same_chan, eqb-same chan.number, eqb-same chan.serial) refl),
        )

limited-kind : (limit_is_0 may late : Bool) (e e' : TimedError) (rest : Option TimedError) → limit_is_0 ≡ false
    → option_or (cond (not limit_is_0 && not may) (Some e) (cond late None (Some e'))) rest ≡ None → may ≡ true
limited-kind false true late e e' rest zero none = refl
limited-kind false false late e e' rest zero none = cc
limited-kind true may late e e' rest zero none = absurd (false≢true (sym zero))

own-limited : (t : Timed) (chan : GChan) (kind : OpKind) (now limit : ℕ) → eqb limit 0 ≡ false
    → own_refusal t chan kind now limit ≡ None → may_have_limit kind ≡ true
own-limited t chan kind now limit some free =
    limited-kind (eqb limit 0) (may_have_limit kind) (leb (now + limit) last_moment) _ _
    (late_refusal t chan kind) some free

pub kept-or : (P : Timed → Type 0) (r : Option TimedError) (old new : Timed) → P old → (r ≡ None → P new)
    → P (kept_if_refused r old new)
kept-or P None old new kept made = made refl
kept-or P (Some e) old new kept made = kept

lawful-limit : (t : Timed) (chan : GChan) (kind : OpKind) (len at : ℕ) → IsLawful t → IsMade t.group chan
    → may_have_limit kind ≡ true
    → IsLawful (with_limit t chan kind at (with_group t (group_steps.after_start t.group chan kind len)))
lawful-limit t chan kind len at lawful within limited =
    let g = group_steps.after_start t.group chan kind len in
    let plain = lawful-with_group t g lawful
    (lawful-after t.group (run.start chan kind len) lawful.group within)
    (stepped-after t.group (run.start chan kind len) lawful.group) (keeps-start t.group chan kind len) in
    let stay = all-stay t.group g t.deadlines (stays-start t.group chan kind len) lawful.pending in
    let d : Deadline = record { at = at; op = accepted t.group.flight; chan = chan; kind = kind } in
    by_test (is_pending (op_at g.flight (accepted t.group.flight)))
    (λ u. rw u
    (record {
      group = plain.group;
      pending = pending-insert g d (with_group t g).deadlines
          (started-as t.group chan kind len u) limited plain.pending;
      in_order = insert-in_order d (with_group t g).deadlines plain.in_order
          (subst (λ (ds : List Deadline). IsAboveAll (accepted t.group.flight) ds) stay
          (above-all t.group t.deadlines lawful.pending));
      queued = plain.queued;
      each_channel = plain.each_channel;
    }))
    (λ f. rw f plain)

lawful-start : (t : Timed) (chan : GChan) (kind : OpKind) (len now limit : ℕ) → IsLawful t
    → IsMade t.group chan → IsLawful (after_start t chan kind len now limit)
lawful-start t chan kind len now limit lawful within =
    kept-or IsLawful (own_refusal t chan kind now limit) t (started t chan kind len now limit) lawful
    (λ free.
    by_test (eqb limit 0)
    (λ u. rw u
    (lawful-with_group t (group_steps.after_start t.group chan kind len) lawful
    (lawful-after t.group (run.start chan kind len) lawful.group within)
    (stepped-after t.group (run.start chan kind len) lawful.group) (keeps-start t.group chan kind len)))
    (λ f. rw f
    (lawful-limit t chan kind len (now + limit) lawful within (own-limited t chan kind now limit f free))))

-- an operation without bytes, or on a closed channel, isn't pending
not-first : (opened : Bool) (kind : OpKind) (len : ℕ) → may_have_limit kind ≡ true → (len ≡ 0) ⊎ (opened ≡ false)
    → stage_is_pending (first_stage opened kind len) ≡ false
not-first false kind len limited none = refl
not-first true Accept len limited none = absurd (false≢true limited)
not-first true Connect len limited none = absurd (false≢true limited)
not-first true Read len limited (inl none) = rw none refl
not-first true Read len limited (inr closed) = absurd (false≢true (sym closed))
not-first true Write len limited (inl none) = rw none refl
not-first true Write len limited (inr closed) = absurd (false≢true (sym closed))

-- so it has no deadline
idle-start : (g : Group) (chan : GChan) (kind : OpKind) (len : ℕ) → may_have_limit kind ≡ true
    → (len ≡ 0) ⊎ (open_by g chan ≡ false)
    → is_pending (op_at (group_steps.after_start g chan kind len).flight (accepted g.flight)) ≡ false
idle-start g chan kind len limited none =
    unless-refused (λ (h : Group). is_pending (op_at h.flight (accepted g.flight)) ≡ false) (start_refusal g chan kind) g
    (group_steps.started g chan kind len) (none-next g.flight)
    (λ free.
    let op : Operation = record { chan = chan; kind = kind; len = len; stage = first_stage (open_by g chan) kind len } in
    ap is_pending (get_or_push g.flight.operations (Some op) None (accepted g.flight) refl)
    ∙ not-first (open_by g chan) kind len limited none)

pub unlimited-start : (t : Timed) (chan : GChan) (kind : OpKind) (len now limit : ℕ)
    → own_refusal t chan kind now limit ≡ None → (limit ≡ 0) ⊎ ((len ≡ 0) ⊎ (open_by t.group chan ≡ false))
    → with_group t (group_steps.after_start t.group chan kind len) ≡ after_start t chan kind len now limit
unlimited-start t chan kind len now limit free none =
    sym (ap (λ (o : Option TimedError). kept_if_refused o t (started t chan kind len now limit)) free ∙ by_limit)
  where
    some : eqb limit 0 ≡ false → (len ≡ 0) ⊎ (open_by t.group chan ≡ false)
    some f = elim none [ inl zero' ↦ absurd (eqb-false limit 0 f zero') | inr rest ↦ rest ]

    by_limit : started t chan kind len now limit ≡ with_group t (group_steps.after_start t.group chan kind len)
    by_limit =
        by_test (eqb limit 0)
        (λ u. rw u refl)
        (λ f.
        let idle = idle-start t.group chan kind len (own-limited t chan kind now limit f free) (some f) in
        rw (f, idle) refl)

-- ---- each call

-- a call is one of the group's that keeps its queue and its limits and at which no deadline comes, or it is a start,
-- an `expire` or a `take`
pub by-call : (t : Timed) (P : (Call → Timed → Type 0))
    → ((call : Call) (core : run.Call) → run.IsCallOf t.group core → Keeps t.group (run.after t.group core)
    → ((n : ℕ) → is_due_at n t call ≡ false) → P call (with_group t (run.after t.group core)))
    → ((chan : GChan) (kind : OpKind) (len now limit : ℕ) → IsMade t.group chan
    → P (start_timed chan kind len now limit) (after_start t chan kind len now limit))
    → ((now : ℕ) → P (expire now) (after_expire t now)) → P take (after_take t) → (call : Call) → IsCallOf t call
    → P call (after t call)
by-call t P plain start expires takes (open_channel kind) made =
    plain _ (run.open_channel kind) tt (keeps-open t.group kind) (λ n. refl)
by-call t P plain start expires takes (bind chan) made =
    plain _ (run.bind chan) made (keeps-bind t.group chan) (λ n. refl)
by-call t P plain start expires takes (start_timed chan kind len now limit) made = start chan kind len now limit made
by-call t P plain start expires takes (report op outcome) made =
    plain _ (run.report op outcome) tt (keeps-report t.group op.0 outcome) (λ n. refl)
by-call t P plain start expires takes (expire now) made = expires now
by-call t P plain start expires takes take made = takes
by-call t P plain start expires takes (finish op) made =
    plain _ (run.finish op) tt (keeps-finish t.group op.0) (λ n. refl)
by-call t P plain start expires takes (close_channel chan) made =
    plain _ (run.close_channel chan) made (keeps-close t.group chan) (λ n. refl)
by-call t P plain start expires takes shutdown made =
    plain _ run.shutdown tt (keeps-shutdown t.group) (λ n. refl)
by-call t P plain start expires takes shutdown_now made =
    plain _ run.shutdown_now tt (keeps-shutdown_now t.group) (λ n. refl)

pub lawful-step : (t : Timed) (call : Call) → IsLawful t → IsCallOf t call → IsLawful (after t call)
lawful-step t call lawful made =
    by-call t (λ c x. IsLawful x)
    (λ c core of keeps none. lawful-with_group t (run.after t.group core) lawful
    (lawful-after t.group core lawful.group of) (stepped-after t.group core lawful.group) keeps)
    (λ chan kind len now limit within. lawful-start t chan kind len now limit lawful within)
    (λ now. lawful-expire t now lawful) (lawful-taken t lawful) call made

pub steps-lawful : StepsAreLawful
steps-lawful t call lawful made =
    record {
      reply = reply_to t call;
      left = after t call;
      step = record { answers = refl; leaves = refl };
      lawful = lawful-step t call lawful made;
      only = λ reply left step. (step.answers, step.leaves);
    }

pub lawful-empty_timed : (limits : GroupLimits) → IsLawful (empty_timed limits)
lawful-empty_timed limits =
    record {
      group = lawful-empty limits;
      pending = tt;
      in_order = tt;
      queued = no_number [];
      each_channel = length-replicate limits.channels no_kinds;
    }

pub lawful-left : (t : Timed) (calls : List Call) → IsLawful t → IsRunOf t calls → IsLawful (left_by t calls)
lawful-left t [] lawful run' = lawful
lawful-left t (call ∷ calls) lawful run' = lawful-left (after t call) calls (lawful-step t call lawful run'.0) run'.1
