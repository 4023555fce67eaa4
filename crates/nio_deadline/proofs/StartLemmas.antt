-- A group with time limits after an operation was started.
use Rattle.std.proofs.Common.{◌≡◌, ℕ, ◌<◌, ◌≤◌, ◌+◌, true, false, eqb, leb, List, [], ◌∷◌, Some, None, length, refl}
use Rattle.std.proofs.Common.{sym, ap, ◌∙◌, subst, arith}
use Rattle.std.proofs.lemmas.Bool.{ne_eqb}
use Rattle.std.proofs.lemmas.List.{get_or_push, get_or_past}
use Rattle.nio_base.specs.declared.numbers.GChan.{GChan}
use Rattle.nio_base.specs.declared.group.OpKind.{OpKind}
use Rattle.nio_base.specs.declared.group.OpKind.TheVariants.{Accept, Connect, Read, Write}
use Rattle.nio_group.specs.declared.operation.Stage.TheVariants.{Pending}
use Rattle.nio_group.specs.declared.refusal.StartError.{StartError}
use Rattle.nio_group.specs.Flight.{Flight, op_at, accepted}
use Rattle.nio_group.specs.declared.operation.Operation.{Operation}
use Rattle.nio_group.specs.Group.{Group, IsMade, is_open as open_by}
use Rattle.nio_group.specs.Refusals.{start_refusal}
use Rattle.nio_group.specs.Run as run
use Rattle.nio_group.specs.Stages.{is_pending}
use Rattle.nio_group.specs.Steps as group_steps
use Rattle.nio_group.specs.Steps.{first_stage}
use Rattle.nio_group.proofs.ListLemmas.{eqb-same}
use Rattle.nio_group.proofs.PendingLemmas.{same_kind-refl, pending-as-pending}
use Rattle.nio_group.proofs.RunLemmas.{lawful-after}
use Rattle.nio_group.proofs.StageLemmas.{stepped-after}
use Rattle.nio_group.proofs.TableLemmas.{by_test}
use Rattle.nio_deadline.specs.Deadlines.{Deadline, without, with_deadline}
use Rattle.nio_deadline.specs.Kept.{IsTimedKept, timed_of, IsAboveAll}
use Rattle.nio_deadline.specs.Steps.{with_limit}
use Rattle.nio_deadline.specs.Timed.{Timed, ArePending, IsLawful, IsPendingBy, with_group, may_have_limit}
use Rattle.nio_deadline.proofs.DeadlineLemmas.{insert-in_order, without-others, others-above}
use Rattle.nio_deadline.proofs.PendingLemmas.{stays-start}
use Rattle.nio_deadline.proofs.QueueLemmas.{keeps-start}
use Rattle.nio_deadline.proofs.TimedLemmas.{all-stay, still-pending, above-all, part-grows, when-free, when-refused}

first-pending : (kind : OpKind) (len : ℕ) → may_have_limit kind ≡ true → 0 < len → first_stage true kind len ≡ Pending
first-pending Accept len limited some = refl
first-pending Connect len limited some = refl
first-pending Read len limited some = rw (ne_eqb len 0 (λ none. absurd (omega arith))) refl
first-pending Write len limited some = rw (ne_eqb len 0 (λ none. absurd (omega arith))) refl

-- an operation that is started with a limit is pending
pub started-pending : (g : Group) (chan : GChan) (kind : OpKind) (len : ℕ) → start_refusal g chan kind ≡ None
    → open_by g chan ≡ true → 0 < len → may_have_limit kind ≡ true
    → IsPendingBy (group_steps.after_start g chan kind len).flight chan kind (accepted g.flight)
started-pending g chan kind len free is_open some limited =
    let op : Operation = record { chan = chan; kind = kind; len = len; stage = first_stage (open_by g chan) kind len } in
    let last = get_or_push g.flight.operations (Some op) None (accepted g.flight) refl in
    when-free (λ (h : Group). IsPendingBy h.flight chan kind (accepted g.flight)) (start_refusal g chan kind) g
    (group_steps.started g chan kind len) free (
      rw (last, is_open, first-pending kind len limited some, eqb-same chan.number, same_kind-refl kind) refl,
      rw (last, eqb-same chan.number, eqb-same chan.serial) refl,
    )

pub with-limit : (t : Timed) (chan : GChan) (kind : OpKind) (len at : ℕ) → IsLawful t
    → start_refusal t.group chan kind ≡ None → open_by t.group chan ≡ true → 0 < len
    → may_have_limit kind ≡ true
    → timed_of (group_steps.after_start t.group chan kind len)
    (with_deadline (record { at = at; op = accepted t.group.flight; chan = chan; kind = kind }) t.deadlines)
    t.timed_out t.kinds
    ≡ with_limit t chan kind at (with_group t (group_steps.after_start t.group chan kind len))
with-limit t chan kind len at lawful free is_open some limited =
    let g = group_steps.after_start t.group chan kind len in
    let pending = pending-as-pending chan.number kind (op_at g.flight (accepted t.group.flight))
    (started-pending t.group chan kind len free is_open some limited).0 in
    let stay = all-stay t.group g t.deadlines (stays-start t.group chan kind len) lawful.pending in
    rw pending
    (ap
    (λ (ds : List Deadline).
    timed_of g (with_deadline (record { at = at; op = accepted t.group.flight; chan = chan; kind = kind }) ds)
    t.timed_out t.kinds) stay)

pub without-inserted : (d : Deadline) (ds : List Deadline) → IsAboveAll d.op ds → without d.op (with_deadline d ds)
    ≡ ds
without-inserted d [] above = rw (eqb-same d.op) refl
without-inserted d (e ∷ es) above =
    let l = above.0 in
    let apart : eqb e.op d.op ≡ false = ne_eqb e.op d.op (λ same. absurd (omega arith)) in
    by_test (leb e.at d.at)
    (λ t. rw (t, apart) (ap (λ xs. e ∷ xs) (without-inserted d es above.1)))
    (λ f. rw (f, eqb-same d.op) (without-others d.op (e ∷ es) (others-above d.op (e ∷ es) above)))

-- a refused operation changes nothing
pub refused-same : (t : Timed) (chan : GChan) (kind : OpKind) (len : ℕ) (e : StartError) → IsLawful t
    → start_refusal t.group chan kind ≡ Some e → t ≡ with_group t (group_steps.after_start t.group chan kind len)
refused-same t chan kind len e lawful refused =
    when-refused (λ (h : Group). t ≡ with_group t h) (start_refusal t.group chan kind) e t.group
    (group_steps.started t.group chan kind len) refused
    (ap (λ (ds : List Deadline). timed_of t.group ds t.timed_out t.kinds)
    (all-stay t.group t.group t.deadlines (λ n p. p) lawful.pending))

pub refused-group : (g : Group) (chan : GChan) (kind : OpKind) (len : ℕ) (e : StartError)
    → start_refusal g chan kind ≡ Some e → group_steps.after_start g chan kind len ≡ g
refused-group g chan kind len e refused =
    when-refused (λ (h : Group). h ≡ g) (start_refusal g chan kind) e g
    (group_steps.started g chan kind len) refused
    refl

pub kept-room : (t : Timed) (n n' room room' : ℕ) → IsTimedKept t n room → n' ≡ n → room ≤ room'
    → IsTimedKept t n' room'
kept-room t n n' room room' kept same more =
    let counted = kept.counted in
    let had = kept.has_room in
    record {
      lawful = kept.lawful;
      counted = omega (arith, counted, same);
      has_room = omega (arith, had, more);
      few_in_flight = kept.few_in_flight;
    }

pub none-next : (f : Flight) → is_pending (op_at f (accepted f)) ≡ false
none-next f = ap is_pending (get_or_past f.operations (accepted f) None (omega arith))

pub refused-limit : (t : Timed) (chan : GChan) (kind : OpKind) (len at : ℕ) (e : StartError) → IsLawful t
    → start_refusal t.group chan kind ≡ Some e
    → t ≡ with_limit t chan kind at (with_group t (group_steps.after_start t.group chan kind len))
refused-limit t chan kind len at e lawful refused =
    let none : is_pending (op_at (group_steps.after_start t.group chan kind len).flight (accepted t.group.flight))
    ≡ false =
    when-refused (λ (h : Group). is_pending (op_at h.flight (accepted t.group.flight)) ≡ false)
    (start_refusal t.group chan kind) e t.group (group_steps.started t.group chan kind len) refused
    (none-next t.group.flight) in
    rw none (refused-same t chan kind len e lawful refused)

pub pending-insert : (g : Group) (d : Deadline) (ds : List Deadline) → IsPendingBy g.flight d.chan d.kind d.op
    → may_have_limit d.kind ≡ true → ArePending g ds → ArePending g (with_deadline d ds)
pending-insert g d [] p limited pending = (p, limited, tt)
pending-insert g d (e ∷ es) p limited pending =
    by_test (leb e.at d.at)
    (λ t. rw t (pending.0, pending.1, pending-insert g d es p limited pending.2))
    (λ f. rw f (p, limited, (pending.0, pending.1, pending.2)))

length-insert : (d : Deadline) (ds : List Deadline) → length (with_deadline d ds) ≡ length ds + 1
length-insert d [] = omega arith
length-insert d (e ∷ es) =
    let rest = length-insert d es in
    by_test (leb e.at d.at) (λ t. rw t (omega (arith, rest))) (λ f. rw f (omega arith))

pub kept-limited : (t : Timed) (chan : GChan) (kind : OpKind) (len at n n' room room' : ℕ) → IsTimedKept t n room
    → IsMade t.group chan → start_refusal t.group chan kind ≡ None
    → open_by t.group chan ≡ true → 0 < len → may_have_limit kind ≡ true → n' ≡ n
    → n + (length t.deadlines + 1) ≤ room'
    → IsTimedKept (timed_of (group_steps.after_start t.group chan kind len)
    (with_deadline (record { at = at; op = accepted t.group.flight; chan = chan; kind = kind }) t.deadlines)
    t.timed_out t.kinds) n' room'
kept-limited t chan kind len at n n' room room' kept within free is_open some limited same fits =
    let g = group_steps.after_start t.group chan kind len in
    let d : Deadline = record { at = at; op = accepted t.group.flight; chan = chan; kind = kind } in
    let lawful = kept.lawful in
    let step = stepped-after t.group (run.start chan kind len) lawful.group in
    let keeps = keeps-start t.group chan kind len in
    let stay = all-stay t.group g t.deadlines (stays-start t.group chan kind len) lawful.pending in
    let pending : ArePending g t.deadlines =
    subst (λ (ds : List Deadline). ArePending g ds) (sym stay)
    (still-pending t.group g t.deadlines step lawful.pending) in
    let counted = kept.counted in
    let longer = length-insert d t.deadlines in
    record {
      lawful = record {
        group = lawful-after t.group (run.start chan kind len) lawful.group within;
        pending = pending-insert g d t.deadlines
            (started-pending t.group chan kind len free is_open some limited) limited pending;
        in_order = insert-in_order d t.deadlines lawful.in_order (above-all t.group t.deadlines lawful.pending);
        queued = rw keeps.queue (part-grows keeps.more lawful.queued);
        each_channel = lawful.each_channel ∙ sym keeps.channels;
      };
      counted = omega (arith, counted, same);
      has_room = omega (arith, counted, longer, fits);
      few_in_flight = rw keeps.flight kept.few_in_flight;
    }
