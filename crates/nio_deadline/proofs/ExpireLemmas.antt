-- A group with time limits after operations have timed out.
use Rattle.std.proofs.Common.{◌≡◌, ℕ, ◌<◌, ◌≤◌, ◌+◌, true, List, ◌∷◌, Option, Some, None, length, refl, sym, ap, ◌∙◌}
use Rattle.std.proofs.Common.{subst, arith}
use Rattle.std.proofs.lemmas.Bool.{false≢true, le-leb}
use Rattle.std.proofs.lemmas.List.{length-set, length_push}
use Rattle.nio_base.specs.declared.group.OpKind.{OpKind}
use Rattle.nio_base.specs.declared.group.OpKind.TheVariants.{Accept, Connect, Read, Write}
use Rattle.nio_base.specs.declared.group.Outcome.TheVariants.{Fault}
use Rattle.nio_group.specs.declared.operation.Operation.{Operation}
use Rattle.nio_group.specs.Flight.{op_at, Flight, IsPendingAs}
use Rattle.nio_group.specs.Refusals.{is_allowed, report_refusal}
use Rattle.nio_group.specs.Run as run
use Rattle.nio_group.specs.Stages.{is_pending_as}
use Rattle.nio_group.specs.Steps.{after_report}
use Rattle.nio_group.proofs.LawfulLemmas.{open-within}
use Rattle.nio_group.proofs.ListLemmas.{eqb-same}
use Rattle.nio_group.proofs.RunLemmas.{lawful-after}
use Rattle.nio_group.proofs.StageLemmas.{stepped-after}
use Rattle.nio_deadline.specs.Deadlines.{Deadline, AreInOrder, without, due}
use Rattle.nio_deadline.specs.Kept.{IsTimedKept}
use Rattle.nio_deadline.specs.Steps.{with_timeout, with_timeouts, after_expire}
use Rattle.nio_deadline.specs.Timed.{Timed, ArePending, IsLawful, kinds_at, with_kind}
use Rattle.nio_deadline.proofs.DeadlineLemmas.{without-others, others-before}
use Rattle.nio_deadline.proofs.QueueLemmas.{keeps-report}
use Rattle.nio_deadline.proofs.TimedLemmas.{part-push, lawful-with_group, reported-deadlines, reported-flight}
use Rattle.nio_group.proofs.PendingLemmas.{pending-as-pending}

fault-allowed : (kind : OpKind) (len : ℕ) → is_allowed kind len Fault ≡ true
fault-allowed Accept len = refl
fault-allowed Connect len = refl
fault-allowed Read len = refl
fault-allowed Write len = refl

-- a pending operation may fail
pub fault-free : (c : ℕ) (kind : OpKind) (slot : Option Operation) → is_pending_as c kind slot ≡ true
    → report_refusal slot Fault ≡ None
fault-free c kind None h = absurd (false≢true h)
fault-free c kind (Some op) h = rw (pending-as-pending c kind (Some op) h, fault-allowed op.kind op.len) refl

pub first-pending : (t : Timed) (d : Deadline) (ds : List Deadline) → IsLawful t → t.deadlines ≡ d ∷ ds
    → IsPendingAs t.group.flight d.chan.number d.kind d.op
first-pending t d ds lawful is =
    let pending : ArePending t.group (d ∷ ds) = subst (λ (es : List Deadline). ArePending t.group es) is
    lawful.pending in
    pending.0.0

-- the first deadline alone leaves
pub timeout-deadlines : (t : Timed) (d : Deadline) (ds : List Deadline) → IsLawful t → t.deadlines ≡ d ∷ ds
    → ds ≡ (with_timeout t d).deadlines
timeout-deadlines t d ds lawful is =
    let pending : ArePending t.group (d ∷ ds) = subst (λ (es : List Deadline). ArePending t.group es) is
    lawful.pending in
    let order : AreInOrder (d ∷ ds) = subst (λ (es : List Deadline). AreInOrder es) is lawful.in_order in
    let free = fault-free d.chan.number d.kind (op_at t.group.flight d.op) pending.0.0 in
    let first : without d.op (d ∷ ds) ≡ ds =
    rw (eqb-same d.op) (without-others d.op ds (others-before d ds order.0)) in
    rw is (sym first ∙ reported-deadlines t.group d.op Fault (d ∷ ds) free pending)

pub lawful-timeout : (t : Timed) (d : Deadline) (ds : List Deadline) → IsLawful t → t.deadlines ≡ d ∷ ds
    → IsLawful (with_timeout t d)
lawful-timeout t d ds lawful is =
    let pending = first-pending t d ds lawful is in
    let free = fault-free d.chan.number d.kind (op_at t.group.flight d.op) pending in
    let g = after_report t.group d.op Fault in
    let left = lawful-with_group t g lawful (lawful-after t.group (run.report
    (record { 0 = d.op }) Fault) lawful.group tt)
    (stepped-after t.group (run.report (record { 0 = d.op }) Fault) lawful.group) (keeps-report t.group d.op Fault) in
    record {
      group = left.group;
      pending = left.pending;
      in_order = left.in_order;
      queued = rw (ap (λ (f : Flight). f.queue) (reported-flight t.group d.op Fault free).left)
          (part-push d.op lawful.queued);
      each_channel = length-set t.kinds d.chan.number (with_kind (kinds_at t d.chan) d.kind) ∙ left.each_channel;
    }

pub kept-timeout : (t : Timed) (d : Deadline) (ds : List Deadline) (len len' room : ℕ) → IsTimedKept t len room
    → t.deadlines ≡ d ∷ ds → len' ≡ len + 1 → IsTimedKept (with_timeout t d) len' room
kept-timeout t d ds len len' room kept is more =
    let had = kept.has_room in
    let counted = kept.counted in
    let left = timeout-deadlines t d ds kept.lawful is in
    let before = ap (λ (es : List Deadline). length es) is in
    let after = ap (λ (es : List Deadline). length es) left in
    let pushed = length_push t.timed_out d.op in
    record {
      lawful = lawful-timeout t d ds kept.lawful is;
      counted = omega (arith, counted, pushed, more);
      has_room = omega (arith, had, before, after, pushed);
      few_in_flight = rw (keeps-report t.group d.op Fault).flight kept.few_in_flight;
    }

-- a deadline's channel is among those that can be made
pub within-kinds : (t : Timed) (d : Deadline) (ds : List Deadline) → IsLawful t → t.deadlines ≡ d ∷ ds
    → d.chan.number < length t.kinds
within-kinds t d ds lawful is =
    let pending = first-pending t d ds lawful is in
    let made = open-within t.group.channels d.chan.number (lawful.group.pending_open d.op d.chan.number d.kind pending) in
    let few = lawful.group.few_channels in
    let each = lawful.each_channel in
    omega (arith, made, few, each)

due-cons : (now : ℕ) (d : Deadline) (es ds : List Deadline) → es ≡ d ∷ ds → d.at ≤ now → due now es ≡ d ∷ due now ds
due-cons now d es ds is l = ap (λ (xs : List Deadline). due now xs) is ∙ rw (le-leb d.at now l) refl

-- with the first one, which has come, the others that have come time out
pub expire-first : (t : Timed) (now : ℕ) (d : Deadline) (ds : List Deadline) → t.deadlines ≡ d ∷ ds → d.at ≤ now
    → (with_timeout t d).deadlines ≡ ds → after_expire t now ≡ after_expire (with_timeout t d) now
expire-first t now d ds is l left =
    ap (λ (es : List Deadline). with_timeouts t es) (due-cons now d t.deadlines ds is l)
    ∙ ap (λ (es : List Deadline). with_timeouts (with_timeout t d) (due now es)) (sym left)

pub due-first : (now : ℕ) (d : Deadline) (es ds : List Deadline) → es ≡ d ∷ ds → d.at ≤ now
    → length (due now es) ≡ length (due now ds) + 1
due-first now d es ds is l =
    let longer = ap (λ (xs : List Deadline). length xs) (due-cons now d es ds is l) in omega (arith, longer)
