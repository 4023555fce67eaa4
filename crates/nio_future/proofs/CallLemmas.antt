-- A desk after a call of its group, before its completions are taken.
use Rattle.std.proofs.Common.{◌≡◌, inl, inr, ℕ, ◌<◌, ◌≤◌, false, ltb, get_or, List, Option, Some, None, length}
use Rattle.std.proofs.Common.{refl, sym, ap, ◌∙◌, subst, arith, Result, Ok, Err, IfOk, OnErr}
use Rattle.std.proofs.lemmas.Bool.{false≢true, ltb-true, ltb-false}
use Rattle.std.proofs.lemmas.List.{get_or_past}
use Rattle.nio_base.specs.declared.numbers.GChan.{GChan}
use Rattle.nio_base.specs.declared.group.GKind.{GKind}
use Rattle.nio_group.specs.declared.limits.GroupLimits.{GroupLimits}
use Rattle.nio_group.specs.declared.operation.Operation.{Operation}
use Rattle.nio_group.specs.declared.operation.Stage.{Stage}
use Rattle.nio_group.specs.declared.operation.Stage.TheVariants.{Pending, Queued, Running}
use Rattle.nio_group.specs.declared.refusal.StartError.{StartError}
use Rattle.nio_group.specs.Flight.{Flight, op_at, accepted}
use Rattle.nio_group.specs.declared.channel.Channel.{Channel}
use Rattle.nio_group.specs.Group.{Group, IsMade, StaysMade, no_channel}
use Rattle.nio_group.specs.Limits.{IsFit}
use Rattle.nio_group.specs.Run.{Call, open_channel, IsCallOf, after, GoesOn, IsNext}
use Rattle.nio_group.specs.Stages.{is_queued}
use Rattle.nio_group.specs.Steps.{answer_to_open, after_open, kept_if_refused, unless_refused}
use Rattle.nio_group.proofs.MakingLemmas.{open-made, refused-open}
use Rattle.nio_group.proofs.NumberLemmas.{made-stays}
use Rattle.nio_group.proofs.RestLemmas.{lawful-empty}
use Rattle.nio_group.proofs.RunLemmas.{lawful-after}
use Rattle.nio_group.proofs.StageLemmas.{stepped-after}
use Rattle.nio_group.proofs.TableLemmas.{by_test}
use Rattle.nio_future.specs.Desk.{DeskState, empty_desk, held_at}
use Rattle.nio_future.specs.Kept.{Agrees, IsSettling, IsDesk}
use Rattle.nio_future.specs.Steps.{settled, by_group}
use Rattle.nio_future.proofs.FrameLemmas.{is_start, framed-after}
use Rattle.nio_future.specs.Tickets.{KeepsTickets}
use Rattle.nio_future.proofs.SettleLemmas.{HasSameOut, settled-desk, same-out-settled, settled-by, keeps-same}
use Rattle.nio_future.proofs.SettleLemmas.{settled-empty}

-- nothing is queued where the queue is empty
pub none-queued : (d : DeskState) → IsDesk d → (n : ℕ) → is_queued (op_at d.group.flight n) ≡ false
none-queued d desk n =
    let once = desk.settling.lawful.queued_once n in
    let none = rw desk.empty at once in
    by_test (is_queued (op_at d.group.flight n)) (λ t. absurd (let never = rw t at none in omega (arith, never)))
    (λ f. f)

agrees-goes : (stage : Stage) (op : Operation) (held next : Option Operation) → op.stage ≡ stage
    → Agrees (Some op) held → is_queued (Some op) ≡ false → GoesOn stage op next → Agrees next held
agrees-goes Pending op held next is agrees idle goes =
    subst (λ (slot : Option Operation). Agrees slot held) (sym goes.1) (refl, agrees.1)
agrees-goes (Queued r) op held next is agrees idle goes = absurd (false≢true (sym (rw is at idle)))
agrees-goes Running op held next is agrees idle goes = absurd (false≢true (sym (rw is at agrees.0)))

agrees-next : (slot held next : Option Operation) → Agrees slot held → is_queued slot ≡ false → IsNext slot next
    → Agrees next held
agrees-next None held next agrees idle same = subst (λ (x : Option Operation). Agrees x held) (sym same) agrees
agrees-next (Some op) held next agrees idle (inl same) =
    subst (λ (x : Option Operation). Agrees x held) (sym same) agrees
agrees-next (Some op) held next agrees idle (inr goes) = agrees-goes op.stage op held next refl agrees idle goes

-- an operation that the desk knows, after the next step
pub agrees-after : (d : DeskState) (call : Call) (n : ℕ) → IsDesk d → n < accepted d.group.flight
    → Agrees (op_at (after d.group call).flight n) (held_at d n)
agrees-after d call n desk within =
    agrees-next (op_at d.group.flight n) (held_at d n) (op_at (after d.group call).flight n) (desk.settling.agrees n)
    (none-queued d desk n) ((stepped-after d.group call desk.settling.lawful).next n within)

pub past-accepted : (f : Flight) (n : ℕ) → ltb n (accepted f) ≡ false → op_at f n ≡ None
past-accepted f n not = get_or_past f.operations n None (ltb-false n (accepted f) not)

pub settling-after : (d : DeskState) (call : Call) → IsDesk d → IsCallOf d.group call → is_start call ≡ false
    → IsSettling (record d { group = after d.group call })
settling-after d call desk made other =
    let s = desk.settling in
    let frame = framed-after d.group call other in
    let few = s.few_ops in
    let ops = frame.ops in
    let counts = s.same_count in
    let accepts = frame.accepts in
    record {
      lawful = lawful-after d.group call s.lawful made;
      same_limit = s.same_limit ∙ sym frame.limit;
      few_ops = omega (arith, few, ops);
      same_count = omega (arith, counts, accepts);
      few_out = s.few_out;
      agrees = λ n.
          by_test (ltb n (accepted d.group.flight))
          (λ t. agrees-after d call n desk (ltb-true n (accepted d.group.flight) t))
          (λ f.
          let same : accepted (after d.group call).flight ≡ accepted d.group.flight = omega (arith, accepts) in
          let before = past-accepted d.group.flight n f in
          let later = past-accepted (after d.group call).flight n
          (ap (λ (k : ℕ). ltb n k) same ∙ f) in
          subst (λ (slot : Option Operation). Agrees slot (held_at d n)) (before ∙ sym later) (s.agrees n));
    }

pub desk-by_group : (d : DeskState) (call : Call) → IsDesk d → IsCallOf d.group call → is_start call ≡ false
    → IsDesk (by_group d call)
desk-by_group d call desk made other =
    settled-desk (record d { group = after d.group call }) (settling-after d call desk made other)

pub same-out-by_group : (d : DeskState) (call : Call) → IsDesk d → IsCallOf d.group call → is_start call ≡ false
    → HasSameOut d (by_group d call)
same-out-by_group d call desk made other =
    let next = same-out-settled (record d { group = after d.group call }) (settling-after d call desk made other) in
    record { source = next.source; out = next.out }

pub desk-empty : (limits : GroupLimits) (source : ℕ) (places : List ℕ) → IsFit limits
    → IsDesk (empty_desk limits source places)
desk-empty limits source places fit =
    let few = fit.few_ops in
    record {
      settling = record {
        lawful = lawful-empty limits;
        same_limit = refl;
        few_ops = few;
        same_count = refl;
        few_out = omega arith;
        agrees = λ n. tt;
      };
      empty = refl;
    }

-- ---- what each call promises besides its answer

pub channels-settled : (d : DeskState) → IsSettling d → (settled d).group.channels ≡ d.group.channels
channels-settled d settling =
    settled-by (λ x. x.group.channels ≡ d.group.channels)
    (λ x x' n rest s next before. ap (λ (g : Group). g.channels) next.group.left ∙ before)
    d settling refl

-- what was made is made where the channels are the same
pub made-same : (g h : Group) (chan : GChan) → h.channels ≡ g.channels → IsMade g chan → IsMade h chan
made-same g h chan same made =
    subst (λ (cs : List Channel). (chan.number < length cs) × (chan.serial ≤ (get_or cs chan.number no_channel).serial))
    (sym same) made

-- a call keeps the tickets and the channels that were made
pub record IsKeeping (old new : DeskState) : Type 0 where
  pub tickets : KeepsTickets old new
  pub made : StaysMade old.group new.group

keeping-by_group : (d : DeskState) (call : Call) → IsDesk d → IsCallOf d.group call → is_start call ≡ false
    → IsKeeping d (by_group d call)
keeping-by_group d call desk made other =
    let settling = settling-after d call desk made other in
    let same = channels-settled (record d { group = after d.group call }) settling in
    record {
      tickets = keeps-same d (by_group d call) (same-out-by_group d call desk made other);
      made = λ chan was. made-same (after d.group call) (by_group d call).group chan same
          (made-stays d.group call desk.settling.lawful made chan was);
    }

-- the same of the desk `d` that a call opens, where `g` is what the group's call leaves and `new` what `settle` leaves
pub settles-call : (d : DeskState) (call : Call) (g : Group) → IsDesk d → IsCallOf d.group call
    → is_start call ≡ false → g ≡ after d.group call → IsSettling (record d { group = g })
settles-call d call g desk made other is = rw is (settling-after d call desk made other)

leaves-call : (d old new : DeskState) (call : Call) (g : Group) → d ≡ old → g ≡ after d.group call
    → new ≡ settled (record d { group = g }) → new ≡ by_group old call
leaves-call d old new call g view is settles =
    settles ∙ ap (λ (h : Group). settled (record d { group = h })) is ∙ ap (λ (x : DeskState). by_group x call) view

-- what a call of the group leaves of a desk
pub record IsCalled (old new : DeskState) (call : Call) : Type 0 where
  pub after : new ≡ by_group old call
  pub tickets : KeepsTickets old new
  pub made : StaysMade old.group new.group

pub called : (d old new : DeskState) (call : Call) (g : Group) → d ≡ old → IsDesk d → IsCallOf d.group call
    → is_start call ≡ false → g ≡ after d.group call → new ≡ settled (record d { group = g }) → IsCalled old new call
called d old new call g view desk made other is settles =
    let leaves = leaves-call d old new call g view is settles in
    let keeping : IsKeeping old new = rw leaves
    (subst (λ (x : DeskState). IsKeeping x (by_group x call)) view (keeping-by_group d call desk made other)) in
    record { after = leaves; tickets = keeping.tickets; made = keeping.made }

-- a channel that was opened is made
pub opened-made : (d : DeskState) (kind : GKind) (new : DeskState) (g : Group) → IsDesk d → g ≡ after_open d.group kind
    → new ≡ settled (record d { group = g }) → (answer : Result GChan StartError) → answer ≡ answer_to_open d.group kind
    → IfOk answer (IsMade new.group)
opened-made d kind new g desk is settles answer answers = by_answer answer answers
  where
    same : (by_group d (open_channel kind)).group.channels ≡ (after_open d.group kind).channels
    same = channels-settled (record d { group = after d.group (open_channel kind) })
        (settling-after d (open_channel kind) desk tt refl)

    by_answer : (r : Result GChan StartError) → r ≡ answer_to_open d.group kind → IfOk r (IsMade new.group)
    by_answer (Err e) is' = tt
    by_answer (Ok chan) is' =
        subst (λ (x : DeskState). IsMade x.group chan) (sym (leaves-call d d new (open_channel kind) g refl is settles))
        (made-same (after_open d.group kind) (by_group d (open_channel kind)).group chan same
        (open-made d.group kind chan desk.settling.lawful (sym is')))

-- where no channel is opened the desk is as it was
pub open-keeps : (kind : GKind) (result : Result GChan StartError) (d old new : DeskState)
    → result ≡ answer_to_open d.group kind → IsDesk d → d ≡ old → new ≡ by_group old (open_channel kind)
    → OnErr result (new ≡ old)
open-keeps kind (Ok chan) d old new answers desk view is = tt
open-keeps kind (Err e) d old new answers desk view is =
    let same : by_group d (open_channel kind) ≡ d =
    ap (λ (g : Group). settled (record d { group = g })) (refused-open d.group kind e (sym answers))
    ∙ settled-empty d desk.empty in
    is ∙ ap (λ (x : DeskState). by_group x (open_channel kind)) (sym view) ∙ same ∙ view

-- a refused call leaves the desk as it was
pub refused-keeps : {T E : Type 0} (r : Option E) (answer : T) (result : Result T E) (d old new : DeskState) (h : Group)
    (call : Call) → result ≡ unless_refused r answer → after d.group call ≡ kept_if_refused r d.group h → IsDesk d
    → d ≡ old → new ≡ by_group old call → OnErr result (new ≡ old)
refused-keeps None answer result d old new h call answers leaves desk view is = rw answers tt
refused-keeps (Some e) answer result d old new h call answers leaves desk view is =
    let same : by_group d call ≡ d =
    ap (λ (g : Group). settled (record d { group = g })) leaves ∙ settled-empty d desk.empty in
    let kept : new ≡ old = is ∙ ap (λ (x : DeskState). by_group x call) (sym view) ∙ same ∙ view in
    rw answers kept
