-- What the desk holds for a ticket, and what a poll and a cancel leave.
use Rattle.std.proofs.Common.{◌≡◌, ◌⊎◌, inl, inr, ℕ, ◌<◌, ◌≤◌, Bool, true, false, cond, eqb, List, [], ◌∷◌, ◌++◌}
use Rattle.std.proofs.Common.{Option, Some, None, is_some, length, get_or, refl, sym, ap, ◌∙◌, subst, arith, ◌↔◌}
use Rattle.std.proofs.lemmas.Bool.{false≢true, eqb-true, eqb-false, ne_eqb}
use Rattle.std.proofs.lemmas.List.{get_or_past, get_or_push, length-set}
use Rattle.nio_base.specs.declared.numbers.OpNo.{OpNo}
use Rattle.nio_base.specs.declared.group.Finished.{Finished}
use Rattle.nio_group.specs.declared.operation.Operation.{Operation}
use Rattle.nio_group.specs.declared.operation.Stage.{Stage}
use Rattle.nio_group.specs.declared.operation.Stage.TheVariants.{Pending, Queued, Running}
use Rattle.nio_group.specs.Flight.{op_at, closed_on, with_channel_closed}
use Rattle.nio_group.specs.Group.{Group, IsMade, StaysMade, channel_at, is_present}
use Rattle.nio_group.specs.Operations.{Accepted, with_operation}
use Rattle.nio_group.specs.Run.{close_channel}
use Rattle.nio_group.specs.Steps.{after_close, with_closed}
use Rattle.nio_group.specs.Stages.{is_pending, is_pending_as, is_pending_on, stage_is_pending, is_queued, at_stage}
use Rattle.nio_group.proofs.FlightLemmas.{some-within}
use Rattle.nio_group.proofs.IndexLemmas.{count_by-cons}
use Rattle.nio_group.proofs.ListLemmas.{eqb-same, get_or-push, get_or-set, within-where}
use Rattle.nio_group.proofs.TableLemmas.{by_test, count_by-set}
use Rattle.nio_group.proofs.PendingLemmas.{pending-own}
use Rattle.nio_future.specs.Desk.{DeskState, held_at, is_out, result_at, result_in, stage_result}
use Rattle.nio_future.specs.Kept.{Agrees, IsSettling, IsDesk}
use Rattle.nio_future.specs.Steps.{after_cancel, by_group, closed_for, settled, without_ticket}
use Rattle.nio_future.specs.Ticket.{Ticket}
use Rattle.nio_future.specs.Tickets.{AreTicketsOf, GivesTicket, IsTicketOf, KeepsTickets, TakesTicket}
use Rattle.nio_future.proofs.CallLemmas.{called, desk-by_group, none-queued, same-out-by_group, settling-after}
use Rattle.nio_future.proofs.SettleLemmas.{HasSameOut, desk_of, settled-by, settled-desk}
use Rattle.std.proofs.Math.ListN.{get_or-map}

-- ---- the three states of an operation that the desk has started

-- its ticket isn't out, and it has ended
pub record IsGone (slot held : Option Operation) : Type 0 where
  pub slot_is : slot ≡ None
  pub held_is : held ≡ None

-- its ticket is out, and it is pending
pub record IsWaiting (slot held : Option Operation) : Type 0 where
  pub op : Operation
  pub stage : op.stage ≡ Pending
  pub slot_is : slot ≡ Some op
  pub held_is : held ≡ Some op

-- its ticket is out, and its result waits
pub record HasResult (slot held : Option Operation) : Type 0 where
  pub op : Operation
  pub result : Finished
  pub stage : op.stage ≡ Queued result
  pub slot_is : slot ≡ None
  pub held_is : held ≡ Some op

abbrev pub IsKnown : Option Operation → Option Operation → Type 0
IsKnown slot held = IsGone slot held ⊎ (IsWaiting slot held ⊎ HasResult slot held)

ended-known : (held : Operation) (stage : Stage) → held.stage ≡ stage → is_queued (Some held) ≡ true
    → IsKnown None (Some held)
ended-known held Pending is queued = absurd (false≢true (rw is at queued))
ended-known held (Queued r) is queued =
    inr (inr (record { op = held; result = r; stage = is; slot_is = refl; held_is = refl }))
ended-known held Running is queued = absurd (false≢true (rw is at queued))

flight-known : (op : Operation) (held : Option Operation) (stage : Stage) → op.stage ≡ stage → Agrees (Some op) held
    → is_queued (Some op) ≡ false → IsKnown (Some op) held
flight-known op held Pending is agrees idle =
    let same : at_stage Pending op ≡ op = ap (λ (s : Stage). at_stage s op) (sym is) in
    inr (inl (record { op = op; stage = is; slot_is = refl; held_is = agrees.1 ∙ ap Some same }))
flight-known op held (Queued r) is agrees idle = absurd (false≢true (sym (rw is at idle)))
flight-known op held Running is agrees idle = absurd (false≢true (sym (rw is at agrees.0)))

known-by : (slot held : Option Operation) → Agrees slot held → is_queued slot ≡ false → IsKnown slot held
known-by None None agrees idle = inl (record { slot_is = refl; held_is = refl })
known-by None (Some held) agrees idle = ended-known held held.stage refl agrees
known-by (Some op) held agrees idle = flight-known op held op.stage refl agrees idle

pub known : (d : DeskState) (n : ℕ) → IsDesk d → IsKnown (op_at d.group.flight n) (held_at d n)
known d n desk = known-by (op_at d.group.flight n) (held_at d n) (desk.settling.agrees n) (none-queued d desk n)

-- ---- a ticket that is out no more

abbrev pub bit : Bool → ℕ
bit b = cond b 1 0

pub others-without : (d : DeskState) (n m : ℕ) → n < length d.out.operations
    → held_at (without_ticket d n) m ≡ cond (eqb m n) None (held_at d m)
others-without d n m within = get_or-set d.out.operations n None None m within

pub desk-without : (d : DeskState) (n : ℕ) → IsDesk d → is_out d n ≡ true → op_at d.group.flight n ≡ None
    → IsDesk (without_ticket d n)
desk-without d n desk out ended = by_held (held_at d n) refl
  where
    by_held : (held : Option Operation) → held_at d n ≡ held → IsDesk (without_ticket d n)
    by_held None is = absurd (false≢true (ap is_some (sym is) ∙ out))
    by_held (Some op) is =
        let s = desk.settling in
        let xs = d.out.operations in
        let within = some-within xs n op is in
        let few = s.few_out in
        let counts = count_by-set is_some xs n None None within in
        let was : bit (is_some (held_at d n)) ≡ 1 = ap bit out in
        record {
          settling = record {
            lawful = s.lawful;
            same_limit = s.same_limit;
            few_ops = s.few_ops;
            same_count = length-set xs n None ∙ s.same_count;
            few_out = omega (arith, few, counts, was);
            agrees = λ m.
                let there = others-without d n m within in
                by_test (eqb m n)
                (λ t.
                let same = eqb-true m n t in
                let none : op_at d.group.flight m ≡ None =
                subst (λ (k : ℕ). op_at d.group.flight k ≡ None) (sym same) ended in
                let gone : held_at (without_ticket d n) m ≡ None =
                there ∙ ap (λ (b : Bool). cond b None (held_at d m)) t in
                rw (none, gone) tt)
                (λ f.
                let kept : held_at (without_ticket d n) m ≡ held_at d m =
                there ∙ ap (λ (b : Bool). cond b None (held_at d m)) f in
                rw kept (s.agrees m));
          };
          empty = desk.empty;
        }

-- ---- `cancel`: the channel of a pending operation is closed

-- the desk after the channel of this operation was closed, if that was pending
pub record IsClosedFor (d d' : DeskState) (n : ℕ) : Type 0 where
  pub desk : IsDesk d'
  pub same_out : HasSameOut d d'
  pub made : StaysMade d.group d'.group
  pub ended : op_at d'.group.flight n ≡ None

not-closed : (d : DeskState) (n : ℕ) → IsDesk d → op_at d.group.flight n ≡ None → IsClosedFor d d n
not-closed d n desk ended =
    record {
      desk = desk;
      same_out = record { source = refl; out = λ m. refl };
      made = omega arith;
      ended = ended;
    }

-- an operation that isn't pending before its desk is settled has ended after
ended-settled : (d : DeskState) (n : ℕ) → IsSettling d → is_pending (op_at d.group.flight n) ≡ false
    → op_at (settled d).group.flight n ≡ None
ended-settled d n settling past = ended (known (settled d) n (settled-desk d settling))
  where
    still : is_pending (op_at (settled d).group.flight n) ≡ false
    still =
        settled-by (λ x. is_pending (op_at x.group.flight n) ≡ false)
        (λ x x' k rest s next before.
        by_test (eqb n k)
        (λ t. subst (λ (m : ℕ). is_pending (op_at x'.group.flight m) ≡ false) (sym (eqb-true n k t))
        (ap is_pending next.group.gone))
        (λ f. ap is_pending (next.group.others n (eqb-false n k f)) ∙ before))
        d settling past

    ended : IsKnown (op_at (settled d).group.flight n) (held_at (settled d) n)
        → op_at (settled d).group.flight n ≡ None
    ended (inl gone) = gone.slot_is
    ended (inr (inl waiting)) =
        let pending : is_pending (op_at (settled d).group.flight n) ≡ true =
        ap is_pending waiting.slot_is ∙ ap stage_is_pending waiting.stage in
        absurd (false≢true (sym still ∙ pending))
    ended (inr (inr ready)) = ready.slot_is

closed-past : (g : Group) (n : ℕ) (op : Operation) → op_at g.flight n ≡ Some op → op.stage ≡ Pending
    → (channel_at g op.chan.number).is_open ≡ true → is_present g op.chan ≡ true
    → is_pending (op_at (after_close g op.chan).flight n) ≡ false
closed-past g n op is pending opened present =
    let closed : after_close g op.chan
    ≡ record (with_closed g op.chan.number) { flight = with_channel_closed g.flight op.chan.number } =
    rw (present, opened) refl in
    let slot : op_at (with_channel_closed g.flight op.chan.number) n ≡ closed_on op.chan.number (Some op) =
    get_or-map (closed_on op.chan.number) g.flight.operations n None ∙ ap (closed_on op.chan.number) is in
    let on : is_pending_on op.chan.number (Some op) ≡ true = rw (pending, eqb-same op.chan.number) refl in
    let past : is_pending (closed_on op.chan.number (Some op)) ≡ false = rw on refl in
    ap (λ (h : Group). is_pending (op_at h.flight n)) closed ∙ ap is_pending slot ∙ past

pub pending-made : (d : DeskState) (n : ℕ) (op : Operation) → IsDesk d → op_at d.group.flight n ≡ Some op
    → op.stage ≡ Pending
    → ((channel_at d.group op.chan.number).is_open ≡ true) × IsMade d.group op.chan × (is_present d.group op.chan ≡ true)
pending-made d n op desk is pending =
    let pends : is_pending_as op.chan.number op.kind (op_at d.group.flight n) ≡ true =
    rw is (pending-own op (rw pending refl)) in
    let opened = desk.settling.lawful.pending_open n op.chan.number op.kind pends in
    (opened, desk.settling.lawful.made n op is, desk.settling.lawful.present n op is (rw pending refl))

waiting-closed : (d : DeskState) (n : ℕ) (op : Operation) → IsDesk d → op_at d.group.flight n ≡ Some op
    → op.stage ≡ Pending → IsClosedFor d (by_group d (close_channel op.chan)) n
waiting-closed d n op desk is pending =
    let made = pending-made d n op desk is pending in
    let settling = settling-after d (close_channel op.chan) desk made.1 refl in
    let call = called d d (by_group d (close_channel op.chan))
    (close_channel op.chan) _ refl desk made.1 refl refl refl in
    record {
      desk = desk-by_group d (close_channel op.chan) desk made.1 refl;
      same_out = same-out-by_group d (close_channel op.chan) desk made.1 refl;
      made = call.made;
      ended = ended-settled (record d { group = after_close d.group op.chan }) n settling
          (closed-past d.group n op is pending made.0 made.2);
    }

closed-by : (d : DeskState) (n : ℕ) → IsDesk d → IsKnown (op_at d.group.flight n) (held_at d n)
    → IsClosedFor d (closed_for d (op_at d.group.flight n)) n
closed-by d n desk (inl gone) = rw gone.slot_is (not-closed d n desk gone.slot_is)
closed-by d n desk (inr (inl waiting)) =
    let slot = waiting.slot_is in
    let pending : is_pending (Some waiting.op) ≡ true = ap stage_is_pending waiting.stage in
    let closes : closed_for d (op_at d.group.flight n) ≡ by_group d (close_channel waiting.op.chan) =
    ap (closed_for d) slot
    ∙ ap (λ (b : Bool). cond b (by_group d (close_channel waiting.op.chan)) d) pending in
    rw closes (waiting-closed d n waiting.op desk slot waiting.stage)
closed-by d n desk (inr (inr ready)) = rw ready.slot_is (not-closed d n desk ready.slot_is)

pub closed-for : (d : DeskState) (n : ℕ) → IsDesk d → IsClosedFor d (closed_for d (op_at d.group.flight n)) n
closed-for d n desk = closed-by d n desk (known d n desk)

-- what the desk holds at `Pending` is pending in the group
pub waiting-from : (d : DeskState) (n : ℕ) (held : Operation) → IsDesk d → held_at d n ≡ Some held
    → held.stage ≡ Pending → op_at d.group.flight n ≡ Some held
waiting-from d n held desk is stage = by_known (known d n desk)
  where
    by_known : IsKnown (op_at d.group.flight n) (held_at d n) → op_at d.group.flight n ≡ Some held
    by_known (inl gone) = absurd (let never = sym gone.held_is ∙ is in cc)
    by_known (inr (inl waiting)) = waiting.slot_is ∙ sym waiting.held_is ∙ is
    by_known (inr (inr ready)) =
        let same : Some ready.op ≡ Some held = sym ready.held_is ∙ is in
        let op : ready.op ≡ held = cc in
        let both : Queued ready.result ≡ Pending = sym ready.stage ∙ ap (λ (o : Operation). o.stage) op ∙ stage in
        absurd (let never : ⊥ = cc in never)

-- an operation whose result waits has ended
pub result-ended : (d : DeskState) (n : ℕ) (result : Finished) → IsDesk d → result_at d n ≡ Some result
    → op_at d.group.flight n ≡ None
result-ended d n result desk is = by_known (known d n desk)
  where
    by_known : IsKnown (op_at d.group.flight n) (held_at d n) → op_at d.group.flight n ≡ None
    by_known (inl gone) = gone.slot_is
    by_known (inr (inl waiting)) =
        let none : result_at d n ≡ None = ap result_in waiting.held_is ∙ ap stage_result waiting.stage in
        absurd (let never = sym none ∙ is in cc)
    by_known (inr (inr ready)) = ready.slot_is

-- of a ticket that is out no result waits exactly while its operation is pending
pub waits-while-pending : (d : DeskState) (n : ℕ) → IsDesk d → is_out d n ≡ true
    → (result_at d n ≡ None) ↔ (is_pending (op_at d.group.flight n) ≡ true)
waits-while-pending d n desk out = by_known (known d n desk)
  where
    by_known : IsKnown (op_at d.group.flight n) (held_at d n)
        → (result_at d n ≡ None) ↔ (is_pending (op_at d.group.flight n) ≡ true)
    by_known (inl gone) = absurd (false≢true (sym (ap is_some gone.held_is) ∙ out))
    by_known (inr (inl waiting)) = (
      λ none. ap is_pending waiting.slot_is ∙ ap stage_is_pending waiting.stage,
      λ pending. ap result_in waiting.held_is ∙ ap stage_result waiting.stage,
    )
    by_known (inr (inr ready)) = (
      λ none. let some : result_at d n ≡ Some ready.result =
          ap result_in ready.held_is ∙ ap stage_result ready.stage in
          absurd (let never = sym none ∙ some in cc),
      λ pending. absurd (false≢true (sym (ap is_pending ready.slot_is) ∙ pending)),
    )

pub out-within : (d : DeskState) (n : ℕ) → is_out d n ≡ true → n < length d.out.operations
out-within d n out = within-where is_some d.out.operations n None refl out

at-most-one : (b : Bool) → bit b ≤ 1
at-most-one true = omega arith
at-most-one false = omega arith

-- ---- lists of tickets

-- a desk from which the first ticket has gone
pub gives-without : (d : DeskState) (t : Ticket) → is_out d t.op.0 ≡ true
    → GivesTicket t d (without_ticket d t.op.0)
gives-without d t out = λ ts tickets.
    record {
      made_here = tickets.made_here.1;
      each = λ m.
          let n = t.op.0 in
          let few = tickets.each m in
          let counts = count_by-cons {X = Ticket} (λ (u : Ticket). eqb u.op.0 m) t ts in
          let within = out-within d n out in
          let there = others-without d n m within in
          by_test (eqb m n)
          (λ b.
          let same = eqb-true m n b in
          let gone : held_at (without_ticket d n) m ≡ None =
          there ∙ ap (λ (x : Bool). cond x None (held_at d m)) b in
          let first : bit (eqb n m) ≡ 1 = ap (λ (k : ℕ). bit (eqb n k)) same ∙ ap bit (eqb-same n) in
          let one : bit (is_out d m) ≡ 1 = ap (λ (k : ℕ). bit (is_out d k)) same ∙ ap bit out in
          let none : bit (is_out (without_ticket d n) m) ≡ 0 = ap (λ (o : Option Operation). bit (is_some o)) gone in
          omega (arith, few, counts, first, one, none))
          (λ f.
          let kept : held_at (without_ticket d n) m ≡ held_at d m =
          there ∙ ap (λ (x : Bool). cond x None (held_at d m)) f in
          let as_was : bit (is_out (without_ticket d n) m) ≡ bit (is_out d m) =
          ap (λ (o : Option Operation). bit (is_some o)) kept in
          omega (arith, few, counts, as_was));
    }

-- the ticket that is given is out
pub is-given : (d : DeskState) (t : Ticket) (out : Accepted) (op : Operation) → t.desk ≡ d.source ∷ []
    → t.op.0 ≡ length d.out.operations → out.operations ≡ d.out.operations ++ Some op ∷ []
    → IsTicketOf (record d { out = out }) t
is-given d t out op named number pushed =
    let there : get_or out.operations t.op.0 None ≡ Some op =
    ap (λ (xs : List (Option Operation)). get_or xs t.op.0 None) pushed
    ∙ get_or_push d.out.operations (Some op) None t.op.0 (sym number) in
    record { made_here = named; out = ap is_some there }

-- a desk to which one ticket more was given
pub takes-with : (d : DeskState) (t : Ticket) (out : Accepted) (op : Operation) → t.desk ≡ d.source ∷ []
    → t.op.0 ≡ length d.out.operations → out.operations ≡ d.out.operations ++ Some op ∷ []
    → TakesTicket t d (record d { out = out })
takes-with d t out op named number pushed = λ ts tickets.
    record {
      made_here = (named, tickets.made_here);
      each = λ m.
          let n = length d.out.operations in
          let few = tickets.each m in
          let counts = count_by-cons {X = Ticket} (λ (u : Ticket). eqb u.op.0 m) t ts in
          let there : get_or out.operations m None ≡ cond (eqb m n) (Some op) (held_at d m) =
          ap (λ (xs : List (Option Operation)). get_or xs m None) pushed
          ∙ get_or-push d.out.operations (Some op) None m in
          by_test (eqb m n)
          (λ b.
          let same = eqb-true m n b in
          let past : held_at d m ≡ None = get_or_past d.out.operations m None (omega (arith, same)) in
          let none : bit (is_out d m) ≡ 0 = ap (λ (o : Option Operation). bit (is_some o)) past in
          let now : bit (is_some (get_or out.operations m None)) ≡ 1 =
          ap (λ (o : Option Operation). bit (is_some o))
          (there ∙ ap (λ (x : Bool). cond x (Some op) (held_at d m)) b) in
          let at_most = at-most-one (eqb t.op.0 m) in
          omega (arith, few, counts, none, now, at_most))
          (λ f.
          let as_was : bit (is_some (get_or out.operations m None)) ≡ bit (is_out d m) =
          ap (λ (o : Option Operation). bit (is_some o))
          (there ∙ ap (λ (x : Bool). cond x (Some op) (held_at d m)) f) in
          let other : bit (eqb t.op.0 m) ≡ 0 =
          ap bit (ap (λ (k : ℕ). eqb k m) number ∙ ne_eqb n m (λ e. eqb-false m n f (sym e))) in
          omega (arith, few, counts, as_was, other));
    }

-- ---- `close_for`

-- what it answers and leaves
pub record ClosesFor (old new : DeskState) (n : ℕ) (pending : Bool) : Type 0 where
  pub answer : pending ≡ is_pending (op_at old.group.flight n)
  pub after : new ≡ closed_for old (op_at old.group.flight n)
  pub out : is_out new n ≡ is_out old n
  pub ended : op_at new.group.flight n ≡ None

closes-here : (d new : DeskState) (n : ℕ) (held : Operation) → IsDesk d → held_at d n ≡ Some held
    → held.stage ≡ Pending → new ≡ by_group d (close_channel held.chan) → ClosesFor d new n true
closes-here d new n held desk there pending is =
    let slot = waiting-from d n held desk there pending in
    let waits : is_pending (Some held) ≡ true = ap stage_is_pending pending in
    let closes : closed_for d (op_at d.group.flight n) ≡ by_group d (close_channel held.chan) =
    ap (closed_for d) slot
    ∙ ap (λ (b : Bool). cond b (by_group d (close_channel held.chan)) d) waits in
    let facts = closed-for d n desk in
    let after : new ≡ closed_for d (op_at d.group.flight n) = is ∙ sym closes in
    record {
      answer = sym (ap is_pending slot ∙ waits);
      after = after;
      out = ap (λ (x : DeskState). is_out x n) after ∙ facts.same_out.out n;
      ended = ap (λ (x : DeskState). op_at x.group.flight n) after ∙ facts.ended;
    }

pub closes : (d old new : DeskState) (n : ℕ) (held : Operation) → IsDesk d → d ≡ old → held_at d n ≡ Some held
    → held.stage ≡ Pending → new ≡ by_group old (close_channel held.chan) → ClosesFor old new n true
closes d old new n held desk view there pending is =
    let here : new ≡ by_group d (close_channel held.chan) → ClosesFor d new n true =
    λ same. closes-here d new n held desk there pending same in
    (subst (λ (x : DeskState). new ≡ by_group x (close_channel held.chan) → ClosesFor x new n true) view here) is

-- ---- `cancel`

-- what it leaves, where `d` is the desk after `close_for`
pub record IsCancelled (old new : DeskState) (t : Ticket) : Type 0 where
  pub desk : IsDesk new
  pub after : new ≡ after_cancel old t.op.0
  pub tickets : GivesTicket t old new

pub cancelled : (d old : DeskState) (t : Ticket) (op : OpNo) (out : Accepted) → IsDesk d → IsTicketOf old t → op ≡ t.op
    → d ≡ closed_for old (op_at old.group.flight op.0) → is_out d op.0 ≡ is_out old op.0
    → op_at d.group.flight op.0 ≡ None → KeepsTickets old d → out ≡ with_operation d.out op.0 None
    → IsCancelled old (desk_of d.group out d.source d.places) t
cancelled d old t op out desk ticket number closed same ended keeps left =
    let n = op.0 in
    let was : is_out old n ≡ true = ap (λ (k : OpNo). is_out old k.0) number ∙ ticket.out in
    let is : is_out d n ≡ true = same ∙ was in
    let taken : desk_of d.group out d.source d.places ≡ without_ticket d n = ap
    (λ (a : Accepted). desk_of d.group a d.source d.places) left in
    let gives : GivesTicket t d (without_ticket d t.op.0) =
    gives-without d t (ap (λ (k : OpNo). is_out d k.0) (sym number) ∙ is) in
    record {
      desk = rw taken (desk-without d n desk is ended);
      after = taken ∙ ap (λ (x : DeskState). without_ticket x n) closed
          ∙ ap (λ (k : OpNo). after_cancel old k.0) number;
      tickets = λ ts tickets.
          subst (λ (x : DeskState). AreTicketsOf x ts)
          (ap (λ (k : OpNo). without_ticket d k.0) (sym number) ∙ sym taken)
          (gives ts (keeps.lists (t ∷ ts) tickets));
    }
