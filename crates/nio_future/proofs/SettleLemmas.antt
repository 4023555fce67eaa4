-- What taking one completion changes, and what taking all of them keeps.
use Rattle.std.proofs.Common.{◌≡◌, ◌≢◌, ℕ, ◌<◌, true, List, [], ◌∷◌, Option, Some, None, is_some, count_by, length}
use Rattle.std.proofs.Common.{get_or, set, refl, sym, ap, ◌∙◌, subst, arith, get_or-set_same, get_or-set_other, eqb}
use Rattle.std.proofs.lemmas.Bool.{false≢true, eqb-true, eqb-false}
use Rattle.std.proofs.lemmas.List.{length-set}
use Rattle.nio_base.specs.declared.numbers.OpNo.{OpNo}
use Rattle.nio_base.specs.declared.group.Finished.{Finished}
use Rattle.nio_group.specs.declared.operation.Operation.{Operation}
use Rattle.nio_group.specs.declared.operation.Stage.{Stage}
use Rattle.nio_group.specs.declared.operation.Stage.TheVariants.{Pending, Queued, Running}
use Rattle.nio_group.specs.Completion.{CompletionFields}
use Rattle.nio_group.specs.Flight.{op_at, accepted, with_ended, flight_after_take}
use Rattle.nio_group.specs.Group.{Group, IsLawful}
use Rattle.nio_group.specs.Operations.{Accepted}
use Rattle.nio_group.specs.Stages.{is_queued, is_running, at_stage}
use Rattle.nio_group.specs.Steps.{answer_to_take, after_take, after_finish, finish_refusal, kept_if_refused}
use Rattle.nio_group.proofs.FlightLemmas.{some-within}
use Rattle.nio_group.proofs.QueueLemmas.{QueueHolds, front-queued}
use Rattle.nio_group.proofs.EndLemmas.{lawful-after_take, lawful-after_finish}
use Rattle.nio_group.proofs.TableLemmas.{by_test, count_by-set}
use Rattle.nio_future.specs.Desk.{DeskState, held_at, is_out, tickets_out}
use Rattle.nio_future.specs.Tickets.{AreMadeHere, KeepsTickets}
use Rattle.nio_future.specs.Kept.{Agrees, IsSettling, IsDesk}
use Rattle.nio_future.specs.Steps.{with_taken, with_all_taken, settled, with_result}
use Rattle.std.specs.Option.{option_map}

-- ---- the group

-- the group after the completion at the front of its queue was taken and its operation has ended
pub record IsEndedAt (g g' : Group) (n : ℕ) (rest : List ℕ) : Type 0 where
  pub op : Operation
  pub result : Finished
  pub was : op_at g.flight n ≡ Some op
  pub stage : op.stage ≡ Queued result
  pub answer : answer_to_take g
      ≡ Some (record { op = record { 0 = n }; chan = op.chan; kind = op.kind; finished = result })
  pub running : is_running (op_at (after_take g).flight n) ≡ true
  pub left : g' ≡ record g {
    flight = record g.flight {
      operations = set (set g.flight.operations n (Some (at_stage Running op))) n None;
      queue = rest;
    };
  }
  pub gone : op_at g'.flight n ≡ None
  pub others : (m : ℕ) → m ≢ n → op_at g'.flight m ≡ op_at g.flight m

pub ended-at : (g : Group) (n : ℕ) (rest : List ℕ) → IsLawful g → g.flight.queue ≡ n ∷ rest
    → IsEndedAt g (after_finish (after_take g) n) n rest
ended-at g n rest lawful is = by_slot (op_at g.flight n) refl
  where
    holds : QueueHolds g.flight.operations (n ∷ rest)
    holds = rw is at lawful.queued_once

    by_stage : (op : Operation) → op_at g.flight n ≡ Some op → (stage : Stage) → op.stage ≡ stage
        → is_queued (Some op) ≡ true → IsEndedAt g (after_finish (after_take g) n) n rest
    by_stage op there Pending e queued = absurd (false≢true (rw e at queued))
    by_stage op there Running e queued = absurd (false≢true (rw e at queued))
    by_stage op there (Queued result) e queued =
        let xs = g.flight.operations in
        let l = some-within xs n op there in
        let ys = set xs n (Some (at_stage Running op)) in
        let runs : get_or ys n None ≡ Some (at_stage Running op) = get_or-set_same xs n _ None l in
        let took : after_take g ≡ record g { flight = record g.flight { operations = ys; queue = rest } } =
        rw (is, there) refl in
        let running : is_running (op_at (after_take g).flight n) ≡ true =
        ap (λ (h : Group). is_running (op_at h.flight n)) took ∙ ap is_running runs in
        let h : Group = record g { flight = record g.flight { operations = ys; queue = rest } } in
        let ends : after_finish h n ≡ record h { flight = with_ended h.flight n } =
        ap (λ (slot : Option Operation). kept_if_refused (finish_refusal (is_running slot)) h
        (record h { flight = with_ended h.flight n })) runs in
        let left : after_finish (after_take g) n
        ≡ record g { flight = record g.flight { operations = set ys n None; queue = rest } } =
        ap (λ (x : Group). after_finish x n) took ∙ ends in
        record {
          op = op;
          result = result;
          was = there;
          stage = e;
          answer = rw (is, there, e) refl;
          running = running;
          left = left;
          gone = rw left
              (get_or-set_same ys n None None (omega (arith, l, length-set xs n (Some (at_stage Running op)))));
          others = λ m differ. rw left
              (get_or-set_other ys n m None None differ ∙ get_or-set_other xs n m
              (Some (at_stage Running op)) None differ);
        }

    by_slot : (slot : Option Operation) → op_at g.flight n ≡ slot
        → IsEndedAt g (after_finish (after_take g) n) n rest
    by_slot None there = absurd (false≢true (rw there at (front-queued g.flight.operations n rest holds)))
    by_slot (Some op) there =
        by_stage op there op.stage refl (rw there at (front-queued g.flight.operations n rest holds))

-- ---- the desk

-- the desk after the completion at the front of the queue was taken
pub record IsNextTaken (d d' : DeskState) (n : ℕ) (rest : List ℕ) : Type 0 where
  pub group : IsEndedAt d.group d'.group n rest
  pub taken : d' ≡ with_taken d
      (Some (record { op = record { 0 = n }; chan = group.op.chan; kind = group.op.kind; finished = group.result }))
  pub held : held_at d n ≡ Some (at_stage Pending group.op)
  pub puts_by : held_at d' n ≡ Some (at_stage (Queued group.result) group.op)
  pub others : (m : ℕ) → m ≢ n → held_at d' m ≡ held_at d m
  pub out : (m : ℕ) → is_out d' m ≡ is_out d m

held-in : (slot held : Option Operation) (op : Operation) → slot ≡ Some op → Agrees slot held
    → held ≡ Some (at_stage Pending op)
held-in None held op is agrees = cc
held-in (Some x) held op is agrees = agrees.1 ∙ ap (λ (y : Option Operation). option_map (at_stage Pending) y) is

pub next-taken : (d : DeskState) (n : ℕ) (rest : List ℕ) → IsSettling d → d.group.flight.queue ≡ n ∷ rest
    → IsNextTaken d (with_taken d (answer_to_take d.group)) n rest
next-taken d n rest settling is =
    let ended = ended-at d.group n rest settling.lawful is in
    let done : CompletionFields =
    record { op = record { 0 = n }; chan = ended.op.chan; kind = ended.op.kind; finished = ended.result } in
    let taken : with_taken d (answer_to_take d.group) ≡ with_taken d (Some done) = ap (with_taken d) ended.answer in
    let held : held_at d n ≡ Some (at_stage Pending ended.op) =
    held-in (op_at d.group.flight n) (held_at d n) ended.op ended.was (settling.agrees n) in
    let xs = d.out.operations in
    let l = some-within xs n (at_stage Pending ended.op) held in
    let put : (with_result d.out n ended.result).operations ≡ set xs n
    (Some (at_stage (Queued ended.result) ended.op)) =
    ap (λ (slot : Option Operation). set xs n (option_map (at_stage (Queued ended.result)) slot)) held in
    let here : held_at (with_taken d (Some done)) n ≡ Some (at_stage (Queued ended.result) ended.op) =
    ap (λ (ys : List (Option Operation)). get_or ys n None) put
    ∙ get_or-set_same xs n (Some (at_stage (Queued ended.result) ended.op)) None l in
    let others : (m : ℕ) → m ≢ n → held_at (with_taken d (Some done)) m ≡ held_at d m =
    λ m differ. ap (λ (ys : List (Option Operation)). get_or ys m None) put
    ∙ get_or-set_other xs n m (Some (at_stage (Queued ended.result) ended.op)) None differ in
    rw taken
    (record {
      group = ended;
      taken = refl;
      held = held;
      puts_by = here;
      others = others;
      out = λ m. by_test (eqb m n)
          (λ t. let same = eqb-true m n t in
          subst (λ (k : ℕ). is_out (with_taken d (Some done)) k ≡ is_out d k) (sym same)
          (ap is_some here ∙ sym (ap is_some held)))
          (λ f. ap is_some (others m (eqb-false m n f)));
    })

-- as many tickets are out as were
tickets-same : (d : DeskState) (n : ℕ) (result : Finished) (op : Operation) → held_at d n ≡ Some op
    → count_by is_some (with_result d.out n result).operations ≡ tickets_out d
tickets-same d n result op held =
    let xs = d.out.operations in
    let l = some-within xs n op held in
    let put : (with_result d.out n result).operations ≡ set xs n (Some (at_stage (Queued result) op)) =
    ap (λ (slot : Option Operation). set xs n (option_map (at_stage (Queued result)) slot)) held in
    let counts = rw held at (count_by-set is_some xs n (Some (at_stage (Queued result) op)) None l) in
    rw put (omega (arith, counts))

pub settling-next : (d d' : DeskState) (n : ℕ) (rest : List ℕ) → IsSettling d → IsNextTaken d d' n rest → IsSettling d'
settling-next d d' n rest settling next =
    let g = d.group in
    let op = next.group.op in
    let result = next.group.result in
    let left = next.group.left in
    let few = settling.few_out in
    let few_ops = settling.few_ops in
    let limit : d'.out.limit ≡ d.out.limit = ap (λ (x : DeskState). x.out.limit) next.taken in
    let out : tickets_out d' ≡ tickets_out d =
    ap tickets_out next.taken ∙ tickets-same d n result (at_stage Pending op) next.held in
    let accepts : accepted d'.group.flight ≡ accepted g.flight =
    ap (λ (x : Group). accepted x.flight) left
    ∙ length-set (set g.flight.operations n (Some (at_stage Running op))) n None
    ∙ length-set g.flight.operations n (Some (at_stage Running op)) in
    let counts : length d'.out.operations ≡ length d.out.operations =
    ap (λ (x : DeskState). length x.out.operations) next.taken ∙ length-set d.out.operations n _ in
    let ops : d'.group.op_limit ≡ g.op_limit = ap (λ (x : Group). x.op_limit) left in
    record {
      lawful = subst (λ (x : DeskState). IsLawful x.group) (sym next.taken)
          (lawful-after_finish (after_take g) n (lawful-after_take g settling.lawful));
      same_limit = limit ∙ settling.same_limit ∙ sym (ap (λ (x : Group). x.flight.limit) left);
      few_ops = rw ops few_ops;
      same_count = counts ∙ settling.same_count ∙ sym accepts;
      few_out = omega (arith, out, limit, few);
      agrees = λ m.
          by_test (eqb m n)
          (λ t. let same = eqb-true m n t in
          let here : Agrees (op_at d'.group.flight n) (held_at d' n) = rw (next.group.gone, next.puts_by) refl in
          subst (λ (k : ℕ). Agrees (op_at d'.group.flight k) (held_at d' k)) (sym same) here)
          (λ f. let differ = eqb-false m n f in
          rw (next.group.others m differ, next.others m differ) (settling.agrees m));
    }

-- what each completion keeps that is taken holds after all were
settle-by : (P : DeskState → Type 0)
    → ((d d' : DeskState) (n : ℕ) (rest : List ℕ) → IsSettling d → IsNextTaken d d' n rest → P d → P d')
    → (queue : List ℕ) (d : DeskState) → d.group.flight.queue ≡ queue → IsSettling d → P d
    → P (with_all_taken d queue) × IsDesk (with_all_taken d queue)
settle-by P step [] d is settling holds = (holds, record { settling = settling; empty = is })
settle-by P step (n ∷ rest) d is settling holds =
    let d' = with_taken d (answer_to_take d.group) in
    let next = next-taken d n rest settling is in
    settle-by P step rest d' (ap (λ (g : Group). g.flight.queue) next.group.left)
    (settling-next d d' n rest settling next) (step d d' n rest settling next holds)

pub settled-by : (P : DeskState → Type 0)
    → ((d d' : DeskState) (n : ℕ) (rest : List ℕ) → IsSettling d → IsNextTaken d d' n rest → P d → P d')
    → (d : DeskState) → IsSettling d → P d → P (settled d)
settled-by P step d settling holds = (settle-by P step d.group.flight.queue d refl settling holds).0

pub settled-desk : (d : DeskState) → IsSettling d → IsDesk (settled d)
settled-desk d settling =
    (settle-by (λ x. Unit {0}) (λ x x' n rest s next h. tt) d.group.flight.queue d refl settling tt).1

-- ---- tickets

source-next : (d d' : DeskState) (n : ℕ) (rest : List ℕ) → IsNextTaken d d' n rest → d'.source ≡ d.source
source-next d d' n rest next = ap (λ (x : DeskState). x.source) next.taken

-- the same tickets are out at the same desk
pub record HasSameOut (d d' : DeskState) : Type 0 where
  pub source : d'.source ≡ d.source
  pub out : (n : ℕ) → is_out d' n ≡ is_out d n

pub same-out-settled : (d : DeskState) → IsSettling d → HasSameOut d (settled d)
same-out-settled d settling =
    settled-by (HasSameOut d)
    (λ x x' n rest s next before. record {
      source = source-next x x' n rest next ∙ before.source;
      out = λ m. next.out m ∙ before.out m;
    })
    d settling (record { source = refl; out = λ n. refl })

pub keeps-same : (d d' : DeskState) → HasSameOut d d' → KeepsTickets d d'
keeps-same d d' same =
    record {
      each = λ t ticket. record {
        made_here = ticket.made_here ∙ ap (λ (s : ℕ). s ∷ []) (sym same.source);
        out = same.out t.op.0 ∙ ticket.out;
      };
      lists = λ ts tickets. record {
        made_here = subst (λ (s : ℕ). AreMadeHere s ts) (sym same.source) tickets.made_here;
        each = λ n. rw (same.out n) (tickets.each n);
      };
    }

abbrev pub desk_of : Group → Accepted → ℕ → List ℕ → DeskState
desk_of g out source places = record { group = g; out = out; source = source; places = places }

-- ---- one turn of `settle`

-- one completion less is left to take
pub record IsLeading (d d' : DeskState) : Type 0 where
  pub settling : IsSettling d'
  pub leads : settled d' ≡ settled d
  pub same_out : HasSameOut d d'
  pub fewer : length d'.group.flight.queue < length d.group.flight.queue

leading-next : (d : DeskState) (n : ℕ) (rest : List ℕ) → IsSettling d → d.group.flight.queue ≡ n ∷ rest
    → IsLeading d (with_taken d (answer_to_take d.group))
leading-next d n rest settling is =
    let d' = with_taken d (answer_to_take d.group) in
    let next = next-taken d n rest settling is in
    let queue : d'.group.flight.queue ≡ rest = ap (λ (g : Group). g.flight.queue) next.group.left in
    let shorter : length d'.group.flight.queue ≡ length rest = ap length queue in
    let longer : length d.group.flight.queue ≡ length (n ∷ rest) = ap length is in
    record {
      settling = settling-next d d' n rest settling next;
      leads = ap (λ (ns : List ℕ). with_all_taken d' ns) queue ∙ sym (ap (λ (ns : List ℕ). with_all_taken d ns) is);
      same_out = record { source = source-next d d' n rest next; out = next.out };
      fewer = omega (arith, shorter, longer);
    }

pub leading : (d : DeskState) (done : CompletionFields) → IsSettling d → answer_to_take d.group ≡ Some done
    → IsLeading d (with_taken d (Some done))
leading d done settling some = by_queue d.group.flight.queue refl
  where
    by_queue : (queue : List ℕ) → d.group.flight.queue ≡ queue → IsLeading d (with_taken d (Some done))
    by_queue [] is = absurd (let none = rw is at some in cc)
    by_queue (n ∷ rest) is =
        subst (λ (o : Option CompletionFields). IsLeading d (with_taken d o)) some (leading-next d n rest settling is)

-- where nothing is left to take
pub none-left : (d : DeskState) → IsSettling d → answer_to_take d.group ≡ None
    → (d.group.flight.queue ≡ []) × (after_take d.group ≡ d.group)
none-left d settling none = by_queue d.group.flight.queue refl
  where
    by_queue : (queue : List ℕ) → d.group.flight.queue ≡ queue
        → (d.group.flight.queue ≡ []) × (after_take d.group ≡ d.group)
    by_queue [] is = (is, ap (λ (ns : List ℕ). record d.group { flight = flight_after_take d.group.flight ns }) is)
    by_queue (n ∷ rest) is =
        let next = next-taken d n rest settling is in
        let some = next.group.answer in
        absurd (let never = sym none ∙ some in cc)

-- nothing is left to do where the queue is empty
pub settled-empty : (d : DeskState) → d.group.flight.queue ≡ [] → settled d ≡ d
settled-empty d is = ap (λ (ns : List ℕ). with_all_taken d ns) is

pub turned : (d : DeskState) (g1 g2 : Group) (out : Accepted) (done : CompletionFields) (op : OpNo) (result : Finished)
    → IsSettling d → Some done ≡ answer_to_take d.group → g1 ≡ after_take d.group → op ≡ done.op
    → g2 ≡ after_finish g1 op.0 → result ≡ done.finished → out ≡ with_result d.out op.0 result
    → IsLeading d (desk_of g2 out d.source d.places)
turned d g1 g2 out done op result settling some took number ended finished put =
    let core : g2 ≡ after_finish (after_take d.group) done.op.0 =
    ended ∙ ap (λ (h : Group). after_finish h op.0) took
    ∙ ap (λ (n : OpNo). after_finish (after_take d.group) n.0) number in
    let held : out ≡ with_result d.out done.op.0 done.finished =
    put ∙ ap (λ (n : OpNo). with_result d.out n.0 result) number
    ∙ ap (λ (r : Finished). with_result d.out done.op.0 r) finished in
    rw (core, held) (leading d done settling (sym some))
