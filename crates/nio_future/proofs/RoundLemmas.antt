use Rattle.std.proofs.lemmas.Bool.{false≢true, eqb-true, eqb-false, ne_eqb}
-- A round of polls: what holds after some of the tickets were polled.
use Rattle.std.proofs.Common.{◌≡◌, ℕ, ◌+◌, ◌≤◌, Bool, true, false, cond, eqb, List, [], ◌∷◌, ◌++◌, Option, Some, None}
use Rattle.std.proofs.Common.{is_some, All, length, reverse, refl, sym, ap, ◌∙◌, subst, arith}
use Rattle.std.proofs.lemmas.List.{length_push, reverse-append}
use Rattle.std.proofs.lemmas.List.Elements.{All-push}
use Rattle.nio_base.specs.declared.numbers.OpNo.{OpNo}
use Rattle.nio_base.specs.declared.group.Finished.{Finished}
use Rattle.nio_group.specs.declared.operation.Operation.{Operation}
use Rattle.nio_group.specs.declared.operation.Stage.{Stage}
use Rattle.nio_group.specs.declared.operation.Stage.TheVariants.{Pending, Queued, Running}
use Rattle.nio_group.specs.Flight.{op_at}
use Rattle.nio_group.specs.Group.{Group}
use Rattle.nio_group.specs.Stages.{is_pending}
use Rattle.nio_group.proofs.ListLemmas.{count_by-push, eqb-same}
use Rattle.nio_group.proofs.TableLemmas.{by_test}
use Rattle.nio_future.specs.Desk.{DeskState, held_at, is_out, result_in, stage_result}
use Rattle.nio_future.specs.Round.{Polling, after_each, results_of, with_ready, with_still, IsHeldAs}
use Rattle.nio_future.specs.Steps.{after_poll, answer_by, answer_to_poll, polled_with, without_ticket, IsNotYet}
use Rattle.nio_future.specs.Ticket.{Ticket}
use Rattle.nio_future.specs.Tickets.{AreMadeHere, AreTicketsOf, IsTicketOf, tickets_of}
use Rattle.nio_future.specs.declared.ticket.Polled.{Polled}
use Rattle.nio_future.specs.declared.round.TicketResult.{TicketResult}
use Rattle.nio_future.specs.declared.ticket.Polled.TheVariants.{NotYet}
use Rattle.nio_future.proofs.TicketLemmas.{bit, others-without, out-within}

-- of all the tickets at the desk `first` some are left; the desk is `d` now
pub record IsPolling (first d : DeskState) (all left still : List Ticket)
    (ready : List TicketResult) : Type 0 where
  pub source : d.source ≡ first.source
  pub places : d.places ≡ first.places
  pub group : d.group ≡ first.group
  pub made_left : AreMadeHere first.source left
  pub made_still : AreMadeHere first.source still
  pub out : (n : ℕ) → tickets_of n left + tickets_of n still ≤ bit (is_out d n)
  pub pending : All (λ (t : Ticket). is_pending (op_at first.group.flight t.op.0) ≡ true) still
  pub results : All (λ (r : TicketResult). IsHeldAs (held_at first r.op.0) r) ready
  pub each : (n : ℕ) → tickets_of n left + tickets_of n still + results_of n ready ≡ tickets_of n all
  pub count : length left + length still + length ready ≡ length all
  pub held : (n : ℕ) → held_at d n ≡ cond (eqb (results_of n ready) 0) (held_at first n) None

made-init : (source : ℕ) (ts : List Ticket) (t : Ticket) → AreMadeHere source (ts ++ t ∷ []) → AreMadeHere source ts
made-init source [] t made = tt
made-init source (u ∷ ts) t made = (made.0, made-init source ts t made.1)

made-last : (source : ℕ) (ts : List Ticket) (t : Ticket) → AreMadeHere source (ts ++ t ∷ [])
    → t.desk ≡ source ∷ []
made-last source [] t made = made.0
made-last source (u ∷ ts) t made = made-last source ts t made.1

made-push : (source : ℕ) (ts : List Ticket) (t : Ticket) → AreMadeHere source ts → t.desk ≡ source ∷ []
    → AreMadeHere source (ts ++ t ∷ [])
made-push source [] t made here = (here, tt)
made-push source (u ∷ ts) t made here = (made.0, made-push source ts t made.1 here)

tickets-push : (n : ℕ) (ts : List Ticket) (t : Ticket)
    → tickets_of n (ts ++ t ∷ []) ≡ tickets_of n ts + bit (eqb t.op.0 n)
tickets-push n ts t = count_by-push (λ (u : Ticket). eqb u.op.0 n) ts t

results-push : (n : ℕ) (rs : List TicketResult) (r : TicketResult)
    → results_of n (rs ++ r ∷ []) ≡ results_of n rs + bit (eqb r.op.0 n)
results-push n rs r = count_by-push (λ (x : TicketResult). eqb x.op.0 n) rs r

some-bit : (b : Bool) → 1 ≤ bit b → b ≡ true
some-bit true l = refl
some-bit false l = absurd (omega (arith, l))

-- the ticket that is polled next is out
pub next-ticket : (first d : DeskState) (all init still : List Ticket) (ready : List TicketResult) (t : Ticket)
    → IsPolling first d all (init ++ t ∷ []) still ready → IsTicketOf d t
next-ticket first d all init still ready t polling =
    let n = t.op.0 in
    let few = polling.out n in
    let counts = tickets-push n init t in
    let one : bit (eqb n n) ≡ 1 = ap bit (eqb-same n) in
    let named = made-last first.source init t polling.made_left in
    record {
      made_here = named ∙ ap (λ (s : ℕ). s ∷ []) (sym polling.source);
      out = some-bit (is_out d n) (omega (arith, few, counts, one));
    }

comes-back : (first d : DeskState) (all init still : List Ticket) (ready : List TicketResult) (t : Ticket)
    → IsPolling first d all (init ++ t ∷ []) still ready → is_pending (op_at d.group.flight t.op.0) ≡ true
    → IsPolling first d all init (still ++ t ∷ []) ready
comes-back first d all init still ready t polling waits =
    let named = made-last first.source init t polling.made_left in
    let waits_first : is_pending (op_at first.group.flight t.op.0) ≡ true =
    ap (λ (g : Group). is_pending (op_at g.flight t.op.0)) (sym polling.group) ∙ waits in
    let total = polling.count in
    record {
      source = polling.source;
      places = polling.places;
      group = polling.group;
      made_left = made-init first.source init t polling.made_left;
      made_still = made-push first.source still t polling.made_still named;
      out = λ n.
          let few = polling.out n in
          omega (arith, few, tickets-push n init t, tickets-push n still t);
      pending = All-push (λ (u : Ticket). is_pending (op_at first.group.flight u.op.0) ≡ true) still t polling.pending
          waits_first;
      results = polling.results;
      each = λ n.
          let sums = polling.each n in
          omega (arith, sums, tickets-push n init t, tickets-push n still t);
      count = omega (arith, total, length_push init t, length_push still t);
      held = polling.held;
    }

-- what the desk holds now for a ticket, it held from the first
held-first : (first d : DeskState) (n k : ℕ) (op : Operation)
    → held_at d n ≡ cond (eqb k 0) (held_at first n) None → held_at d n ≡ Some op → held_at first n ≡ Some op
held-first first d n k op held is =
    by_test (eqb k 0)
    (λ t. sym (held ∙ ap (λ (b : Bool). cond b (held_at first n) None) t) ∙ is)
    (λ f. let none = held ∙ ap (λ (b : Bool). cond b (held_at first n) None) f in
    let never = sym none ∙ is in
    absurd (let no_result : ⊥ = cc in no_result))

-- what a round gives of this operation with this result
abbrev result-of : OpNo → Operation → Finished → TicketResult
result-of op held result = record { op = op; chan = held.chan; kind = held.kind; finished = result }

not-zero : (k m : ℕ) → m ≡ k + 1 → eqb m 0 ≡ false
not-zero k m is = ne_eqb m 0 (λ e. absurd (omega (arith, is, e)))

gives-result : (first d : DeskState) (all init still : List Ticket) (ready : List TicketResult) (t : Ticket)
    (op : Operation) (r : Finished) → IsPolling first d all (init ++ t ∷ []) still ready → held_at d t.op.0 ≡ Some op
    → op.stage ≡ Queued r
    → IsPolling first (without_ticket d t.op.0) all init still (ready ++ result-of t.op op r ∷ [])
gives-result first d all init still ready t op r polling is stage =
    let n = t.op.0 in
    let x = result-of t.op op r in
    let out = (next-ticket first d all init still ready t polling).out in
    let within = out-within d n out in
    let total = polling.count in
    let now : (m : ℕ) → held_at (without_ticket d n) m ≡ cond (eqb m n) None (held_at d m) =
    λ m. others-without d n m within in
    record {
      source = polling.source;
      places = polling.places;
      group = polling.group;
      made_left = made-init first.source init t polling.made_left;
      made_still = polling.made_still;
      out = λ m.
          let few = polling.out m in
          let counts = tickets-push m init t in
          by_test (eqb m n)
          (λ b.
          let same = eqb-true m n b in
          let one : bit (eqb n m) ≡ 1 = ap (λ (k : ℕ). bit (eqb n k)) same ∙ ap bit (eqb-same n) in
          let was : bit (is_out d m) ≡ 1 = ap (λ (k : ℕ). bit (is_out d k)) same ∙ ap bit out in
          omega (arith, few, counts, one, was))
          (λ f.
          let kept : bit (is_out (without_ticket d n) m) ≡ bit (is_out d m) =
          ap (λ (o : Option Operation). bit (is_some o))
          (now m ∙ ap (λ (b : Bool). cond b None (held_at d m)) f) in
          omega (arith, few, counts, kept));
      pending = polling.pending;
      results = All-push (λ (y : TicketResult). IsHeldAs (held_at first y.op.0) y) ready x polling.results
          (subst (λ (o : Option Operation). IsHeldAs o x)
          (sym (held-first first d n (results_of n ready) op (polling.held n) is)) (refl, refl, stage));
      each = λ m.
          let sums = polling.each m in
          omega (arith, sums, tickets-push m init t, results-push m ready x);
      count = omega (arith, total, length_push init t, length_push ready x);
      held = λ m.
          let more = results-push m ready x in
          by_test (eqb m n)
          (λ b.
          let same = eqb-true m n b in
          let one : bit (eqb n m) ≡ 1 = ap (λ (k : ℕ). bit (eqb n k)) same ∙ ap bit (eqb-same n) in
          let some : eqb (results_of m (ready ++ x ∷ [])) 0 ≡ false =
          not-zero (results_of m ready) (results_of m (ready ++ x ∷ [])) (omega (arith, more, one)) in
          now m ∙ ap (λ (b' : Bool). cond b' None (held_at d m)) b
          ∙ sym (ap (λ (b' : Bool). cond b' (held_at first m) None) some))
          (λ f.
          let other : bit (eqb n m) ≡ 0 = ap bit (ne_eqb n m (λ e. eqb-false m n f (sym e))) in
          let same : results_of m (ready ++ x ∷ []) ≡ results_of m ready = omega (arith, more, other) in
          now m ∙ ap (λ (b' : Bool). cond b' None (held_at d m)) f ∙ polling.held m
          ∙ ap (λ (k : ℕ). cond (eqb k 0) (held_at first m) None) (sym same));
    }

pub polls-one : (first d d' : DeskState) (all init still : List Ticket) (ready : List TicketResult) (t : Ticket)
    (held : Option Operation) (polled : Polled) → IsPolling first d all (init ++ t ∷ []) still ready
    → held ≡ held_at d t.op.0 → polled ≡ answer_to_poll d t → d' ≡ after_poll d t.op.0
    → (IsNotYet polled → is_pending (op_at d.group.flight t.op.0) ≡ true)
    → IsPolling first d' all init (with_still polled still) (with_ready t.op held polled ready)
polls-one first d d' all init still ready t held polled polling holds answers leaves waits =
    rw (answers, leaves, holds) (by_held (held_at d t.op.0) refl)
  where
    back : (op : Operation) → held_at d t.op.0 ≡ Some op → stage_result op.stage ≡ None
        → IsPolling first d all init (still ++ t ∷ []) ready
    back op is none =
        let not : polled ≡ NotYet t =
        answers ∙ ap (λ (o : Option Operation). answer_by (result_in o) t) is
        ∙ ap (λ (r : Option Finished). answer_by r t) none in
        comes-back first d all init still ready t polling
        (waits (subst (λ (p : Polled). IsNotYet p) (sym not) tt))

    by_stage : (op : Operation) → held_at d t.op.0 ≡ Some op → (s : Stage) → op.stage ≡ s
        → IsPolling first (polled_with (stage_result s) d t.op.0) all init
        (with_still (answer_by (stage_result s) t) still)
        (with_ready t.op (Some op) (answer_by (stage_result s) t) ready)
    by_stage op is Pending stage = back op is (ap stage_result stage)
    by_stage op is (Queued r) stage = gives-result first d all init still ready t op r polling is stage
    by_stage op is Running stage = back op is (ap stage_result stage)

    by_held : (o : Option Operation) → held_at d t.op.0 ≡ o
        → IsPolling first (polled_with (result_in o) d t.op.0) all init
        (with_still (answer_by (result_in o) t) still) (with_ready t.op o (answer_by (result_in o) t) ready)
    by_held None is =
        absurd (false≢true (ap is_some (sym is) ∙ (next-ticket first d all init still ready t polling).out))
    by_held (Some op) is = by_stage op is op.stage refl

-- ---- the order

pub reverse-push : {X : Type 0} (xs : List X) (x : X) → reverse (xs ++ x ∷ []) ≡ x ∷ reverse xs
reverse-push xs x = reverse-append xs (x ∷ [])

-- the last ticket is polled, and then the others
pub in-order : (p : Polling) (d' : DeskState) (still : List Ticket) (ready : List TicketResult) (all init : List Ticket)
    (t : Ticket) (held : Option Operation) (polled : Polled) → all ≡ init ++ t ∷ [] → held ≡ held_at p.desk t.op.0
    → polled ≡ answer_to_poll p.desk t → d' ≡ after_poll p.desk t.op.0 → still ≡ with_still polled p.still
    → ready ≡ with_ready t.op held polled p.ready
    → after_each (record { desk = d'; still = still; ready = ready }) (reverse init) ≡ after_each p (reverse all)
in-order p d' still ready all init t held polled all_is holds answers leaves still_is ready_is =
    rw (all_is, reverse-push init t, still_is, ready_is, holds, answers, leaves) refl

pub no-items : {X : Type 0} (xs : List X) → length xs ≡ 0 → xs ≡ []
no-items [] none = refl
no-items (x ∷ xs) none = absurd (omega (arith, none))

-- after the last poll
pub record IsPolled (first d : DeskState) (all still : List Ticket) (ready : List TicketResult) : Type 0 where
  pub tickets : AreTicketsOf d still
  pub each : (n : ℕ) → tickets_of n still + results_of n ready ≡ tickets_of n all
  pub count : length still + length ready ≡ length all

pub ends : (first d : DeskState) (all left still : List Ticket) (ready : List TicketResult)
    → IsPolling first d all left still ready → left ≡ [] → IsPolled first d all still ready
ends first d all left still ready polling none =
    let total = polling.count in
    let zero : length left ≡ 0 = ap length none in
    record {
      tickets = record {
        made_here = subst (λ (s : ℕ). AreMadeHere s still) (sym polling.source) polling.made_still;
        each = λ n.
            let few = polling.out n in
            let nothing : tickets_of n left ≡ 0 = ap (tickets_of n) none in
            omega (arith, few, nothing);
      };
      each = λ n.
          let sums = polling.each n in
          let nothing : tickets_of n left ≡ 0 = ap (tickets_of n) none in
          omega (arith, sums, nothing);
      count = omega (arith, total, zero);
    }
