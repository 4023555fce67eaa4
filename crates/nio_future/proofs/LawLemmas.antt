-- The law of tickets.
use Rattle.std.proofs.Common.{◌≡◌, ◌⊎◌, inl, inr, ℕ, ◌<◌, ◌≤◌, Bool, true, false, cond, eqb, List, [], ◌∷◌, ◌++◌}
use Rattle.std.proofs.Common.{Option, Some, None, is_some, IsSome, length, get_or, refl, sym, ap, ◌∙◌, subst, arith}
use Rattle.std.proofs.lemmas.Bool.{false≢true, eqb-true, eqb-false}
use Rattle.std.proofs.lemmas.List.{length-set, length_push}
use Rattle.nio_base.specs.declared.numbers.GChan.{GChan}
use Rattle.nio_base.specs.declared.group.OpKind.{OpKind}
use Rattle.nio_base.specs.declared.group.Finished.{Finished}
use Rattle.nio_group.specs.declared.operation.Operation.{Operation}
use Rattle.nio_group.specs.declared.operation.Stage.TheVariants.{Pending}
use Rattle.nio_group.specs.declared.refusal.StartError.{StartError}
use Rattle.nio_group.specs.Completion.{CompletionFields}
use Rattle.nio_group.specs.Flight.{op_at}
use Rattle.nio_group.specs.Group.{Group, IsMade, empty_group, is_terminated}
use Rattle.nio_group.specs.Operations.{Accepted}
use Rattle.nio_group.specs.Run as group
use Rattle.nio_group.specs.Run.{open_channel, bind, start, report, take, finish, close_channel, shutdown, shutdown_now}
use Rattle.nio_group.specs.Run.{taken, once_where}
use Rattle.nio_group.specs.Stages.{is_pending}
use Rattle.nio_group.specs.Steps.{answer_to_take, after_take, after_finish}
use Rattle.nio_group.proofs.ListLemmas.{eqb-same, get_or-push}
use Rattle.nio_group.proofs.PendingLemmas.{stage-pending}
use Rattle.nio_group.proofs.RestLemmas.{lawful-empty, resting}
use Rattle.nio_group.proofs.TableLemmas.{by_test}
use Rattle.nio_group.proofs.TakenLemmas.{takes-once}
use Rattle.nio_future.specs.Desk.{DeskState, empty_desk, held_at, is_out, result_at, result_in}
use Rattle.nio_future.specs.Kept.{IsSettling, IsDesk}
use Rattle.nio_future.specs.Run.{Call, ask, poll, cancel, IsAskOf, IsCallOf, IsRunOf, after, left_by, takes_of}
use Rattle.nio_future.specs.Run.{with_takes, if_allowed, below_ask, below_cancel, below_call, below, GivesResult}
use Rattle.nio_future.specs.Run.{IsTaken, handed, after_ask, ready_in, hands_out, times_handed, TicketsAreRight}
use Rattle.nio_future.specs.Steps.{after_cancel, after_poll, after_start, answer_by, by_group, closed_for}
use Rattle.nio_future.specs.Steps.{kept_if_refused, polled_with, settled, start_refusal, started, ticket_of}
use Rattle.nio_future.specs.Steps.{with_all_taken, with_taken, with_ticket, without_ticket}
use Rattle.nio_future.proofs.FrameLemmas.{is_start}
use Rattle.nio_future.proofs.CallLemmas.{desk-by_group, desk-empty, settling-after}
use Rattle.nio_future.proofs.SettleLemmas.{next-taken, settled-desk, settling-next}
use Rattle.nio_future.proofs.StartLemmas.{free-of, settling-start}
use Rattle.nio_future.proofs.TicketLemmas.{closed-for, desk-without, pending-made, result-ended, waits-while-pending}
use Rattle.nio_future.proofs.TicketLemmas.{out-within, others-without}

-- ---- what calls of a desk make of its group and its tickets

-- the desk goes on to `d'`, and its group makes these calls
pub record StepsTo (d d' : DeskState) (calls : List group.Call) : Type 0 where
  pub run : group.IsRunOf d.group calls
  pub left : group.left_by d.group calls ≡ d'.group
  pub right : (n : ℕ) (result : Finished) → result_at d' n ≡ Some result
      → (result_at d n ≡ Some result) ⊎ IsTaken n result d.group calls
  -- a ticket that isn't out never is again
  pub gone : (n : ℕ) → n < length d.out.operations → held_at d n ≡ None → held_at d' n ≡ None
  pub grows : length d.out.operations ≤ length d'.out.operations

stays-put : (d : DeskState) → StepsTo d d []
stays-put d =
    record { run = tt; left = refl; right = λ n r is. inl is; gone = λ n l none. none; grows = omega arith }

-- ---- settling

none-held : (held : Option Operation) → is_some held ≡ false → held ≡ None
none-held None none = refl
none-held (Some op) none = absurd (false≢true (sym none))

taken-then : (n : ℕ) (r : Finished) (g g' : Group) (k : ℕ) (calls : List group.Call)
    → g' ≡ after_finish (after_take g) k → IsTaken n r g' calls
    → IsTaken n r g (take ∷ finish (record { 0 = k }) ∷ calls)
taken-then n r g g' k calls is there = inr (inr (subst (λ (h : Group). IsTaken n r h calls) is there))

settles-steps : (queue : List ℕ) (d : DeskState) → d.group.flight.queue ≡ queue → IsSettling d
    → StepsTo d (with_all_taken d queue) (takes_of queue)
settles-steps [] d is settling = stays-put d
settles-steps (k ∷ rest) d is settling =
    let d' = with_taken d (answer_to_take d.group) in
    let next = next-taken d k rest settling is in
    let later = settles-steps rest d' (ap (λ (g : Group). g.flight.queue) next.group.left)
    (settling-next d d' k rest settling next) in
    let group_is : d'.group ≡ after_finish (after_take d.group) k = ap (λ (x : DeskState). x.group) next.taken in
    let longer = later.grows in
    let same : length d'.out.operations ≡ length d.out.operations =
    ap (λ (x : DeskState). length x.out.operations) next.taken ∙ length-set d.out.operations k _ in
    record {
      run = (tt, (tt, subst (λ (g : Group). group.IsRunOf g (takes_of rest)) group_is later.run));
      left = ap (λ (g : Group). group.left_by g (takes_of rest)) (sym group_is) ∙ later.left;
      right = λ n r there.
          elim (later.right n r there) [
            | inr took ↦ inr (taken-then n r d.group d'.group k (takes_of rest) group_is took)
            | inl before ↦
                by_test (eqb n k)
                (λ t.
                let same_n = eqb-true n k t in
                let holds : result_at d' k ≡ Some next.group.result = ap result_in next.puts_by in
                let both : Some next.group.result ≡ Some r =
                sym holds ∙ ap (λ (m : ℕ). result_at d' m) (sym same_n) ∙ before in
                let result : next.group.result ≡ r = cc in
                let gives : GivesResult n r (taken (answer_to_take d.group)) =
                subst (λ (o : Option CompletionFields). GivesResult n r (taken o)) (sym next.group.answer)
                (sym same_n, result) in
                inr (inl gives))
                (λ f. inl (sym (ap result_in (next.others n (eqb-false n k f))) ∙ before))
          ];
      gone = λ n l none.
          later.gone n (omega (arith, same, l))
          (none-held (held_at d' n) (next.out n ∙ ap is_some none));
      grows = omega (arith, same, longer);
    }

-- a call of the group, and then its completions
calls-steps : (d : DeskState) (call : group.Call) (out : Accepted) → group.IsCallOf d.group call
    → IsSettling (record d { group = group.after d.group call; out = out })
    → ((n : ℕ) (r : Finished) → result_in (get_or out.operations n None) ≡ Some r → result_at d n ≡ Some r)
    → ((n : ℕ) → n < length d.out.operations → held_at d n ≡ None → get_or out.operations n None ≡ None)
    → length d.out.operations ≤ length out.operations
    → StepsTo d (settled (record d { group = group.after d.group call; out = out })) (with_takes d.group call)
calls-steps d call out made settling before none longer =
    let mid = record d { group = group.after d.group call; out = out } in
    let later = settles-steps mid.group.flight.queue mid refl settling in
    let more = later.grows in
    record {
      run = (made, later.run);
      left = later.left;
      right = λ n r there.
          elim (later.right n r there) [
            | inl was ↦ inl (before n r was)
            | inr took ↦ inr (inr took)
          ];
      gone = λ n l is. later.gone n (omega (arith, l, longer)) (none n l is);
      grows = omega (arith, longer, more);
    }

asks-steps : (d : DeskState) (call : group.Call) → IsDesk d → group.IsCallOf d.group call → is_start call ≡ false
    → StepsTo d (by_group d call) (with_takes d.group call)
asks-steps d call desk made other =
    calls-steps d call d.out made (settling-after d call desk made other) (λ n r is. is) (λ n l is. is) (omega arith)

-- ---- `start`

starts-steps : (d : DeskState) (chan : GChan) (kind : OpKind) (len : ℕ) → IsDesk d → IsMade d.group chan
    → start_refusal d chan kind ≡ None
    → StepsTo d (started d chan kind len) (with_takes d.group (start chan kind len))
starts-steps d chan kind len desk made none =
    let free = free-of d d chan kind desk refl none in
    let op : Operation = record { chan = chan; kind = kind; len = len; stage = Pending } in
    let settling = settling-start d chan kind len _
    (with_ticket d.out chan kind len) desk made free.0 free.1 refl refl in
    let at : (n : ℕ) → get_or (d.out.operations ++ Some op ∷ []) n None
    ≡ cond (eqb n (length d.out.operations)) (Some op) (held_at d n) =
    λ n. get_or-push d.out.operations (Some op) None n in
    calls-steps d (start chan kind len) (with_ticket d.out chan kind len) made settling
    (λ n r is.
    by_test (eqb n (length d.out.operations))
    (λ t.
    let here : get_or (d.out.operations ++ Some op ∷ []) n None ≡ Some op =
    at n ∙ ap (λ (b : Bool). cond b (Some op) (held_at d n)) t in
    let never = sym (ap result_in here) ∙ is in absurd (let no_result : ⊥ = cc in no_result))
    (λ f.
    let here : get_or (d.out.operations ++ Some op ∷ []) n None ≡ held_at d n =
    at n ∙ ap (λ (b : Bool). cond b (Some op) (held_at d n)) f in
    sym (ap result_in here) ∙ is))
    (λ n l is.
    by_test (eqb n (length d.out.operations))
    (λ t. let same = eqb-true n (length d.out.operations) t in absurd (omega (arith, same, l)))
    (λ f. at n ∙ ap (λ (b : Bool). cond b (Some op) (held_at d n)) f ∙ is))
    (omega (arith, length_push d.out.operations (Some op)))

-- ---- each call

-- the desk after a call, and how it got there
record Follows (d d' : DeskState) (calls : List group.Call) : Type 0 where
  pub desk : IsDesk d'
  pub steps : StepsTo d d' calls

asks : (d : DeskState) (call : group.Call) → IsDesk d → group.IsCallOf d.group call → is_start call ≡ false
    → Follows d (by_group d call) (with_takes d.group call)
asks d call desk made other =
    record { desk = desk-by_group d call desk made other; steps = asks-steps d call desk made other }

rests : (d : DeskState) → IsDesk d → Follows d d []
rests d desk = record { desk = desk; steps = stays-put d }

starts : (d : DeskState) (chan : GChan) (kind : OpKind) (len : ℕ) → IsDesk d → IsMade d.group chan
    → Follows d (after_start d chan kind len)
    (if_allowed (start_refusal d chan kind) (with_takes d.group (start chan kind len)))
starts d chan kind len desk made = by_refusal (start_refusal d chan kind) refl
  where
    by_refusal : (r : Option StartError) → start_refusal d chan kind ≡ r
        → Follows d (kept_if_refused r d (started d chan kind len))
        (if_allowed r (with_takes d.group (start chan kind len)))
    by_refusal (Some e) is = rests d desk
    by_refusal None is =
        let free = free-of d d chan kind desk refl is in
        let settling = settling-start d chan kind len _ (with_ticket d.out chan kind len) desk made free.0 free.1
        refl refl in
        record { desk = settled-desk _ settling; steps = starts-steps d chan kind len desk made is }

follows-ask : (d : DeskState) (call : group.Call) → IsDesk d → IsAskOf d.group call
    → Follows d (after_ask d call) (below_ask d call)
follows-ask d (open_channel kind) desk made = asks d (open_channel kind) desk tt refl
follows-ask d (bind chan) desk made = asks d (bind chan) desk made refl
follows-ask d (start chan kind len) desk made = starts d chan kind len desk made
follows-ask d (report op o) desk made = asks d (report op o) desk tt refl
follows-ask d take desk made = absurd made
follows-ask d (finish op) desk made = absurd made
follows-ask d (close_channel chan) desk made = asks d (close_channel chan) desk made refl
follows-ask d shutdown desk made = asks d shutdown desk tt refl
follows-ask d shutdown_now desk made = asks d shutdown_now desk tt refl

-- a ticket comes back
removes : (d d' : DeskState) (calls : List group.Call) (n : ℕ) → n < length d'.out.operations → StepsTo d d' calls
    → StepsTo d (without_ticket d' n) calls
removes d d' calls n within steps =
    let longer = steps.grows in
    let now : (m : ℕ) → held_at (without_ticket d' n) m ≡ cond (eqb m n) None (held_at d' m) =
    λ m. others-without d' n m within in
    record {
      run = steps.run;
      left = steps.left;
      right = λ m r is.
          by_test (eqb m n)
          (λ t.
          let none : held_at (without_ticket d' n) m ≡ None =
          now m ∙ ap (λ (b : Bool). cond b None (held_at d' m)) t in
          let never = sym (ap result_in none) ∙ is in absurd (let no_result : ⊥ = cc in no_result))
          (λ f.
          let same : held_at (without_ticket d' n) m ≡ held_at d' m =
          now m ∙ ap (λ (b : Bool). cond b None (held_at d' m)) f in
          steps.right m r (sym (ap result_in same) ∙ is));
      gone = λ m l none.
          by_test (eqb m n)
          (λ t. now m ∙ ap (λ (b : Bool). cond b None (held_at d' m)) t)
          (λ f. now m ∙ ap (λ (b : Bool). cond b None (held_at d' m)) f ∙ steps.gone m l none);
      grows = omega (arith, longer, length-set d'.out.operations n None);
    }

follows-poll : (d : DeskState) (n : ℕ) → IsDesk d → is_out d n ≡ true → Follows d (after_poll d n) []
follows-poll d n desk out = by_result (result_at d n) refl
  where
    by_result : (o : Option Finished) → result_at d n ≡ o → Follows d (polled_with o d n) []
    by_result None is = rests d desk
    by_result (Some r) is =
        record {
          desk = desk-without d n desk out (result-ended d n r desk is);
          steps = removes d d [] n (out-within d n out) (stays-put d);
        }

closes-steps : (d : DeskState) (n : ℕ) → IsDesk d
    → StepsTo d (closed_for d (op_at d.group.flight n)) (below_cancel d.group (op_at d.group.flight n))
closes-steps d n desk = by_slot (op_at d.group.flight n) refl
  where
    by_slot : (slot : Option Operation) → op_at d.group.flight n ≡ slot
        → StepsTo d (closed_for d slot) (below_cancel d.group slot)
    by_slot None is = stays-put d
    by_slot (Some op) is =
        by_test (is_pending (Some op))
        (λ t. let made = pending-made d n op desk is (stage-pending op.stage t) in
        rw t (asks-steps d (close_channel op.chan) desk made.1 refl))
        (λ f. rw f (stays-put d))

follows-cancel : (d : DeskState) (n : ℕ) → IsDesk d → is_out d n ≡ true
    → Follows d (after_cancel d n) (below_cancel d.group (op_at d.group.flight n))
follows-cancel d n desk out =
    let closed = closed-for d n desk in
    let d' = closed_for d (op_at d.group.flight n) in
    let out' : is_out d' n ≡ true = closed.same_out.out n ∙ out in
    record {
      desk = desk-without d' n closed.desk out' closed.ended;
      steps = removes d d' _ n (out-within d' n out') (closes-steps d n desk);
    }

follows : (d : DeskState) (call : Call) → IsDesk d → IsCallOf d call → Follows d (after d call) (below_call d call)
follows d (ask call) desk made = follows-ask d call desk made
follows d (poll n) desk out = follows-poll d n desk out
follows d (cancel n) desk out = follows-cancel d n desk out

-- ---- runs

run-append : (g : Group) (xs ys : List group.Call) → group.IsRunOf g xs → group.IsRunOf (group.left_by g xs) ys
    → group.IsRunOf g (xs ++ ys)
run-append g [] ys first second = second
run-append g (x ∷ xs) ys first second = (first.0, run-append (group.after g x) xs ys first.1 second)

left-append : (g : Group) (xs ys : List group.Call)
    → group.left_by g (xs ++ ys) ≡ group.left_by (group.left_by g xs) ys
left-append g [] ys = refl
left-append g (x ∷ xs) ys = left-append (group.after g x) xs ys

taken-first : (n : ℕ) (r : Finished) (g : Group) (xs ys : List group.Call) → IsTaken n r g xs → IsTaken n r g (xs ++ ys)
taken-first n r g [] ys there = absurd there
taken-first n r g (x ∷ xs) ys (inl here) = inl here
taken-first n r g (x ∷ xs) ys (inr there) = inr (taken-first n r (group.after g x) xs ys there)

taken-second : (n : ℕ) (r : Finished) (g : Group) (xs ys : List group.Call) → IsTaken n r (group.left_by g xs) ys
    → IsTaken n r g (xs ++ ys)
taken-second n r g [] ys there = there
taken-second n r g (x ∷ xs) ys there = inr (taken-second n r (group.after g x) xs ys there)

steps-append : (a b c : DeskState) (xs ys : List group.Call) → StepsTo a b xs → StepsTo b c ys → StepsTo a c (xs ++ ys)
steps-append a b c xs ys first second =
    let grows = first.grows in
    let grows' = second.grows in
    record {
      run = run-append a.group xs ys first.run
          (subst (λ (g : Group). group.IsRunOf g ys) (sym first.left) second.run);
      left = left-append a.group xs ys ∙ ap (λ (g : Group). group.left_by g ys) first.left ∙ second.left;
      right = λ n r is.
          elim (second.right n r is) [
            | inr took ↦ inr (taken-second n r a.group xs ys
                (subst (λ (g : Group). IsTaken n r g ys) (sym first.left) took))
            | inl before ↦
                elim (first.right n r before) [
                  | inl was ↦ inl was
                  | inr took ↦ inr (taken-first n r a.group xs ys took)
                ]
          ];
      gone = λ n l none. second.gone n (omega (arith, l, grows)) (first.gone n l none);
      grows = omega (arith, grows, grows');
    }

runs : (d : DeskState) (calls : List Call) → IsDesk d → IsRunOf d calls → Follows d (left_by d calls) (below d calls)
runs d [] desk run = rests d desk
runs d (call ∷ calls) desk run =
    let here = follows d call desk run.0 in
    let later = runs (after d call) calls here.desk run.1 in
    record {
      desk = later.desk;
      steps = steps-append d (after d call) (left_by (after d call) calls) (below_call d call)
          (below (after d call) calls) here.steps later.steps;
    }

-- ---- how often a ticket is handed a result

handed-is : (d : DeskState) (n : ℕ) → handed d n ≡ result_at d n
handed-is d n = by_result (result_at d n)
  where
    by_result : (o : Option Finished) → ready_in (answer_by o (ticket_of d n)) ≡ o
    by_result None = refl
    by_result (Some r) = refl

-- what is handed out leaves the ticket out no more
handed-gone : (n m : ℕ) (d : DeskState) → IsDesk d → is_out d m ≡ true → eqb m n ≡ true → is_some (handed d m) ≡ true
    → held_at (after_poll d m) n ≡ None
handed-gone n m d desk out same some = by_result (result_at d m) (sym (handed-is d m))
  where
    by_result : (o : Option Finished) → o ≡ handed d m → held_at (polled_with o d m) n ≡ None
    by_result None is = absurd (false≢true (ap is_some is ∙ some))
    by_result (Some r) is =
        let at : eqb n m ≡ true = subst (λ (k : ℕ). eqb n k ≡ true) (sym (eqb-true m n same)) (eqb-same n) in
        others-without d m n (out-within d m out) ∙ ap (λ (b : Bool). cond b None (held_at d n)) at

none-handed : (n : ℕ) (d : DeskState) (call : Call) → IsCallOf d call → held_at d n ≡ None → hands_out n d call ≡ 0
none-handed n d (ask call) made none = refl
none-handed n d (cancel m) made none = refl
none-handed n d (poll m) out none =
    by_test (eqb m n)
    (λ t. let never : is_out d m ≡ false = ap (λ (k : ℕ). is_out d k) (eqb-true m n t) ∙ ap is_some none in
    absurd (false≢true (sym never ∙ out)))
    (λ f. ap (λ (b : Bool). once_where (cond b (is_some (handed d m)) false)) f)

never-again : (n : ℕ) (d : DeskState) (calls : List Call) → IsDesk d → IsRunOf d calls → n < length d.out.operations
    → held_at d n ≡ None → times_handed n d calls ≡ 0
never-again n d [] desk run within none = refl
never-again n d (call ∷ calls) desk run within none =
    let here = follows d call desk run.0 in
    let longer = here.steps.grows in
    let later = never-again n (after d call) calls here.desk run.1 (omega (arith, within, longer))
    (here.steps.gone n within none) in
    omega (arith, none-handed n d call run.0 none, later)

both-parts : (a b : Bool) → cond a b false ≡ true → (a ≡ true) × (b ≡ true)
both-parts true b h = (refl, h)
both-parts false b h = absurd (false≢true h)

once-call : (n : ℕ) (d : DeskState) (call : Call) (calls : List Call) → IsDesk d → IsRunOf d (call ∷ calls)
    → times_handed n (after d call) calls ≤ 1 → times_handed n d (call ∷ calls) ≤ 1
once-call n d call calls desk run rest = by_call call refl
  where
    here : Follows d (after d call) (below_call d call)
    here = follows d call desk run.0

    none : hands_out n d call ≡ 0 → times_handed n d (call ∷ calls) ≤ 1
    none not = omega (arith, not, rest)

    one : hands_out n d call ≡ 1 → n < length d.out.operations → held_at (after d call) n ≡ None
        → times_handed n d (call ∷ calls) ≤ 1
    one is within gone =
        let longer = here.steps.grows in
        let later = never-again n (after d call) calls here.desk run.1 (omega (arith, within, longer)) gone in
        omega (arith, is, later)

    by_call : (c : Call) → call ≡ c → times_handed n d (call ∷ calls) ≤ 1
    by_call (ask c) is = none (ap (λ (x : Call). hands_out n d x) is)
    by_call (cancel m) is = none (ap (λ (x : Call). hands_out n d x) is)
    by_call (poll m) is =
        let polls : hands_out n d call ≡ once_where (cond (eqb m n) (is_some (handed d m)) false) =
        ap (λ (x : Call). hands_out n d x) is in
        by_test (cond (eqb m n) (is_some (handed d m)) false)
        (λ t.
        let parts = both-parts (eqb m n) (is_some (handed d m)) t in
        let out : is_out d m ≡ true = subst (λ (x : Call). IsCallOf d x) is run.0 in
        let same = eqb-true m n parts.0 in
        let within : m < length d.out.operations = out-within d m out in
        one (polls ∙ ap once_where t) (subst (λ (k : ℕ). k < length d.out.operations) same within)
        (ap (λ (x : Call). held_at (after d x) n) is ∙ handed-gone n m d desk out parts.0 parts.1))
        (λ f. none (polls ∙ ap once_where f))

once : (n : ℕ) (d : DeskState) (calls : List Call) → IsDesk d → IsRunOf d calls → times_handed n d calls ≤ 1
once n d [] desk run = omega arith
once n d (call ∷ calls) desk run =
    once-call n d call calls desk run (once n (after d call) calls (follows d call desk run.0).desk run.1)

-- ---- the law

-- at a terminated desk no ticket waits
some-handed : (d : DeskState) (n : ℕ) → IsDesk d → is_out d n ≡ true → is_terminated d.group ≡ true
    → IsSome (handed d n)
some-handed d n desk out terminated = by_handed (handed d n) refl
  where
    by_handed : (o : Option Finished) → handed d n ≡ o → IsSome o
    by_handed (Some r) is = refl
    by_handed None is =
        let pending = (waits-while-pending d n desk out).0 (sym (handed-is d n) ∙ is) in
        let none = (resting d.group desk.settling.lawful terminated).none n in
        absurd (false≢true (sym (ap is_pending none) ∙ pending))

pub tickets-right : TicketsAreRight
tickets-right limits source places calls fit run =
    let first = empty_desk limits source places in
    let desk = desk-empty limits source places fit in
    let all = runs first calls desk run in
    let d = left_by first calls in
    let ended = all.desk in (
      record {
        run = all.steps.run;
        is_below = all.steps.left;
        right = λ n r is.
            elim (all.steps.right n r (sym (handed-is d n) ∙ is)) [
              | inl before ↦ absurd (let never : ⊥ = cc in never)
              | inr took ↦ took
            ];
        one = λ n. takes-once (empty_group limits) (below first calls) n (lawful-empty limits) all.steps.run;
        waits = λ n out none. (waits-while-pending d n ended out).0 (sym (handed-is d n) ∙ none);
        ends = λ terminated n out. some-handed d n ended out terminated;
      },
      λ n. once n first calls desk run,
    )
