-- A run hands out the completion of an operation with a time limit at most once.
use Rattle.std.proofs.Common.{◌≡◌, ℕ, ◌<◌, Bool, true, false, eqb, List, [], ◌∷◌, Option, Some, None, refl, sym, ap}
use Rattle.std.proofs.Common.{◌∙◌, subst, arith, drop, count_by}
use Rattle.std.specs.Option.{option_map}
use Rattle.std.proofs.lemmas.Bool.{false≢true, eqb-true}
use Rattle.nio_group.specs.Completion.{CompletionFields}
use Rattle.nio_group.specs.Flight.{Flight, op_at, accepted}
use Rattle.nio_group.specs.Run as run
use Rattle.nio_group.specs.Run.{once_where}
use Rattle.nio_group.specs.Stages.{is_pending, is_queued}
use Rattle.nio_group.specs.Steps as group_steps
use Rattle.nio_group.specs.Steps.{answer_to_take}
use Rattle.nio_group.proofs.ListLemmas.{within-where}
use Rattle.nio_group.proofs.QueueLemmas.{QueueHolds, front-queued}
use Rattle.nio_group.proofs.StageLemmas.{IsStepped, stepped-after, next-not_pending, next-not_queued}
use Rattle.nio_group.proofs.TableLemmas.{by_test}
use Rattle.nio_deadline.specs.Run.{Call, open_channel, bind, start_timed, report, expire, take, finish, close_channel}
use Rattle.nio_deadline.specs.Run.{shutdown, shutdown_now, taken, IsCallOf, IsRunOf, after, reply_to, hands_out, times_taken}
use Rattle.nio_deadline.specs.Run.{TakesOnce}
use Rattle.nio_deadline.specs.Steps.{done_of}
use Rattle.nio_deadline.specs.Timed.{Timed, IsLawful}
use Rattle.nio_deadline.proofs.RunLemmas.{by-call, expire-by, lawful-step}
use Rattle.nio_deadline.proofs.TakeLemmas.{front-is, left-queue}
use Rattle.nio_deadline.proofs.TimeoutLemmas.{pending-idle, starts, timeout-stepped}

-- what is known of an operation whose completion was taken
record IsTaken (f : Flight) (n : ℕ) : Type 0 where
  within : n < accepted f
  past : is_pending (op_at f n) ≡ false
  not_queued : is_queued (op_at f n) ≡ false

taken-stepped : (f f' : Flight) (n : ℕ) → IsStepped f f' → IsTaken f n → IsTaken f' n
taken-stepped f f' n step is =
    let next = step.next n is.within in
    let more = step.accepts in
    let within = is.within in
    record {
      within = omega (arith, more, within);
      past = next-not_pending (op_at f n) (op_at f' n) next is.past;
      not_queued = next-not_queued (op_at f n) (op_at f' n) next is.past is.not_queued;
    }

taken-stays : (t : Timed) (call : Call) (n : ℕ) → IsLawful t → IsCallOf t call → IsTaken t.group.flight n
    → IsTaken (after t call).group.flight n
taken-stays t call n lawful made is =
    by-call t (λ c x. IsTaken x.group.flight n)
    (λ c core of keeps none. taken-stepped _ _ n (stepped-after t.group core lawful.group) is)
    (λ chan kind len now limit within. taken-stepped _ _ n (starts t chan kind len now limit lawful).stepped is)
    (λ now.
    let all = expire-by (λ x. IsTaken x.group.flight n) now
    (λ x d ds lawful' first come h. taken-stepped _ _ n (timeout-stepped x d lawful') h) t.deadlines t refl lawful is in
    subst (λ (x : Timed). IsTaken x.group.flight n) all.1 all.3)
    (taken-stepped _ _ n (stepped-after t.group run.take lawful.group) is) call made

-- the operation whose completion a call hands out was queued, and was taken from then on
record IsHanded (t : Timed) (left : Flight) (n : ℕ) : Type 0 where
  queued : is_queued (op_at t.group.flight n) ≡ true
  is_taken : IsTaken left n

not-both : (p q : Bool) → (p ≡ true → q ≡ false) → q ≡ true → p ≡ false
not-both false q apart holds = refl
not-both true q apart holds = absurd (false≢true (sym (apart refl) ∙ holds))

front-taken : (t : Timed) (x : CompletionFields) (n : ℕ) → IsLawful t → answer_to_take t.group ≡ Some x
    → x.op.0 ≡ n → IsHanded t (group_steps.after_take t.group).flight n
front-taken t x n lawful some same =
    let f = t.group.flight in
    let g = group_steps.after_take t.group in
    let front = front-is t.group x lawful.group some in
    let holds : QueueHolds f.operations (x.op.0 ∷ front.rest) = rw front.is at lawful.group.queued_once in
    let queued : is_queued (op_at f n) ≡ true =
    subst (λ (k : ℕ). is_queued (op_at f k) ≡ true) same (front-queued f.operations x.op.0 front.rest holds) in
    let within = within-where is_queued f.operations n None refl queued in
    let step = stepped-after t.group run.take lawful.group in
    let more = step.accepts in
    let past = not-both (is_pending (op_at f n)) (is_queued (op_at f n)) (pending-idle (op_at f n)) queued in
    let queue : g.flight.queue ≡ front.rest =
    left-queue f f.queue refl ∙ ap (λ (ns : List ℕ). drop 1 ns) front.is in
    let none : count_by (λ m. eqb m n) g.flight.queue ≡ 0 =
    ap (λ (ns : List ℕ). count_by (λ m. eqb m n) ns) queue
    ∙ subst (λ (k : ℕ). count_by (λ m. eqb m k) front.rest ≡ 0) same front.once in
    record {
      queued = queued;
      is_taken = record {
        within = omega (arith, within, more);
        past = next-not_pending (op_at f n) (op_at g.flight n) (step.next n within) past;
        not_queued = by_test (is_queued (op_at g.flight n))
            (λ u.
            let one = rw u at ((lawful-step t take lawful tt).group.queued_once n) in
            absurd (let never : ⊥ = omega (arith, none, one) in never))
            (λ f'. f');
      };
    }

handed-answer : (t : Timed) (n : ℕ) (o : Option CompletionFields) → IsLawful t → answer_to_take t.group ≡ o
    → hands_out n (taken (option_map (done_of t) o)) ≡ true → IsHanded t (group_steps.after_take t.group).flight n
handed-answer t n None lawful is handed = absurd (false≢true handed)
handed-answer t n (Some x) lawful is handed = front-taken t x n lawful is (eqb-true x.op.0 n handed)

handed-out : (t : Timed) (call : Call) (n : ℕ) → IsLawful t → hands_out n (reply_to t call) ≡ true
    → IsHanded t (after t call).group.flight n
handed-out t (open_channel kind) n lawful handed = absurd (false≢true handed)
handed-out t (bind chan) n lawful handed = absurd (false≢true handed)
handed-out t (start_timed chan kind len now limit) n lawful handed = absurd (false≢true handed)
handed-out t (report op outcome) n lawful handed = absurd (false≢true handed)
handed-out t (expire now) n lawful handed = absurd (false≢true handed)
handed-out t take n lawful handed = handed-answer t n (answer_to_take t.group) lawful refl handed
handed-out t (finish op) n lawful handed = absurd (false≢true handed)
handed-out t (close_channel chan) n lawful handed = absurd (false≢true handed)
handed-out t shutdown n lawful handed = absurd (false≢true handed)
handed-out t shutdown_now n lawful handed = absurd (false≢true handed)

none-again : (t : Timed) (calls : List Call) (n : ℕ) → IsLawful t → IsRunOf t calls → IsTaken t.group.flight n
    → times_taken n t calls ≡ 0
none-again t [] n lawful run' is = refl
none-again t (call ∷ calls) n lawful run' is =
    let later = none-again (after t call) calls n (lawful-step t call lawful run'.0) run'.1
    (taken-stays t call n lawful run'.0 is) in
    by_test (hands_out n (reply_to t call))
    (λ u. absurd (false≢true (sym is.not_queued ∙ (handed-out t call n lawful u).queued)))
    (λ f. let none : once_where (hands_out n (reply_to t call)) ≡ 0 = ap once_where f in omega (arith, none, later))

pub takes-once : TakesOnce
takes-once t [] n lawful run' = omega arith
takes-once t (call ∷ calls) n lawful run' =
    let next = lawful-step t call lawful run'.0 in
    by_test (hands_out n (reply_to t call))
    (λ u.
    let once : once_where (hands_out n (reply_to t call)) ≡ 1 = ap once_where u in
    let later = none-again (after t call) calls n next run'.1 (handed-out t call n lawful u).is_taken in
    omega (arith, once, later))
    (λ f.
    let none : once_where (hands_out n (reply_to t call)) ≡ 0 = ap once_where f in
    let later = takes-once (after t call) calls n next run'.1 in
    omega (arith, none, later))
