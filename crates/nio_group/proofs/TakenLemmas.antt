-- A run hands out each completion at most once.
use Rattle.std.proofs.Common.{◌≡◌, ℕ, ◌<◌, true, false, eqb, ltb, not, List, [], ◌∷◌, Option, Some, None, get_or, set}
use Rattle.std.proofs.Common.{refl, sym, ap, ◌∙◌, subst, arith, get_or-set_same}
use Rattle.std.specs.Option.{option_map}
use Rattle.std.proofs.lemmas.Bool.{false≢true, eqb-true, not-true, not_from_false, and_from, lt-ltb, ltb-true}
use Rattle.std.proofs.lemmas.Bool.{and_parts}
use Rattle.std.proofs.lemmas.List.{length-set}
use Rattle.nio_base.specs.declared.numbers.GChan.{GChan}
use Rattle.nio_base.specs.declared.group.OpKind.{OpKind}
use Rattle.nio_group.specs.declared.operation.Stage.{Stage}
use Rattle.nio_group.specs.declared.operation.Stage.TheVariants.{Pending, Queued, Running}
use Rattle.nio_group.specs.declared.operation.Operation.{Operation}
use Rattle.nio_group.specs.Stages.{is_pending, is_queued, stage_is_queued, at_stage}
use Rattle.nio_group.specs.Flight.{Flight, op_at, accepted, flight_after_take}
use Rattle.nio_group.specs.Group.{Group, IsLawful}
use Rattle.nio_group.specs.Steps.{completion_of, completion_at, taken_from}
use Rattle.nio_group.specs.Run.{Call, open_channel, bind, start, report, take, finish, close_channel, shutdown}
use Rattle.nio_group.specs.Run.{shutdown_now, taken, reply_to, after, has_completed, was_taken, IsRunOf, once_where}
use Rattle.nio_group.specs.Run.{hands_out, times_taken, TakesOnce}
use Rattle.nio_group.proofs.TableLemmas.{by_test}
use Rattle.nio_group.proofs.RunLemmas.{lawful-after}
use Rattle.nio_group.proofs.StageLemmas.{stepped-after, next-not_pending, next-not_queued}
use Rattle.nio_group.proofs.ListLemmas.{within-where}

-- only a queued operation's completion is handed out
handed-stage : (n m : ℕ) (chan : GChan) (kind : OpKind) (stage : Stage)
    → hands_out n (taken (completion_of m chan kind stage)) ≡ true → (eqb m n ≡ true) × (stage_is_queued stage ≡ true)
handed-stage n m chan kind Pending handed = absurd (false≢true handed)
handed-stage n m chan kind (Queued r) handed = (handed, refl)
handed-stage n m chan kind Running handed = absurd (false≢true handed)

handed-slot : (n m : ℕ) (slot : Option Operation) → hands_out n (taken (completion_at m slot)) ≡ true
    → (m ≡ n) × (is_queued slot ≡ true)
handed-slot n m None handed = absurd (false≢true handed)
handed-slot n m (Some op) handed =
    let both_are = handed-stage n m op.chan op.kind op.stage handed in (eqb-true m n both_are.0, both_are.1)

-- the operation is at the front of the queue
record IsFront (n : ℕ) (f : Flight) (queue : List ℕ) : Type 0 where
  rest : List ℕ
  is : queue ≡ n ∷ rest
  queued : is_queued (op_at f n) ≡ true

handed-front : (n : ℕ) (f : Flight) (queue : List ℕ) → hands_out n (taken (taken_from f queue)) ≡ true
    → IsFront n f queue
handed-front n f [] handed = absurd (false≢true handed)
handed-front n f (m ∷ rest) handed =
    let front = handed-slot n m (op_at f m) handed in
    record {
      rest = rest;
      is = ap (λ (k : ℕ). k ∷ rest) front.0;
      queued = subst (λ (k : ℕ). is_queued (op_at f k) ≡ true) front.0 front.1;
    }

running-not_pending : (slot : Option Operation) → is_pending (option_map (at_stage Running) slot) ≡ false
running-not_pending None = refl
running-not_pending (Some op) = refl

running-not_queued : (slot : Option Operation) → is_queued (option_map (at_stage Running) slot) ≡ false
running-not_queued None = refl
running-not_queued (Some op) = refl

taken-by : (g : Group) (n : ℕ) → n < accepted g.flight → is_pending (op_at g.flight n) ≡ false
    → is_queued (op_at g.flight n) ≡ false → was_taken g n ≡ true
taken-by g n within past not_queued =
    and_from (has_completed g n) (not (is_queued (op_at g.flight n)))
    (and_from (ltb n (accepted g.flight)) (not (is_pending (op_at g.flight n))) (lt-ltb n (accepted g.flight) within)
    (not_from_false (is_pending (op_at g.flight n)) past))
    (not_from_false (is_queued (op_at g.flight n)) not_queued)

-- the operation whose completion a call hands out was queued, and was taken from then on
record IsHanded (g : Group) (call : Call) (n : ℕ) : Type 0 where
  queued : is_queued (op_at g.flight n) ≡ true
  is_taken : was_taken (after g call) n ≡ true

handed-out : (g : Group) (call : Call) (n : ℕ) → hands_out n (reply_to g call) ≡ true → IsHanded g call n
handed-out g (open_channel kind) n handed = absurd (false≢true handed)
handed-out g (bind chan) n handed = absurd (false≢true handed)
handed-out g (start chan kind len) n handed = absurd (false≢true handed)
handed-out g (report op o) n handed = absurd (false≢true handed)
handed-out g take n handed =
    let f = g.flight in
    let front = handed-front n f f.queue handed in
    let running = option_map (at_stage Running) (op_at f n) in
    let within = within-where is_queued f.operations n None refl front.queued in
    let put : get_or (set f.operations n running) n None
    ≡ running = get_or-set_same f.operations n running None within in
    let left : Group = record g { flight = flight_after_take f (n ∷ front.rest) } in
    let is_taken : was_taken left n ≡ true =
    taken-by left n (omega (arith, within, length-set f.operations n running))
    (ap is_pending put ∙ running-not_pending (op_at f n))
    (ap is_queued put ∙ running-not_queued (op_at f n)) in
    record {
      queued = front.queued;
      is_taken = subst (λ (queue : List ℕ). was_taken (record g { flight = flight_after_take f queue }) n ≡ true)
          (sym front.is) is_taken;
    }
handed-out g (finish op) n handed = absurd (false≢true handed)
handed-out g (close_channel chan) n handed = absurd (false≢true handed)
handed-out g shutdown n handed = absurd (false≢true handed)
handed-out g shutdown_now n handed = absurd (false≢true handed)

-- what is known of an operation that was taken
record IsTaken (g : Group) (n : ℕ) : Type 0 where
  within : n < accepted g.flight
  past : is_pending (op_at g.flight n) ≡ false
  not_queued : is_queued (op_at g.flight n) ≡ false

taken-parts : (g : Group) (n : ℕ) → was_taken g n ≡ true → IsTaken g n
taken-parts g n is =
    let completed = (and_parts (has_completed g n) (not (is_queued (op_at g.flight n))) is).0 in
    record {
      within = ltb-true n (accepted g.flight)
          (and_parts (ltb n (accepted g.flight)) (not (is_pending (op_at g.flight n))) completed).0;
      past = not-true (is_pending (op_at g.flight n))
          (and_parts (ltb n (accepted g.flight)) (not (is_pending (op_at g.flight n))) completed).1;
      not_queued = not-true (is_queued (op_at g.flight n))
          (and_parts (has_completed g n) (not (is_queued (op_at g.flight n))) is).1;
    }

taken-stays : (g : Group) (call : Call) (n : ℕ) → IsLawful g → was_taken g n ≡ true → was_taken (after g call) n ≡ true
taken-stays g call n lawful is =
    let parts = taken-parts g n is in
    let step = stepped-after g call lawful in
    let next = step.next n parts.within in
    let more = step.accepts in
    taken-by (after g call) n (omega (arith, more, parts.within))
    (next-not_pending (op_at g.flight n) (op_at (after g call).flight n) next parts.past)
    (next-not_queued (op_at g.flight n) (op_at (after g call).flight n) next parts.past parts.not_queued)

none-again : (g : Group) (calls : List Call) (n : ℕ) → IsLawful g → IsRunOf g calls → was_taken g n ≡ true
    → times_taken n g calls ≡ 0
none-again g [] n lawful run is = refl
none-again g (call ∷ calls) n lawful run is =
    let later = none-again (after g call) calls n (lawful-after g call lawful run.0) run.1
    (taken-stays g call n lawful is) in
    by_test (hands_out n (reply_to g call))
    (λ t. absurd (false≢true (sym (taken-parts g n is).not_queued ∙ (handed-out g call n t).queued)))
    (λ f. let none : once_where (hands_out n (reply_to g call)) ≡ 0 = ap once_where f in omega (arith, none, later))

pub takes-once : TakesOnce
takes-once g [] n lawful run = omega arith
takes-once g (call ∷ calls) n lawful run =
    let kept = lawful-after g call lawful run.0 in
    by_test (hands_out n (reply_to g call))
    (λ t. let once : once_where (hands_out n (reply_to g call)) ≡ 1 = ap once_where t in
    let later = none-again (after g call) calls n kept run.1 (handed-out g call n t).is_taken in
    omega (arith, once, later))
    (λ f. let none : once_where (hands_out n (reply_to g call)) ≡ 0 = ap once_where f in
    let later = takes-once (after g call) calls n kept run.1 in
    omega (arith, none, later))
