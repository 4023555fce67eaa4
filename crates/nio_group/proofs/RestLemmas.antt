-- A terminated group is at rest, and each operation completes once.
use Rattle.std.proofs.Common.{◌≡◌, ℕ, ◌+◌, ◌<◌, zero, suc, Bool, true, false, ltb, not, ◌&&◌, ◌||◌, List, [], ◌∷◌}
use Rattle.std.proofs.Common.{Option, Some, None, length, refl, sym, ap, ◌∙◌, subst, arith}
use Rattle.std.specs.List.{list_any}
use Rattle.std.proofs.lemmas.Bool.{false≢true, not-true, not_from_false, and_from, lt-ltb, ltb-true, and_parts}
use Rattle.std.proofs.lemmas.List.Folds.{list_any_at, list_all_at}
use Rattle.nio_group.specs.declared.channel.Endpoint.{Endpoint}
use Rattle.nio_group.specs.declared.channel.Endpoint.TheVariants.{Stream, Listener}
use Rattle.nio_group.specs.declared.operation.Stage.{Stage}
use Rattle.nio_group.specs.declared.operation.Stage.TheVariants.{Pending, Queued, Running}
use Rattle.nio_group.specs.declared.operation.Operation.{Operation}
use Rattle.nio_group.specs.declared.limits.GroupLimits.{GroupLimits}
use Rattle.nio_group.specs.Stages.{is_pending, is_queued, is_running}
use Rattle.nio_group.specs.Flight.{Flight, op_at, accepted, flight_after_take}
use Rattle.nio_group.specs.Group.{Group, IsLawful, channel_at, no_channel, is_terminated, all_closed, none_to_handle}
use Rattle.nio_group.specs.Group.{empty_group, new_endpoint, is_open, is_present}
use Rattle.nio_base.specs.declared.numbers.GChan.{GChan}
use Rattle.nio_group.specs.Making.{next_name, with_made}
use Rattle.nio_group.specs.Refusals.{bind_refusal, start_refusal, report_refusal}
use Rattle.nio_group.specs.Steps.{kept_if_refused, started, reported, finish_refusal, after_closing, after_shutdown}
use Rattle.nio_group.specs.Steps.{closed_below}
use Rattle.nio_group.specs.Run.{Call, open_channel, bind, start, report, take, finish, close_channel, shutdown}
use Rattle.nio_group.specs.Run.{shutdown_now, after, has_completed, was_taken, TerminatedStays, IsRunOf, left_by}
use Rattle.nio_group.specs.Run.{completions, once_where, CompletesOnce, TerminatedIsAtRest}
use Rattle.nio_group.proofs.TableLemmas.{by_test}
use Rattle.nio_group.proofs.QueueLemmas.{QueueHolds, front-queued}
use Rattle.nio_group.proofs.FlightLemmas.{some-within}
use Rattle.nio_group.proofs.LawfulLemmas.{open-within, nothing-pending}
use Rattle.nio_group.proofs.StartLemmas.{some_none, open-parts}
use Rattle.nio_group.proofs.RunLemmas.{unless-refused, cond-holds, lawful-after}
use Rattle.std.proofs.lemmas.Option.{none-some}
use Rattle.nio_group.proofs.StageLemmas.{stepped-after, next-not_pending, IsStepped}

-- what is known of a terminated group
pub record IsResting (g : Group) : Type 0 where
  pub shut : g.is_shut ≡ true
  pub closed : (c : ℕ) → (channel_at g c).is_open ≡ false
  pub none : (n : ℕ) → op_at g.flight n ≡ None

none-left : (g : Group) (n : ℕ) → IsLawful g → ((c : ℕ) → (channel_at g c).is_open ≡ false)
    → list_any (λ slot. is_queued slot || is_running slot) g.flight.operations ≡ false → op_at g.flight n ≡ None
none-left g n lawful closed idle = by_slot (op_at g.flight n) refl
  where
    idle_is : (op : Operation) → op_at g.flight n ≡ Some op
        → (is_queued (op_at g.flight n) || is_running (op_at g.flight n)) ≡ true → ⊥
    idle_is op is busy =
        false≢true
        (sym idle
        ∙ list_any_at (λ slot. is_queued slot || is_running slot) g.flight.operations n None
        (some-within g.flight.operations n op is) busy)

    by_stage : (op : Operation) → op_at g.flight n ≡ Some op → (stage : Stage) → op.stage ≡ stage → ⊥
    by_stage op is Pending e =
        let pending : is_pending (op_at g.flight n) ≡ true = rw (is, e) refl in
        false≢true (sym (nothing-pending g lawful closed n) ∙ pending)
    by_stage op is (Queued r) e = idle_is op is (rw (is, e) refl)
    by_stage op is Running e = idle_is op is (rw (is, e) refl)

    by_slot : (slot : Option Operation) → op_at g.flight n ≡ slot → slot ≡ None
    by_slot None is = refl
    by_slot (Some op) is = absurd (by_stage op is op.stage refl)

pub resting : (g : Group) → IsLawful g → is_terminated g ≡ true → IsResting g
resting g lawful terminated =
    let rest = (and_parts g.is_shut (all_closed g && none_to_handle g) terminated).1 in
    let all = (and_parts (all_closed g) (none_to_handle g) rest).0 in
    let idle = not-true (list_any (λ slot. is_queued slot || is_running slot) g.flight.operations)
    (and_parts (all_closed g) (none_to_handle g) rest).1 in
    let closed : (c : ℕ) → (channel_at g c).is_open ≡ false =
    λ c.
    by_test (channel_at g c).is_open
    (λ t.
    let fails : not (channel_at g c).is_open ≡ false = rw t refl in
    absurd (false≢true
    (sym (list_all_at (λ channel. not channel.is_open) g.channels c no_channel (open-within g.channels c t) fails)
    ∙ all)))
    (λ f. f) in
    record {
      shut = (and_parts g.is_shut (all_closed g && none_to_handle g) terminated).0;
      closed = closed;
      none = λ n. none-left g n lawful closed idle;
    }

pub bind-refused : (is_open : Bool) (e : Endpoint) → is_open ≡ false → bind_refusal is_open e ≡ None → ⊥
bind-refused true e closed free = false≢true (sym closed)
bind-refused false (Stream link) closed free = some_none _ free
bind-refused false (Listener bound) closed free = some_none _ free

queue-empty : (f : Flight) → QueueHolds f.operations f.queue → ((n : ℕ) → op_at f n ≡ None) → f.queue ≡ []
queue-empty f holds none = by_queue f.queue refl
  where
    by_queue : (queue : List ℕ) → f.queue ≡ queue → queue ≡ []
    by_queue [] is = refl
    by_queue (n ∷ rest) is =
        let there : QueueHolds f.operations (n ∷ rest) = rw is at holds in
        let queued = front-queued f.operations n rest there in
        let not_there : is_queued (op_at f n) ≡ false = rw (none n) refl in
        absurd (false≢true (sym not_there ∙ queued))

close-rests : (g : Group) (c : ℕ) → (channel_at g c).is_open ≡ false → after_closing g c ≡ g
close-rests g c closed = rw closed refl

open-rests : (g : Group) (chan : GChan) → (channel_at g chan.number).is_open ≡ false → is_open g chan ≡ false
open-rests g chan closed =
    by_test (is_open g chan)
    (λ t. absurd (false≢true (sym closed ∙ (open-parts g chan t).1)))
    (λ f. f)

closings-rest : (c : ℕ) (g : Group) → ((d : ℕ) → (channel_at g d).is_open ≡ false) → closed_below c g ≡ g
closings-rest zero g closed = refl
closings-rest (suc c) g closed =
    ap (λ (h : Group). after_closing h c) (closings-rest c g closed) ∙ close-rests g c (closed c)

-- what a call leaves of a terminated group, where its being shut down stays
after-resting : (P : Group → Type 0) (g : Group) (call : Call) → IsLawful g → IsResting g → is_terminated g ≡ true → P g
    → P (after_shutdown g) → P (after g call)
after-resting P g (open_channel kind) lawful rest terminated same shut =
    cond-holds P g.is_shut g (with_made g (next_name g kind) (new_endpoint kind)) (λ shut. same)
    (λ going. absurd (false≢true (sym going ∙ rest.shut)))
after-resting P g (bind chan) lawful rest terminated same shut =
    unless-refused P (bind_refusal (is_open g chan) (channel_at g chan.number).endpoint) g _ same
    (λ free. absurd
    (bind-refused (is_open g chan) (channel_at g chan.number).endpoint
    (open-rests g chan (rest.closed chan.number)) free))
after-resting P g (start chan kind len) lawful rest terminated same shut =
    unless-refused P (start_refusal g chan kind) g (started g chan kind len) same
    (λ free. absurd (some_none _ (rw terminated at free)))
after-resting P g (report op o) lawful rest terminated same shut =
    subst (λ (slot : Option Operation). P (kept_if_refused (report_refusal slot o) g (reported g op.0 o slot)))
    (sym (rest.none op.0)) same
after-resting P g take lawful rest terminated same shut =
    subst (λ (queue : List ℕ). P (record g { flight = flight_after_take g.flight queue }))
    (sym (queue-empty g.flight lawful.queued_once rest.none)) same
after-resting P g (finish op) lawful rest terminated same shut =
    let idle : is_running (op_at g.flight op.0) ≡ false = rw (rest.none op.0) refl in
    unless-refused P (finish_refusal (is_running (op_at g.flight op.0))) g _ same
    (λ free. absurd (some_none _ (rw idle at free)))
after-resting P g (close_channel chan) lawful rest terminated same shut =
    cond-holds P (is_present g chan) (after_closing g chan.number) g
    (λ t. subst P (sym (close-rests g chan.number (rest.closed chan.number))) same)
    (λ f. same)
after-resting P g shutdown lawful rest terminated same shut = shut
after-resting P g shutdown_now lawful rest terminated same shut =
    subst P (sym (closings-rest (length g.channels) (after_shutdown g) rest.closed)) shut

pub terminated-stays : TerminatedStays
terminated-stays g call lawful made terminated =
    after-resting (λ (h : Group). is_terminated h ≡ true) g call lawful (resting g lawful terminated) terminated
    terminated
    (and_parts g.is_shut (all_closed g && none_to_handle g) terminated).1

flight-rests : (g : Group) (call : Call) → IsLawful g → is_terminated g ≡ true → (after g call).flight ≡ g.flight
flight-rests g call lawful terminated =
    after-resting (λ (h : Group). h.flight ≡ g.flight) g call lawful (resting g lawful terminated) terminated refl refl

and-not : (b : Bool) → (b && not b) ≡ false
and-not true = refl
and-not false = refl

none-completes : (n : ℕ) (g : Group) (calls : List Call) → IsLawful g → is_terminated g ≡ true → IsRunOf g calls
    → completions n g calls ≡ 0
none-completes n g [] lawful terminated run = refl
none-completes n g (call ∷ calls) lawful terminated run =
    let same : has_completed (after g call) n ≡ has_completed g n =
    ap (λ (f : Flight). ltb n (accepted f) && not (is_pending (op_at f n))) (flight-rests g call lawful terminated) in
    let here : (has_completed (after g call) n && not (has_completed g n)) ≡ false =
    ap (λ (b : Bool). b && not (has_completed g n)) same ∙ and-not (has_completed g n) in
    let none : once_where (has_completed (after g call) n && not (has_completed g n)) ≡ 0 = ap once_where here in
    let later = none-completes n (after g call) calls (lawful-after g call lawful run.0)
    (terminated-stays g call lawful run.0 terminated) run.1 in
    omega (arith, none, later)

pub at-rest : TerminatedIsAtRest
at-rest g lawful terminated =
    let rest = resting g lawful terminated in
    record {
      ended = λ n l.
          let none = rest.none n in
          let pending : is_pending (op_at g.flight n) ≡ false = rw none refl in
          let queued : is_queued (op_at g.flight n) ≡ false = rw none refl in
          let running : is_running (op_at g.flight n) ≡ false = rw none refl in
          and_from (was_taken g n) (not (is_running (op_at g.flight n)))
          (and_from (has_completed g n) (not (is_queued (op_at g.flight n)))
          (and_from (ltb n (accepted g.flight)) (not (is_pending (op_at g.flight n))) (lt-ltb n (accepted g.flight) l)
          (not_from_false (is_pending (op_at g.flight n)) pending))
          (not_from_false (is_queued (op_at g.flight n)) queued))
          (not_from_false (is_running (op_at g.flight n)) running);
      completes_none = λ n calls run. none-completes n g calls lawful terminated run;
    }

pub step-count : (a b : Bool) → (a ≡ true → b ≡ true) → once_where (b && not a) + once_where a ≡ once_where b
step-count true b h = rw (h refl) refl
step-count false true h = refl
step-count false false h = refl

-- an operation that has completed stays so
pub completed-stays : (g g' : Group) (n : ℕ) → IsStepped g.flight g'.flight → has_completed g n ≡ true
    → has_completed g' n ≡ true
completed-stays g g' n step is =
    let more = step.accepts in
    let parts = and_parts (ltb n (accepted g.flight)) (not (is_pending (op_at g.flight n))) is in
    let within : n < accepted g.flight = ltb-true n (accepted g.flight) parts.0 in
    and_from (ltb n (accepted g'.flight)) (not (is_pending (op_at g'.flight n)))
    (lt-ltb n (accepted g'.flight) (omega arith))
    (not_from_false (is_pending (op_at g'.flight n))
    (next-not_pending (op_at g.flight n) (op_at g'.flight n) (step.next n within)
    (not-true (is_pending (op_at g.flight n)) parts.1)))

counted : (n : ℕ) (g : Group) (calls : List Call) → IsLawful g → IsRunOf g calls
    → completions n g calls + once_where (has_completed g n) ≡ once_where (has_completed (left_by g calls) n)
counted n g [] lawful run = omega arith
counted n g (call ∷ calls) lawful run =
    let later = counted n (after g call) calls (lawful-after g call lawful run.0) run.1 in
    let here = step-count (has_completed g n) (has_completed (after g call) n)
    (completed-stays g (after g call) n (stepped-after g call lawful)) in
    omega (arith, later, here)

pub lawful-empty : (limits : GroupLimits) → IsLawful (empty_group limits)
lawful-empty limits =
    record {
      queued_once = λ n. refl;
      made = λ n op is. absurd (none-some op is);
      present = λ n op is. absurd (none-some op is);
      pending_open = λ n c kind h. absurd (false≢true h);
      pending_ready = λ n c kind h. absurd (false≢true h);
      one_each = λ m n c kind h h'. absurd (false≢true h);
      connecting = λ c o e. absurd (false≢true o);
      few_in_flight = omega arith;
      few_channels = omega arith;
      few_accepted = omega arith;
    }

pub none-completed : (n : ℕ) (limits : GroupLimits) → has_completed (empty_group limits) n ≡ false
none-completed n limits = by_test (ltb n 0) (λ t. absurd (let l = ltb-true n 0 t in omega arith)) (λ f. rw f refl)

pub completes-once : CompletesOnce
completes-once limits calls n run =
    let total = counted n (empty_group limits) calls (lawful-empty limits) run in
    let before : once_where (has_completed (empty_group limits) n) ≡ 0 = ap once_where (none-completed n limits) in
    omega (arith, total, before)
