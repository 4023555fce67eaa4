-- Each call leaves an operation as it is, or takes it to its next stage.
use Rattle.std.proofs.Common.{◌≡◌, ◌⊎◌, inl, inr, ℕ, ◌<◌, ◌≤◌, zero, suc, Bool, true, false, eqb, ◌||◌, List, [], ◌∷◌}
use Rattle.std.proofs.Common.{◌++◌, Option, Some, None, length, get_or, set, refl, sym, ap, ◌∙◌, subst, arith}
use Rattle.std.proofs.Common.{get_or-set_same, get_or-set_other}
use Rattle.std.specs.Option.{option_map}
use Rattle.std.proofs.lemmas.Bool.{false≢true, eqb-true, eqb-false, and_parts}
use Rattle.std.proofs.lemmas.List.{get_or_append_left, get_or_push, length_push, length-set, length-map}
use Rattle.nio_base.specs.declared.group.OpKind.{OpKind}
use Rattle.nio_base.specs.declared.group.OpKind.TheVariants.{Accept, Connect, Read, Write}
use Rattle.nio_base.specs.declared.group.Outcome.{Outcome}
use Rattle.nio_base.specs.declared.group.Finished.{Finished}
use Rattle.nio_base.specs.declared.group.Finished.TheVariants.{Failed}
use Rattle.nio_base.specs.declared.group.Why.TheVariants.{AsynchronousClose}
use Rattle.nio_group.specs.declared.operation.Stage.{Stage}
use Rattle.nio_group.specs.declared.operation.Stage.TheVariants.{Pending, Queued, Running}
use Rattle.nio_group.specs.declared.operation.Operation.{Operation}
use Rattle.nio_group.specs.Stages.{is_pending, is_pending_on, is_queued, is_running, stage_is_pending, stage_is_queued}
use Rattle.nio_group.specs.Stages.{stage_is_running, at_stage}
use Rattle.nio_group.specs.Flight.{Flight, op_at, accepted, with_accepted, flight_after_take, with_channel_closed}
use Rattle.nio_group.specs.Flight.{closed_on}
use Rattle.nio_group.specs.Group.{Group, IsLawful, channel_at, new_endpoint, is_open, is_present}
use Rattle.nio_base.specs.declared.numbers.GChan.{GChan}
use Rattle.nio_group.specs.declared.channel.Endpoint.{Endpoint}
use Rattle.nio_group.specs.declared.channel.Endpoint.TheVariants.{Stream}
use Rattle.nio_group.specs.declared.channel.Link.TheVariants.{Connected}
use Rattle.nio_group.specs.Making.{next_name, with_made}
use Rattle.nio_group.specs.Refusals.{bind_refusal, start_refusal, report_refusal}
use Rattle.nio_group.specs.Steps.{kept_if_refused, started, first_stage, after_report, reported, result_of, after_take}
use Rattle.nio_group.specs.Steps.{finish_refusal, after_close, after_closing, after_shutdown, closed_below, with_closed}
use Rattle.nio_group.specs.Steps.{completed, accepted_name}
use Rattle.nio_group.specs.Run.{Call, open_channel, bind, start, report, take, finish, close_channel, shutdown}
use Rattle.nio_group.specs.Run.{shutdown_now, after, GoesOn, IsNext, StagesGoForward}
use Rattle.nio_group.proofs.TableLemmas.{by_test}
use Rattle.nio_group.proofs.QueueLemmas.{QueueHolds, front-queued}
use Rattle.nio_group.proofs.RunLemmas.{unless-refused, cond-holds}
use Rattle.std.proofs.Math.ListN.{get_or-map}
use Rattle.nio_group.proofs.ReportLemmas.{report-allowed}

next-same : (slot : Option Operation) → IsNext slot slot
next-same None = refl
next-same (Some op) = inl refl

-- a pending operation completes
goes-completed : (stage : Stage) (op : Operation) (result : Finished) → stage_is_pending stage ≡ true
    → GoesOn stage op (Some (at_stage (Queued result) op))
goes-completed Pending op result pending = (result, refl)
goes-completed (Queued r) op result pending = absurd (false≢true pending)
goes-completed Running op result pending = absurd (false≢true pending)

next-completed : (slot : Option Operation) (result : Finished) → is_pending slot ≡ true
    → IsNext slot (option_map (at_stage (Queued result)) slot)
next-completed None result pending = refl
next-completed (Some op) result pending = inr (goes-completed op.stage op result pending)

-- a queued operation runs
goes-taken : (stage : Stage) (op : Operation) → stage_is_queued stage ≡ true
    → GoesOn stage op (Some (at_stage Running op))
goes-taken Pending op queued = absurd (false≢true queued)
goes-taken (Queued r) op queued = refl
goes-taken Running op queued = absurd (false≢true queued)

next-taken : (slot : Option Operation) → is_queued slot ≡ true → IsNext slot (option_map (at_stage Running) slot)
next-taken None queued = refl
next-taken (Some op) queued = inr (goes-taken op.stage op queued)

-- a running operation ends
goes-ended : (stage : Stage) (op : Operation) → stage_is_running stage ≡ true → GoesOn stage op None
goes-ended Pending op running = absurd (false≢true running)
goes-ended (Queued r) op running = absurd (false≢true running)
goes-ended Running op running = refl

next-ended : (slot : Option Operation) → is_running slot ≡ true → IsNext slot None
next-ended None running = refl
next-ended (Some op) running = inr (goes-ended op.stage op running)

-- what a call makes of the operations of a flight
pub record IsStepped (f f' : Flight) : Type 0 where
  pub accepts : accepted f ≤ accepted f'
  pub next : (n : ℕ) → n < accepted f → IsNext (op_at f n) (op_at f' n)
  pub begun : (n : ℕ) → accepted f ≤ n → n < accepted f' → (is_pending (op_at f' n) || is_queued (op_at f' n)) ≡ true

none-between : {P : Type 0} (a b n : ℕ) → a ≡ b → a ≤ n → n < b → P
none-between a b n same from below = absurd (let never : ⊥ = omega arith in never)

pub stepped-same : (f : Flight) → IsStepped f f
stepped-same f =
    record {
      accepts = omega arith;
      next = λ n l. next-same (op_at f n);
      begun = λ n from l. none-between (accepted f)
          (accepted f) n refl from l;
    }

stepped-accepted : (f : Flight) (op : Operation) → (stage_is_pending op.stage || stage_is_queued op.stage) ≡ true
    → IsStepped f (with_accepted f op)
stepped-accepted f op begins =
    record {
      accepts = omega (arith, length_push f.operations (Some op));
      next = λ n l. rw (get_or_append_left f.operations (Some op ∷ []) None n l) (next-same (op_at f n));
      begun = λ n from l.
          let last : n ≡ length f.operations = omega (arith, length_push f.operations (Some op)) in
          rw (get_or_push f.operations (Some op) None n (sym last)) begins;
    }

stepped-set : (f : Flight) (i : ℕ) (slot : Option Operation) (queue : List ℕ) → IsNext (op_at f i) slot
    → IsStepped f (record f { operations = set f.operations i slot; queue = queue })
stepped-set f i slot queue moves =
    record {
      accepts = omega (arith, length-set f.operations i slot);
      next = λ n l.
          by_test (eqb n i)
          (λ t. let same = eqb-true n i t in
          let put : get_or (set f.operations i slot) n None ≡ slot =
          subst (λ (k : ℕ). get_or (set f.operations i slot) k None ≡ slot) (sym same)
          (get_or-set_same f.operations i slot None (subst (λ (k : ℕ). k < length f.operations) same l)) in
          rw put (subst (λ (k : ℕ). IsNext (op_at f k) slot) (sym same) moves))
          (λ e. rw (get_or-set_other f.operations i n slot None (eqb-false n i e)) (next-same (op_at f n)));
      begun = λ n from l. none-between (length f.operations) (length (set f.operations i slot)) n
          (sym (length-set f.operations i slot)) from l;
    }

-- the slot as it was, or completed since its channel was closed
abbrev pub IsClosed : Option Operation → Option Operation → Type 0
IsClosed slot slot' =
    (slot' ≡ slot) ⊎
    ((is_pending slot ≡ true) × (slot' ≡ option_map (at_stage (Queued (Failed AsynchronousClose))) slot))

pub completed-not_pending : (slot : Option Operation) (result : Finished)
    → is_pending (option_map (at_stage (Queued result)) slot) ≡ false
completed-not_pending None result = refl
completed-not_pending (Some op) result = refl

closed-trans : (a b c : Option Operation) → IsClosed a b → IsClosed b c → IsClosed a c
closed-trans a b c (inl same) second = subst (λ (x : Option Operation). IsClosed x c) same second
closed-trans a b c (inr closed) (inl same) = inr (closed.0, same ∙ closed.1)
closed-trans a b c (inr closed) (inr again) =
    absurd (false≢true (sym (ap is_pending closed.1 ∙ completed-not_pending a (Failed AsynchronousClose)) ∙ again.0))

closed-next : (a b : Option Operation) → IsClosed a b → IsNext a b
closed-next a b (inl same) = subst (IsNext a) (sym same) (next-same a)
closed-next a b (inr closed) = subst (IsNext a) (sym closed.1) (next-completed a (Failed AsynchronousClose) closed.0)

closed_on-closed : (c : ℕ) (slot : Option Operation) → IsClosed slot (closed_on c slot)
closed_on-closed c None = inl refl
closed_on-closed c (Some op) =
    by_test (is_pending_on c (Some op))
    (λ t. rw t (inr ((and_parts (stage_is_pending op.stage) (eqb op.chan.number c) t).0, refl)))
    (λ f. rw f (inl refl))

-- what closing channels makes of the operations of a flight
pub record IsClosing (f f' : Flight) : Type 0 where
  pub accepts : accepted f' ≡ accepted f
  pub slots : (n : ℕ) → IsClosed (op_at f n) (op_at f' n)

closing-same : (f : Flight) → IsClosing f f
closing-same f = record { accepts = refl; slots = λ n. inl refl }

closing-after_closing : (g : Group) (c : ℕ) → IsClosing g.flight (after_closing g c).flight
closing-after_closing g c =
    cond-holds (λ (h : Group). IsClosing g.flight h.flight) (channel_at g c).is_open
    (record (with_closed g c) { flight = with_channel_closed g.flight c }) g
    (λ t. record {
      accepts = length-map g.flight.operations (closed_on c);
      slots = λ n. rw (get_or-map (closed_on c) g.flight.operations n None) (closed_on-closed c (op_at g.flight n));
    })
    (λ f. closing-same g.flight)

closing-after_close : (g : Group) (chan : GChan) → IsClosing g.flight (after_close g chan).flight
closing-after_close g chan =
    cond-holds (λ (h : Group). IsClosing g.flight h.flight) (is_present g chan) (after_closing g chan.number) g
    (λ t. closing-after_closing g chan.number)
    (λ f. closing-same g.flight)

closing-closed_below : (c : ℕ) (g : Group) → IsClosing g.flight (closed_below c g).flight
closing-closed_below zero g = closing-same g.flight
closing-closed_below (suc c) g =
    let before = closing-closed_below c g in
    let here = closing-after_closing (closed_below c g) c in
    record {
      accepts = here.accepts ∙ before.accepts;
      slots = λ n. closed-trans (op_at g.flight n) (op_at (closed_below c g).flight n)
          (op_at (after_closing (closed_below c g) c).flight n) (before.slots n) (here.slots n);
    }

stepped-closing : (f f' : Flight) → IsClosing f f' → IsStepped f f'
stepped-closing f f' closing =
    record {
      accepts = omega (arith, closing.accepts);
      next = λ n l. closed-next (op_at f n) (op_at f' n) (closing.slots n);
      begun = λ n from l. none-between (accepted f) (accepted f') n (sym closing.accepts) from l;
    }

-- making a channel leaves the operations as they were
pub made-flight : (g : Group) (name : Option GChan) (endpoint : Endpoint) → (with_made g name endpoint).flight ≡ g.flight
made-flight g None endpoint = refl
made-flight g (Some chan) endpoint = refl

stepped-report : (g : Group) (n : ℕ) (o : Outcome) → IsStepped g.flight (after_report g n o).flight
stepped-report g n o = by_slot (op_at g.flight n) refl
  where
    by_slot : (slot : Option Operation) → op_at g.flight n ≡ slot
        → IsStepped g.flight (kept_if_refused (report_refusal slot o) g (reported g n o slot)).flight
    by_slot None is = stepped-same g.flight
    by_slot (Some op) is =
        unless-refused (λ (h : Group). IsStepped g.flight h.flight) (report_refusal (Some op) o) g
        (reported g n o (Some op)) (stepped-same g.flight)
        (λ free.
        let pending : is_pending (op_at g.flight n) ≡ true = rw is (report-allowed op o free).0 in
        subst (IsStepped g.flight)
        (sym (made-flight (completed g n o (result_of g o) op) (accepted_name g o) (Stream Connected)))
        (stepped-set g.flight n (option_map (at_stage (Queued (result_of g o))) (op_at g.flight n))
        (g.flight.queue ++ n ∷ []) (next-completed (op_at g.flight n) (result_of g o) pending)))

stepped-take : (g : Group) → IsLawful g → IsStepped g.flight (after_take g).flight
stepped-take g lawful = by_queue g.flight.queue refl
  where
    by_queue : (queue : List ℕ) → g.flight.queue ≡ queue → IsStepped g.flight (flight_after_take g.flight queue)
    by_queue [] is = stepped-same g.flight
    by_queue (n ∷ rest) is =
        let holds : QueueHolds g.flight.operations (n ∷ rest) = rw is at lawful.queued_once in
        stepped-set g.flight n (option_map (at_stage Running) (op_at g.flight n)) _
        (next-taken (op_at g.flight n) (front-queued g.flight.operations n rest holds))

first_stage-begins : (is_open : Bool) (kind : OpKind) (len : ℕ)
    → (stage_is_pending (first_stage is_open kind len) || stage_is_queued (first_stage is_open kind len)) ≡ true
first_stage-begins false kind len = refl
first_stage-begins true Accept len = refl
first_stage-begins true Connect len = refl
first_stage-begins true Read len = by_test (eqb len 0) (λ t. rw t refl) (λ f. rw f refl)
first_stage-begins true Write len = by_test (eqb len 0) (λ t. rw t refl) (λ f. rw f refl)

pub finishable : (running : Bool) → finish_refusal running ≡ None → running ≡ true
finishable true free = refl
finishable false free = cc

pub stepped-after : (g : Group) (call : Call) → IsLawful g → IsStepped g.flight (after g call).flight
stepped-after g (open_channel kind) lawful =
    cond-holds (λ (h : Group). IsStepped g.flight h.flight) g.is_shut g (with_made g (next_name g kind)
    (new_endpoint kind))
    (λ shut. stepped-same g.flight)
    (λ going. subst (IsStepped g.flight) (sym (made-flight g (next_name g kind) (new_endpoint kind)))
    (stepped-same g.flight))
stepped-after g (bind chan) lawful =
    unless-refused (λ (h : Group). IsStepped g.flight h.flight)
    (bind_refusal (is_open g chan) (channel_at g chan.number).endpoint) g _ (stepped-same g.flight)
    (λ free. stepped-same g.flight)
stepped-after g (start chan kind len) lawful =
    unless-refused (λ (h : Group). IsStepped g.flight h.flight) (start_refusal g chan kind) g
    (started g chan kind len) (stepped-same g.flight)
    (λ free. stepped-accepted g.flight _ (first_stage-begins (is_open g chan) kind len))
stepped-after g (report op o) lawful = stepped-report g op.0 o
stepped-after g take lawful = stepped-take g lawful
stepped-after g (finish op) lawful =
    unless-refused (λ (h : Group). IsStepped g.flight h.flight) (finish_refusal (is_running (op_at g.flight op.0))) g _
    (stepped-same g.flight)
    (λ free. stepped-set g.flight op.0 None g.flight.queue
    (next-ended (op_at g.flight op.0) (finishable (is_running (op_at g.flight op.0)) free)))
stepped-after g (close_channel chan) lawful =
    stepped-closing g.flight (after_close g chan).flight (closing-after_close g chan)
stepped-after g shutdown lawful = stepped-same g.flight
stepped-after g shutdown_now lawful =
    stepped-closing g.flight (closed_below (length g.channels) (after_shutdown g)).flight
    (closing-closed_below (length g.channels) (after_shutdown g))

pub stages-forward : StagesGoForward
stages-forward g call n lawful made =
    let step =
    stepped-after g call lawful in record { accepts = step.accepts; goes_on = step.next n; begins = step.begun n }

-- an operation that isn't pending any more never is again
pub goes-not_pending : (stage : Stage) (op : Operation) (next : Option Operation) → GoesOn stage op next
    → is_pending next ≡ false
goes-not_pending Pending op next goes = ap is_pending goes.1
goes-not_pending (Queued r) op next goes = ap is_pending goes
goes-not_pending Running op next goes = ap is_pending goes

pub next-not_pending : (a b : Option Operation) → IsNext a b → is_pending a ≡ false → is_pending b ≡ false
next-not_pending None b next past = ap is_pending next
next-not_pending (Some op) b (inl same) past = ap is_pending same ∙ past
next-not_pending (Some op) b (inr goes) past = goes-not_pending op.stage op b goes

-- an operation that was taken is never queued again
goes-not_queued : (stage : Stage) (op : Operation) (next : Option Operation) → GoesOn stage op next
    → stage_is_pending stage ≡ false → is_queued next ≡ false
goes-not_queued Pending op next goes past = absurd (false≢true (sym past))
goes-not_queued (Queued r) op next goes past = ap is_queued goes
goes-not_queued Running op next goes past = ap is_queued goes

pub next-not_queued : (a b : Option Operation) → IsNext a b → is_pending a ≡ false → is_queued a ≡ false
    → is_queued b ≡ false
next-not_queued None b next past taken = ap is_queued next
next-not_queued (Some op) b (inl same) past taken = ap is_queued same ∙ taken
next-not_queued (Some op) b (inr goes) past taken = goes-not_queued op.stage op b goes past
