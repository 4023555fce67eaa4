-- Which operations each call of a group leaves pending.
use Rattle.std.proofs.Common.{◌≡◌, ◌≢◌, inl, inr, ℕ, ◌<◌, zero, suc, true, false, not, eqb, List, [], drop, ◌∷◌}
use Rattle.std.proofs.Common.{Option, Some, None, length, get_or, set, refl, sym, ap, ◌∙◌, subst, arith}
use Rattle.std.proofs.Common.{get_or-set_same, get_or-set_other}
use Rattle.std.specs.Option.{option_map}
use Rattle.std.proofs.lemmas.Bool.{false≢true, cases_lt, eqb-true, eqb-false}
use Rattle.std.proofs.lemmas.List.{get_or_append_left, get_or_past, length-set}
use Rattle.nio_base.specs.declared.numbers.GChan.{GChan}
use Rattle.nio_base.specs.declared.group.GKind.{GKind}
use Rattle.nio_base.specs.declared.group.OpKind.{OpKind}
use Rattle.nio_base.specs.declared.group.Finished.{Finished}
use Rattle.nio_group.specs.declared.channel.Channel.{Channel}
use Rattle.nio_group.specs.declared.channel.Endpoint.TheVariants.{Listener}
use Rattle.nio_group.specs.declared.operation.Stage.TheVariants.{Queued, Running}
use Rattle.nio_group.specs.declared.operation.Operation.{Operation}
use Rattle.nio_group.specs.Stages.{is_on, stage_is_pending, is_pending, is_pending_as, is_queued, is_pending_on, is_running}
use Rattle.nio_group.specs.Stages.{at_stage}
use Rattle.nio_group.specs.Flight.{Flight, op_at, IsPendingAs, with_accepted, with_completed, with_ended}
use Rattle.nio_group.specs.Flight.{flight_after_take, closed_on, with_channel_closed}
use Rattle.nio_group.specs.Group.{Group, IsLawful, channel_at, is_open, new_endpoint, no_channel}
use Rattle.nio_group.specs.Making.{next_name, with_made}
use Rattle.nio_group.specs.Refusals.{bind_refusal, start_refusal}
use Rattle.nio_group.specs.Run.{IsNext}
use Rattle.nio_group.specs.Steps.{after_open, after_bind, after_start, after_take, after_finish, after_closing}
use Rattle.nio_group.specs.Steps.{after_shutdown, after_shutdown_now, closed_below, with_endpoint, with_closed, started}
use Rattle.nio_group.specs.Steps.{first_stage, finish_refusal}
use Rattle.nio_group.proofs.EndLemmas.{queued-not_pending, running-not_pending}
use Rattle.nio_group.proofs.FlightLemmas.{some-within}
use Rattle.nio_group.proofs.LawfulLemmas.{open-within, nothing-pending}
use Rattle.nio_group.proofs.ListLemmas.{within-where}
use Rattle.nio_group.proofs.PendingLemmas.{pending-parts, pending-as-pending}
use Rattle.nio_group.proofs.QueueLemmas.{QueueHolds, front-queued}
use Rattle.nio_group.proofs.RunLemmas.{unless-refused, cond-holds}
use Rattle.nio_group.proofs.TableLemmas.{by_test}
use Rattle.nio_group.proofs.StageLemmas.{completed-not_pending, finishable, goes-not_pending, made-flight}
use Rattle.std.proofs.Math.ListN.{get_or-map}

-- each pending operation stays so
abbrev pub Stays : Flight → Flight → Type 0
Stays f f' = (n : ℕ) → is_pending (op_at f n) ≡ true → is_pending (op_at f' n) ≡ true

pub stays-open : (g : Group) (kind : GKind) → Stays g.flight (after_open g kind).flight
stays-open g kind =
    cond-holds (λ (h : Group). Stays g.flight h.flight) g.is_shut g (with_made g (next_name g kind) (new_endpoint kind))
    (λ shut n p. p)
    (λ going. subst (Stays g.flight) (sym (made-flight g (next_name g kind) (new_endpoint kind))) (λ n p. p))

pub stays-bind : (g : Group) (chan : GChan) → Stays g.flight (after_bind g chan).flight
stays-bind g chan =
    unless-refused (λ (h : Group). Stays g.flight h.flight)
    (bind_refusal (is_open g chan) (channel_at g chan.number).endpoint) g
    (with_endpoint g chan.number (Listener true)) (λ n p. p)
    (λ free n p. p)

pub stays-shutdown : (g : Group) → Stays g.flight (after_shutdown g).flight
stays-shutdown g n p = p

pub stays-start : (g : Group) (chan : GChan) (kind : OpKind) (len : ℕ)
    → Stays g.flight (after_start g chan kind len).flight
stays-start g chan kind len =
    unless-refused (λ (h : Group). Stays g.flight h.flight) (start_refusal g chan kind) g (started g chan kind len)
    (λ n p. p)
    (λ free n p. pushed (record {
      chan = chan;
      kind = kind;
      len = len;
      stage = first_stage (is_open g chan) kind len;
    }) n p)
  where
    pushed : (op : Operation) (n : ℕ) → is_pending (op_at g.flight n) ≡ true
        → is_pending (op_at (with_accepted g.flight op) n) ≡ true
    pushed op n p =
        rw (get_or_append_left g.flight.operations (Some op ∷ []) None n
        (within-where is_pending g.flight.operations n None refl p)) p

-- a slot that isn't pending changes
stays-set : (f : Flight) (i : ℕ) (slot : Option Operation) (queue : List ℕ) → is_pending (op_at f i) ≡ false
    → Stays f (record f { operations = set f.operations i slot; queue = queue })
stays-set f i slot queue idle n p =
    by_test (eqb n i)
    (λ t. absurd (false≢true (sym idle ∙ subst (λ (k : ℕ). is_pending (op_at f k) ≡ true) (eqb-true n i t) p)))
    (λ e. rw (get_or-set_other f.operations i n slot None (eqb-false n i e)) p)

queued-idle : (slot : Option Operation) → is_queued slot ≡ true → is_pending slot ≡ false
queued-idle None q = refl
queued-idle (Some op) q = queued-not_pending op.stage q

running-idle : (slot : Option Operation) → is_running slot ≡ true → is_pending slot ≡ false
running-idle None r = refl
running-idle (Some op) r = running-not_pending op.stage r

pub stays-take : (g : Group) → IsLawful g → Stays g.flight (after_take g).flight
stays-take g lawful = by_queue g.flight.queue refl
  where
    by_queue : (queue : List ℕ) → g.flight.queue ≡ queue → Stays g.flight (flight_after_take g.flight queue)
    by_queue [] is = λ n p. p
    by_queue (n ∷ rest) is =
        let holds : QueueHolds g.flight.operations (n ∷ rest) = rw is at lawful.queued_once in
        stays-set g.flight n (option_map (at_stage Running) (op_at g.flight n)) (drop 1 g.flight.queue)
        (queued-idle (op_at g.flight n) (front-queued g.flight.operations n rest holds))

pub stays-finish : (g : Group) (n : ℕ) → Stays g.flight (after_finish g n).flight
stays-finish g n =
    unless-refused (λ (h : Group). Stays g.flight h.flight) (finish_refusal (is_running (op_at g.flight n))) g
    (record g { flight = with_ended g.flight n }) (λ m p. p)
    (λ free.
    stays-set g.flight n None g.flight.queue
    (running-idle (op_at g.flight n) (finishable (is_running (op_at g.flight n)) free)))

-- ---- `report`

-- of the pending operations one completes
pub pending-completed : (f : Flight) (n : ℕ) (op : Operation) (result : Finished) → op_at f n ≡ Some op → (m : ℕ)
    → is_pending (op_at f m) ≡ true → is_pending (op_at (with_completed f n result) m) ≡ not (eqb m n)
pending-completed f n op result is m p =
    by_test (eqb m n)
    (λ t. rw t
    (subst
    (λ (k : ℕ). is_pending (get_or (set f.operations n (option_map (at_stage (Queued result)) (op_at f n))) k None)
    ≡ false)
    (sym (eqb-true m n t))
    (ap is_pending (get_or-set_same f.operations n (option_map (at_stage (Queued result)) (op_at f n)) None
    (some-within f.operations n op is))
    ∙ completed-not_pending (op_at f n) result)))
    (λ e. rw (
      e,
      get_or-set_other f.operations n m (option_map (at_stage (Queued result)) (op_at f n)) None
          (eqb-false m n e),
    ) p)

-- ---- `close_channel`

pub pending-chan : (c d : ℕ) (kind : OpKind) (slot : Option Operation) → is_pending_as c kind slot ≡ true
    → is_pending (closed_on d slot) ≡ not (eqb c d)
pending-chan c d kind None h = absurd (false≢true h)
pending-chan c d kind (Some op) h =
    let pending : stage_is_pending op.stage ≡ true = pending-as-pending c kind (Some op) h in
    let here = (pending-parts c kind op h).chan in
    by_test (eqb c d)
    (λ t.
    let there : is_pending_on d (Some op) ≡ true = rw (pending, here, t) refl in
    rw (there, t) refl)
    (λ e.
    let elsewhere : is_pending_on d (Some op) ≡ false = rw (pending, here, e) refl in
    rw (elsewhere, e) pending)

-- of the operations that are pending on some channel those on another stay so
pub pending-closed : (g : Group) (c d n : ℕ) (kind : OpKind) → IsLawful g → IsPendingAs g.flight d kind n
    → is_pending (op_at (after_closing g c).flight n) ≡ not (eqb d c)
pending-closed g c d n kind lawful pending =
    cond-holds (λ (h : Group). is_pending (op_at h.flight n) ≡ not (eqb d c)) (channel_at g c).is_open
    (record (with_closed g c) { flight = with_channel_closed g.flight c }) g
    (λ t. ap is_pending (get_or-map (closed_on c) g.flight.operations n None) ∙ pending-chan d c kind
    (op_at g.flight n) pending)
    (λ f.
    let was_open : (channel_at g d).is_open ≡ true = lawful.pending_open n d kind pending in
    by_test (eqb d c)
    (λ t.
    let closed : (channel_at g d).is_open ≡ false =
    subst (λ (k : ℕ). (channel_at g k).is_open ≡ false) (sym (eqb-true d c t)) f in
    absurd (false≢true (sym closed ∙ was_open)))
    (λ e. rw e (pending-as-pending d kind (op_at g.flight n) pending)))

-- ---- `shutdown_now`

close-closes : (g : Group) (c : ℕ) → (channel_at (after_closing g c) c).is_open ≡ false
close-closes g c =
    cond-holds (λ (h : Group). (channel_at h c).is_open ≡ false) (channel_at g c).is_open
    (record (with_closed g c) { flight = with_channel_closed g.flight c }) g
    (λ t. ap (λ (ch : Channel). ch.is_open)
    (get_or-set_same g.channels c (record (channel_at g c) { is_open = false }) no_channel
    (open-within g.channels c t)))
    (λ f. f)

close-others : (g : Group) (c d : ℕ) → d ≢ c → channel_at (after_closing g c) d ≡ channel_at g d
close-others g c d other =
    cond-holds (λ (h : Group). channel_at h d ≡ channel_at g d) (channel_at g c).is_open
    (record (with_closed g c) { flight = with_channel_closed g.flight c }) g
    (λ t. get_or-set_other g.channels c d (record (channel_at g c) { is_open = false }) no_channel other)
    (λ f. refl)

close-length : (g : Group) (c : ℕ) → length (after_closing g c).channels ≡ length g.channels
close-length g c =
    cond-holds (λ (h : Group). length h.channels ≡ length g.channels) (channel_at g c).is_open
    (record (with_closed g c) { flight = with_channel_closed g.flight c }) g
    (λ t. length-set g.channels c (record (channel_at g c) { is_open = false }))
    (λ f. refl)

closed_below-length : (k : ℕ) (g : Group) → length (closed_below k g).channels ≡ length g.channels
closed_below-length zero g = refl
closed_below-length (suc k) g = close-length (closed_below k g) k ∙ closed_below-length k g

closed_below-closed : (k : ℕ) (g : Group) (c : ℕ) → c < k → (channel_at (closed_below k g) c).is_open ≡ false
closed_below-closed zero g c l = absurd (omega arith)
closed_below-closed (suc k) g c l =
    by_test (eqb c k)
    (λ t. subst (λ (d : ℕ). (channel_at (after_closing (closed_below k g) k) d).is_open ≡ false)
    (sym (eqb-true c k t)) (close-closes (closed_below k g) k))
    (λ e.
    let other = eqb-false c k e in
    ap (λ (ch : Channel). ch.is_open) (close-others (closed_below k g) k c other)
    ∙ closed_below-closed k g c (omega arith))

all-closed : (g : Group) (c : ℕ) → (channel_at (after_shutdown_now g) c).is_open ≡ false
all-closed g c =
    elim (cases_lt c (length g.channels)) [
      | inl l ↦ closed_below-closed (length g.channels) (after_shutdown g) c l
      | inr past ↦
          let same = closed_below-length (length g.channels) (after_shutdown g) in
          ap (λ (ch : Channel). ch.is_open)
          (get_or_past (after_shutdown_now g).channels c no_channel (omega (arith, same)))
    ]

-- where all channels are closed no operation is pending
pub none-pending : (g : Group) (n : ℕ) → IsLawful (after_shutdown_now g)
    → is_pending (op_at (after_shutdown_now g).flight n) ≡ false
none-pending g n lawful = nothing-pending (after_shutdown_now g) lawful (all-closed g) n

-- ---- the next stage

-- an operation that is still pending is as it was
pub next-as : (c : ℕ) (kind : OpKind) (slot next : Option Operation) → IsNext slot next
    → is_pending_as c kind slot ≡ true → is_pending next ≡ true → is_pending_as c kind next ≡ true
next-as c kind None next is h p = absurd (false≢true h)
next-as c kind (Some op) next is h p =
    elim is [
      | inl same ↦ rw same h
      | inr goes ↦ absurd (false≢true (sym (goes-not_pending op.stage op next goes) ∙ p))
    ]

-- and of the channel that it was
pub next-on : (chan : GChan) (slot next : Option Operation) → IsNext slot next → is_on chan slot ≡ true
    → is_pending next ≡ true → is_on chan next ≡ true
next-on chan None next is h p = absurd (false≢true h)
next-on chan (Some op) next is h p =
    elim is [
      | inl same ↦ rw same h
      | inr goes ↦ absurd (false≢true (sym (goes-not_pending op.stage op next goes) ∙ p))
    ]

pub as-chan : (c d : ℕ) (kind other : OpKind) (slot : Option Operation) → is_pending_as c kind slot ≡ true
    → is_pending_as d other slot ≡ true → (c ≡ d) × (kind ≡ other)
as-chan c d kind other None h h' = absurd (false≢true h)
as-chan c d kind other (Some op) h h' =
    let a = pending-parts c kind op h in
    let b = pending-parts d other op h' in
    (sym a.chan ∙ b.chan, sym a.same ∙ b.same)
