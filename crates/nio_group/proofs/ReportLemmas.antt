-- What reports, takes and ends of operations keep.
use Rattle.std.proofs.Common.{◌≡◌, ℕ, ◌+◌, ◌<◌, ◌≤◌, Bool, true, false, cond, List, [], ◌∷◌, ◌++◌, Option, Some, None}
use Rattle.std.proofs.Common.{is_some, get_or, set, length, refl, sym, ap, ◌∙◌, subst, arith}
use Rattle.std.proofs.lemmas.Bool.{false≢true, eqb-false}
use Rattle.std.proofs.lemmas.List.{length-set, get_or_read}
use Rattle.nio_group.specs.declared.channel.Channel.{Channel}
use Rattle.nio_group.specs.declared.channel.Endpoint.{Endpoint}
use Rattle.nio_group.specs.declared.channel.Endpoint.TheVariants.{Stream, Listener}
use Rattle.nio_group.specs.declared.channel.Link.TheVariants.{Unconnected, Connecting, Connected}
use Rattle.nio_base.specs.declared.group.OpKind.{OpKind}
use Rattle.nio_base.specs.declared.group.OpKind.TheVariants.{Accept, Connect, Read, Write}
use Rattle.nio_base.specs.declared.numbers.GChan.{GChan}
use Rattle.nio_base.specs.declared.group.Why.{Why}
use Rattle.nio_base.specs.declared.group.Finished.{Finished}
use Rattle.nio_base.specs.declared.group.Finished.TheVariants as done
use Rattle.nio_base.specs.declared.group.GKind.TheVariants as gkind
use Rattle.nio_base.specs.declared.group.Why.TheVariants as why
use Rattle.nio_base.specs.declared.group.GKind.{GKind}
use Rattle.nio_group.specs.Making.{next_name, first_back}
use Rattle.std.proofs.lemmas.Option.{none-some}
use Rattle.nio_group.specs.Steps.{result_of, completed, accepted_name, accepted_or_spent}
use Rattle.nio_group.specs.declared.operation.Stage.TheVariants.{Queued}
use Rattle.nio_group.specs.declared.operation.Operation.{Operation}
use Rattle.nio_group.specs.declared.limits.GroupLimits.{GroupLimits}
use Rattle.nio_group.specs.declared.pending.Pending as slots
use Rattle.nio_base.specs.declared.group.Outcome.{Outcome}
use Rattle.nio_base.specs.declared.group.Outcome.TheVariants as outcome
use Rattle.nio_group.specs.Refusals.{report_refusal, is_allowed}
use Rattle.nio_group.proofs.StartLemmas.{some_none}
use Rattle.nio_group.specs.Stages.{is_on, is_pending, is_pending_as, is_queued, stage_is_pending, at_stage}
use Rattle.nio_group.specs.Flight.{Flight, op_at, accepted, in_flight, in_flight_on, IsPendingAs, with_completed}
use Rattle.nio_group.specs.Pending.{with_slot, nothing_pending}
use Rattle.nio_group.specs.Group.{Group, IsLawful, channel_at, no_channel, is_ready_for}
use Rattle.nio_group.specs.GroupKept.{IsGroupKept, IsListed, AreCounted, group_of, is_open}
use Rattle.nio_group.proofs.TableLemmas.{by_test, count_by-set}
use Rattle.nio_group.proofs.QueueLemmas.{QueueHolds, queue-set}
use Rattle.nio_group.proofs.PendingLemmas.{pending-parts, pending-own}
use Rattle.nio_group.proofs.LawfulLemmas.{IsFlightLawful, lawful-channel, lawful-operations, open-within}
use Rattle.nio_group.proofs.GroupLemmas.{kept-channel, listed-channel, with_slot-in_flight}
use Rattle.nio_group.proofs.NameLemmas.{of-channels, of-channel, of-set, name_in, name-set, count-same, counted-slots}
use Rattle.nio_group.proofs.CloseLemmas.{pending-after, pending-before, listed-step}
use Rattle.nio_group.proofs.FlightLemmas.{some-within, not_queued-pending}

-- an operation in flight is put in another's place, which keeps the queue
pub flight-changes : (f : Flight) (n : ℕ) (op op' : Operation) (queue : List ℕ) (op_limit : ℕ) → op_at f n ≡ Some op
    → QueueHolds (set f.operations n (Some op')) queue → in_flight f ≤ f.limit → accepted f ≤ op_limit
    → IsFlightLawful (record f { operations = set f.operations n (Some op'); queue = queue }) op_limit
flight-changes f n op op' queue op_limit is holds few numbers =
    let l = some-within f.operations n op is in
    let counts = rw is at (count_by-set is_some f.operations n (Some op') None l) in
    record {
      queued_once = holds;
      few_in_flight = omega (arith, counts);
      few_accepted = omega (arith, length-set f.operations n (Some op'));
    }

-- the operations after a pending one was completed
abbrev pub completed_flight : Flight → ℕ → Operation → Finished → Flight
completed_flight f n op finished =
    record f { operations = set f.operations n (Some (at_stage (Queued finished) op)); queue = f.queue ++ n ∷ [] }

pub completed-is : (f : Flight) (n : ℕ) (op : Operation) (finished : Finished) → op_at f n ≡ Some op
    → with_completed f n finished ≡ completed_flight f n op finished
completed-is f n op finished is = rw is refl

pub flight-completes : (f : Flight) (n : ℕ) (op : Operation) (finished : Finished) (op_limit : ℕ) → op_at f n ≡ Some op
    → is_pending (Some op) ≡ true → QueueHolds f.operations f.queue → in_flight f ≤ f.limit → accepted f ≤ op_limit
    → IsFlightLawful (completed_flight f n op finished) op_limit
flight-completes f n op finished op_limit is is_pending_op holds few numbers =
    let not_queued : is_queued (get_or f.operations n None) ≡ false = rw is (not_queued-pending op is_pending_op) in
    flight-changes f n op (at_stage (Queued finished) op) (f.queue ++ n ∷ []) op_limit is
    (queue-set f.operations f.queue n (Some (at_stage (Queued finished) op))
    (some-within f.operations n op is) not_queued holds)
    few numbers

-- an operation that isn't a connect completes
pub lawful-completed : (g : Group) (n : ℕ) (op : Operation) (finished : Finished) → IsLawful g
    → op_at g.flight n ≡ Some op → is_pending (Some op) ≡ true → (op.kind ≡ Connect → ⊥)
    → IsLawful (record g { flight = completed_flight g.flight n op finished })
lawful-completed g n op finished lawful is is_pending_op other =
    let xs = g.flight.operations in
    let slot : Option Operation = Some (at_stage (Queued finished) op) in
    let l = some-within xs n op is in
    lawful-operations g (completed_flight g.flight n op finished) lawful
    (flight-completes g.flight n op finished g.op_limit is is_pending_op lawful.queued_once lawful.few_in_flight
    lawful.few_accepted)
    (of-set xs g.channels n slot l (op, is, refl, refl) (of-channels g lawful))
    (λ c kind m h. (pending-after xs n slot c kind m l refl h).1)
    (λ c m h. pending-before xs n slot c Connect m (λ at. other (pending-parts c Connect op (rw is at at)).same) h)

pub ready-connect : (e : Endpoint) → is_ready_for e Connect ≡ true → e ≡ Stream Connecting
ready-connect (Listener bound) h = absurd (false≢true h)
ready-connect (Stream Unconnected) h = absurd (false≢true h)
ready-connect (Stream Connecting) h = refl
ready-connect (Stream Connected) h = absurd (false≢true h)

connecting-ready : (kind : OpKind) → is_ready_for (Stream Connecting) kind ≡ true → kind ≡ Connect
connecting-ready Accept h = absurd (false≢true h)
connecting-ready Connect h = refl
connecting-ready Read h = absurd (false≢true h)
connecting-ready Write h = absurd (false≢true h)

-- a connect completes, and its channel isn't open and connecting from then on
pub lawful-connected : (g : Group) (n : ℕ) (op : Operation) (finished : Finished) (ch : Channel) → IsLawful g
    → op_at g.flight n ≡ Some op → is_pending (Some op) ≡ true → op.kind ≡ Connect
    → (ch.is_open ≡ true → ch.endpoint ≡ Stream Connecting → ⊥) → ch.serial ≡ (channel_at g op.chan.number).serial
    → IsLawful
    (record g { flight = completed_flight g.flight n op finished; channels = set g.channels op.chan.number ch })
lawful-connected g n op finished ch lawful is is_pending_op connect not_connecting same =
    let xs = g.flight.operations in
    let c = op.chan.number in
    let slot : Option Operation = Some (at_stage (Queued finished) op) in
    let l = some-within xs n op is in
    let own : IsPendingAs g.flight c op.kind n = rw is (pending-own op is_pending_op) in
    let own_connect : IsPendingAs g.flight c Connect n = subst
    (λ (k : OpKind). IsPendingAs g.flight c k n) connect own in
    let endpoint = ready-connect (channel_at g c).endpoint (lawful.pending_ready n c Connect own_connect) in
    let none : (kind : OpKind) (m : ℕ) → is_pending_as c kind (get_or (set xs n slot) m None) ≡ true → ⊥ =
    λ kind m h.
    let old = pending-after xs n slot c kind m l refl h in
    let is_connect : kind ≡ Connect = connecting-ready kind
    (subst (λ (e : Endpoint). is_ready_for e kind ≡ true) endpoint (lawful.pending_ready m c kind old.1)) in
    old.0 (lawful.one_each m n c Connect (subst (λ (k : OpKind). IsPendingAs g.flight c k m) is_connect old.1)
    own_connect) in
    let within = open-within g.channels c (lawful.pending_open n c Connect own_connect) in
    lawful-channel g (completed_flight g.flight n op finished) c ch lawful within
    (flight-completes g.flight n op finished g.op_limit is is_pending_op lawful.queued_once lawful.few_in_flight
    lawful.few_accepted)
    (of-channel (set xs n slot) g.channels c ch within (omega (arith, same)) (λ m o at pending there. same)
    (of-set xs g.channels n slot l (op, is, refl, refl) (of-channels g lawful)))
    (record {
      open_for = λ kind m h. absurd (none kind m h);
      ready_for = λ kind m h. absurd (none kind m h);
      once_for = λ kind m m' h h'. absurd (none kind m h);
      connects = λ o e. absurd (not_connecting o e);
    })
    (λ d kind m differ h. (pending-after xs n slot d kind m l refl h).1)
    (λ d m differ h. pending-before xs n slot d Connect m
    (λ at. differ (sym (pending-parts d Connect op (rw is at at)).chan)) h)

-- the slots after a pending operation was completed
pub listed-completed : (f : Flight) (ps : List slots.Pending) (n : ℕ) (op : Operation) (finished : Finished)
    → IsListed f ps → op_at f n ≡ Some op → is_pending (Some op) ≡ true → op.chan.number < length ps
    → IsListed (completed_flight f n op finished)
    (set ps op.chan.number (with_slot (get_or ps op.chan.number nothing_pending) op.kind None))
listed-completed f ps n op finished is_listed is is_pending_op within =
    let c = op.chan.number in
    let slot : Option Operation = Some (at_stage (Queued finished) op) in
    let l = some-within f.operations n op is in
    let own : IsPendingAs f c op.kind n = rw is (pending-own op is_pending_op) in
    let p : slots.Pending = get_or ps c nothing_pending in
    listed-channel f (completed_flight f n op finished) ps c (with_slot p op.kind None) is_listed within
    (listed-step f c p n op slot (f.queue ++ n ∷ []) (record { listed = is_listed.listed c; all = is_listed.all c }) is
    l (is_listed.all c op.kind n own) refl)
    (λ d kind m differ h. pending-before f.operations n slot d kind m
    (λ at. differ (sym (pending-parts d kind op (rw is at at)).chan)) h)
    (λ d kind m differ h. (pending-after f.operations n slot d kind m l refl h).1)

-- as many operations of each channel are in flight
counted-completed : (f : Flight) (cs cs' : List Channel) (ps : List slots.Pending) (n : ℕ) (op : Operation)
    (finished : Finished) → op_at f n ≡ Some op → op.chan.number < length ps
    → ((d : ℕ) → name_in cs' d ≡ name_in cs d) → AreCounted f cs ps
    → AreCounted (completed_flight f n op finished) cs'
    (set ps op.chan.number (with_slot (get_or ps op.chan.number nothing_pending) op.kind None))
counted-completed f cs cs' ps n op finished is within names =
    counted-slots f (completed_flight f n op finished) cs cs' ps op.chan.number
    (with_slot (get_or ps op.chan.number nothing_pending) op.kind None) within
    (λ d. ap (in_flight_on (completed_flight f n op finished)) (names d)
    ∙ count-same (name_in cs d) f.operations n (Some (at_stage (Queued finished) op)) (some-within f.operations n op is)
    (sym (ap (is_on (name_in cs d)) is)))
    (with_slot-in_flight (get_or ps op.chan.number nothing_pending) op.kind None)

-- what is known of an operation whose outcome isn't refused
pub report-allowed : (op : Operation) (outcome : Outcome) → report_refusal (Some op) outcome ≡ None
    → (is_pending (Some op) ≡ true) × (is_allowed op.kind op.len outcome ≡ true)
report-allowed op outcome h =
    by_test (stage_is_pending op.stage)
    (λ t.
    by_test (is_allowed op.kind op.len outcome)
    (λ a. (t, a))
    (λ f. absurd (some_none _ (rw (t, f) at h))))
    (λ f. absurd (some_none _ (rw f at h)))

pub connected-connect : (kind : OpKind) (len : ℕ) → is_allowed kind len outcome.Connected ≡ true → kind ≡ Connect
connected-connect Accept len h = absurd (false≢true h)
connected-connect Connect len h = refl
connected-connect Read len h = absurd (false≢true h)
connected-connect Write len h = absurd (false≢true h)

-- an outcome that no connect may have is of an operation that isn't one
pub not_connect : (kind : OpKind) (len : ℕ) (o : Outcome) → is_allowed Connect len o ≡ false
    → is_allowed kind len o ≡ true → kind ≡ Connect → ⊥
not_connect kind len o never h e = false≢true (sym never ∙ subst (λ (k : OpKind). is_allowed k len o ≡ true) e h)

-- the channel of a pending operation is one of the group's
pub pending-made : {f : Flight} {cs : List Channel} {ps : List slots.Pending} {o r r' : ℕ} {sh : Bool} {l : GroupLimits}
    (n : ℕ) (op : Operation)
    → IsGroupKept f cs ps o sh l r r' → op_at f n ≡ Some op → is_pending (Some op) ≡ true
    → (op.chan.number < length cs) × (op.chan.number < length ps) × ((get_or cs op.chan.number no_channel).is_open ≡ true)
pending-made {f} {cs} n op kept is is_pending_op =
    let own : IsPendingAs f op.chan.number op.kind n = rw is (pending-own op is_pending_op) in
    let opened = kept.lawful.pending_open n op.chan.number op.kind own in
    let within = open-within cs op.chan.number opened in
    let slots_are = kept.slots in
    (within, omega arith, opened)

pub kept-completed : {f : Flight} {cs : List Channel} {ps : List slots.Pending} {o r r' : ℕ} {sh : Bool}
    {l : GroupLimits} (n : ℕ) (op : Operation) (finished : Finished) (p : slots.Pending)
    → IsGroupKept f cs ps o sh l r r' → op_at f n ≡ Some op → is_pending (Some op) ≡ true → p ≡ get_or ps op.chan.number p
    → (op.kind ≡ Connect → ⊥)
    → IsGroupKept (with_completed f n finished) cs (set ps op.chan.number (with_slot p op.kind None)) o sh l r r'
kept-completed {f} {cs} {ps} {o} {r} {r'} {sh} {l} n op finished p kept is is_pending_op read other =
    let made = pending-made n op kept is is_pending_op in
    let is_slot : p ≡ get_or ps op.chan.number nothing_pending = get_or_read ps op.chan.number p made.1 read nothing_pending in
    let lawful = lawful-completed (group_of f cs sh l) n op finished kept.lawful is is_pending_op other in
    let was_opened = kept.opened_is in
    rw (completed-is f n op finished is, is_slot)
    (record {
      lawful = lawful;
      fit = kept.fit;
      same_limit = kept.same_limit;
      opened_is = kept.opened_is;
      slots = length-set ps op.chan.number (with_slot (get_or ps op.chan.number nothing_pending) op.kind None) ∙ kept.slots;
      is_listed = listed-completed f ps n op finished kept.is_listed is is_pending_op made.1;
      are_counted = counted-completed f cs cs ps n op finished is made.1 (λ d. refl) kept.are_counted;
      has_room = kept.has_room;
      has_slots_room = kept.has_slots_room;
    })

pub kept-connected : {f : Flight} {cs : List Channel} {ps : List slots.Pending} {o r r' : ℕ} {sh : Bool}
    {l : GroupLimits} (n : ℕ) (op : Operation) (finished : Finished) (p : slots.Pending) (ch : Channel) (o' : ℕ)
    → IsGroupKept f cs ps o sh l r r' → op_at f n ≡ Some op → is_pending (Some op) ≡ true → p ≡ get_or ps op.chan.number p
    → op.kind ≡ Connect → (ch.is_open ≡ true → ch.endpoint ≡ Stream Connecting → ⊥)
    → ch.serial ≡ (get_or cs op.chan.number no_channel).serial → o' + 1 ≡ o + cond (is_open ch) 1 0
    → IsGroupKept (with_completed f n finished) (set cs op.chan.number ch) (set ps op.chan.number (with_slot p op.kind None)) o'
    sh l r r'
kept-connected {f} {cs} {ps} {o} {r} {r'} {sh} {l} n op finished p ch o' kept is is_pending_op read connect
    not_connecting same counted =
    let made = pending-made n op kept is is_pending_op in
    let is_slot : p ≡ get_or ps op.chan.number nothing_pending = get_or_read ps op.chan.number p made.1 read nothing_pending in
    let lawful = lawful-connected
    (group_of f cs sh l) n op finished ch kept.lawful is is_pending_op connect not_connecting same in
    let was_one : cond (is_open (get_or cs op.chan.number no_channel)) 1 0 ≡ 1 = ap {B = ℕ}
    (λ (b : Bool). cond b 1 0) made.2 in
    rw (completed-is f n op finished is, is_slot)
    (kept-channel (completed_flight f n op finished) op.chan.number ch
    (with_slot (get_or ps op.chan.number nothing_pending) op.kind None) o' kept made.0 lawful refl
    (ap (λ (k : ℕ). o' + k) was_one ∙ counted)
    (listed-completed f ps n op finished kept.is_listed is is_pending_op made.1)
    (counted-completed f cs (set cs op.chan.number ch) ps n op finished is made.1
    (λ d. name-set cs op.chan.number ch d made.0 same) kept.are_counted))

-- some channel is open where an operation is pending
pub some-open : {f : Flight} {cs : List Channel} {ps : List slots.Pending} {o r r' : ℕ} {sh : Bool} {l : GroupLimits}
    (n : ℕ) (op : Operation)
    → IsGroupKept f cs ps o sh l r r' → op_at f n ≡ Some op → is_pending (Some op) ≡ true → 1 ≤ o
some-open {f} {cs} n op kept is is_pending_op =
    let made = pending-made n op kept is is_pending_op in
    let was_one : cond (is_open (get_or cs op.chan.number no_channel)) 1 0 ≡ 1 = ap {B = ℕ}
    (λ (b : Bool). cond b 1 0) made.2 in
    let counts = count_by-set is_open cs op.chan.number no_channel no_channel made.0 in
    let counted = kept.opened_is in
    omega (arith, counts, was_one)

-- a connection that was accepted has a name
pub accepted-named : (g : Group) (o : Outcome) (x : GChan) → result_of g o ≡ done.Accepted x
    → (o ≡ outcome.Accepted) × (accepted_name g o ≡ Some x)
accepted-named g (outcome.Count k) x h = cc
accepted-named g outcome.End x h = cc
accepted-named g outcome.Connected x h = cc
accepted-named g outcome.Fault x h = cc
accepted-named g outcome.Accepted x h = (refl, by_shut g.is_shut h)
  where
    failed : (w : Why) (y : GChan) → done.Failed w ≡ done.Accepted y → ⊥
    failed w y e = cc

    by_name : (name : Option GChan) → accepted_or_spent name ≡ done.Accepted x → name ≡ Some x
    by_name None e = absurd (failed _ x e)
    by_name (Some y) e = cc

    by_shut : (shut : Bool)
        → cond shut (done.Failed why.ShutdownGroup) (accepted_or_spent (next_name g gkind.Stream)) ≡ done.Accepted x
        → cond shut None (next_name g gkind.Stream) ≡ Some x
    by_shut true e = absurd (failed _ x e)
    by_shut false e = by_name (next_name g gkind.Stream) e

-- and where the result names none, none is made
pub accepted-none : (g : Group) (o : Outcome) → ((x : GChan) → result_of g o ≡ done.Accepted x → ⊥)
    → accepted_name g o ≡ None
accepted-none g (outcome.Count k) h = refl
accepted-none g outcome.End h = refl
accepted-none g outcome.Connected h = refl
accepted-none g outcome.Fault h = refl
accepted-none g outcome.Accepted h = by_shut g.is_shut h
  where
    by_name : (name : Option GChan) → ((x : GChan) → accepted_or_spent name ≡ done.Accepted x → ⊥) → name ≡ None
    by_name None e = refl
    by_name (Some y) e = absurd (e y refl)

    by_shut : (shut : Bool)
        → ((x : GChan)
        → cond shut (done.Failed why.ShutdownGroup) (accepted_or_spent (next_name g gkind.Stream)) ≡ done.Accepted x
        → ⊥)
        → cond shut None (next_name g gkind.Stream) ≡ None
    by_shut true e = refl
    by_shut false e = by_name (next_name g gkind.Stream) e

-- as many operations of a channel are in flight once one has completed
on-completed : (f : Flight) (n : ℕ) (op : Operation) (finished : Finished) (chan : GChan) → op_at f n ≡ Some op
    → in_flight_on (with_completed f n finished) chan ≡ in_flight_on f chan
on-completed f n op finished chan is =
    ap (λ (x : Flight). in_flight_on x chan) (completed-is f n op finished is)
    ∙ count-same chan f.operations n (Some (at_stage (Queued finished) op)) (some-within f.operations n op is)
    (sym (ap (is_on chan) is))

back-completed : (f f' : Flight) (kind : GKind) (c : ℕ) (cs : List Channel)
    → ((chan : GChan) → in_flight_on f' chan ≡ in_flight_on f chan) → first_back f' kind c cs ≡ first_back f kind c cs
back-completed f f' kind c [] same = refl
back-completed f f' kind c (channel ∷ rest) same =
    rw (same (record { number = c; serial = channel.serial }), back-completed f f' kind (c + 1) rest same) refl

-- the name of the next channel doesn't depend on the stages of operations
pub name-completed : (g : Group) (n : ℕ) (o : Outcome) (op : Operation) (chan : GChan) → op_at g.flight n ≡ Some op
    → accepted_name g o ≡ Some chan → next_name (completed g n o (result_of g o) op) gkind.Stream ≡ Some chan
name-completed g n (outcome.Count k) op chan is h = absurd (none-some chan h)
name-completed g n outcome.End op chan is h = absurd (none-some chan h)
name-completed g n outcome.Connected op chan is h = absurd (none-some chan h)
name-completed g n outcome.Fault op chan is h = absurd (none-some chan h)
name-completed g n outcome.Accepted op chan is h =
    let f' = with_completed g.flight n (result_of g outcome.Accepted) in
    let same = back-completed g.flight f' gkind.Stream 0 g.channels
    (λ named. on-completed g.flight n op (result_of g outcome.Accepted) named is) in
    by_test g.is_shut
    (λ t. absurd (none-some chan (rw t at h)))
    (λ e. rw same (rw e at h))
