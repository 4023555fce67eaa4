-- Numbers that come back: what each call makes of a channel, and what is left of an old name.
use Rattle.std.proofs.Common.{◌≡◌, ℕ, ◌+◌, ◌<◌, ◌≤◌, zero, suc, Bool, true, false, cond, eqb, leb, ltb, ◌&&◌, List, [], ◌∷◌, Option}
use Rattle.std.proofs.Common.{Some, None, get_or, set, length, refl, sym, ap, ◌∙◌, subst, arith, ◌⊎◌, inl, inr}
use Rattle.std.proofs.lemmas.Bool.{false≢true, and_parts, eqb-true, eqb-false, leb-true, ltb-true, ne_eqb}
use Rattle.std.proofs.lemmas.List.{get_or_append_left, length-set, length_push}
use Rattle.std.proofs.lemmas.Option.{none-some}
use Rattle.nio_base.specs.declared.numbers.GChan.{GChan}
use Rattle.nio_base.specs.declared.group.GKind.{GKind}
use Rattle.nio_base.specs.declared.group.GKind.TheVariants as gkind
use Rattle.nio_base.specs.declared.group.OpKind.{OpKind}
use Rattle.nio_base.specs.declared.group.OpKind.TheVariants.{Accept, Connect, Read, Write}
use Rattle.nio_base.specs.declared.group.Outcome.{Outcome}
use Rattle.nio_base.specs.declared.group.Outcome.TheVariants as outcome
use Rattle.nio_group.specs.declared.channel.Channel.{Channel}
use Rattle.nio_group.specs.declared.channel.Endpoint.{Endpoint}
use Rattle.nio_group.specs.declared.channel.Endpoint.TheVariants.{Stream, Listener}
use Rattle.nio_group.specs.declared.channel.Link.TheVariants.{Unconnected, Connecting, Connected}
use Rattle.nio_group.specs.declared.operation.Operation.{Operation}
use Rattle.nio_group.specs.Flight.{op_at, IsPendingAs, with_channel_closed}
use Rattle.nio_group.specs.Group.{Group, IsLawful, IsMade, is_made, channel_at, no_channel, new_channel, new_endpoint, is_open, is_present}
use Rattle.nio_group.specs.Making.{is_of_kind, next_name, put_channel, with_made}
use Rattle.nio_group.specs.Refusals.{bind_refusal, channel_refusal, start_refusal, report_refusal, is_allowed, has_pending}
use Rattle.nio_group.specs.Run.{Call, open_channel, bind, start, report, take, finish, close_channel, shutdown}
use Rattle.nio_group.specs.Run.{shutdown_now, IsCallOf, after, StaysChannel, IsSucceeded, NumbersComeBack, IsOld, IsOn}
use Rattle.nio_group.specs.Run.{OldNamesAreClosed, MadeStays}
use Rattle.nio_group.specs.Stages.{is_on, is_pending, stage_is_pending, is_running}
use Rattle.nio_group.specs.Steps.{kept_if_refused, started, reported, completed, result_of, accepted_name, with_endpoint}
use Rattle.nio_group.specs.Steps.{with_closed, after_close, after_closing, after_shutdown, closed_below, finish_refusal}
use Rattle.nio_group.specs.Steps.{channels_after_start, channels_after_report}
use Rattle.nio_group.proofs.ListLemmas.{get_or-set}
use Rattle.nio_group.proofs.MakingLemmas.{IsFirst, IsAgain, next-is, put-first, put-again}
use Rattle.nio_group.proofs.NameLemmas.{on-parts}
use Rattle.nio_group.proofs.PendingLemmas.{pending-own}
use Rattle.nio_group.proofs.ReportLemmas.{report-allowed, connected-connect, ready-connect}
use Rattle.nio_group.proofs.RestLemmas.{bind-refused}
use Rattle.nio_group.proofs.RunLemmas.{unless-refused, cond-holds, bindable, closed-same, started_as}
use Rattle.nio_group.proofs.LawfulLemmas.{open-within}
use Rattle.nio_group.proofs.StartLemmas.{startable, some_none, open-parts, IsStartable}
use Rattle.nio_group.proofs.TableLemmas.{by_test}

-- ---- a channel that stays

stays-same : (ch : Channel) → StaysChannel ch ch
stays-same ch = record { serial = refl; kind = λ kind. refl; closed = λ c. refl }

stays-trans : (a b c : Channel) → StaysChannel a b → StaysChannel b c → StaysChannel a c
stays-trans a b c first second =
    record {
      serial = second.serial ∙ first.serial;
      kind = λ kind. second.kind kind ∙ first.kind kind;
      closed = λ closed.
          let same = first.closed closed in
          second.closed (ap (λ (x : Channel). x.is_open) same ∙ closed) ∙ same;
    }

-- an open channel changes
stays-open : (ch next : Channel) → ch.is_open ≡ true → next.serial ≡ ch.serial
    → ((kind : GKind) → is_of_kind kind next.endpoint ≡ is_of_kind kind ch.endpoint) → StaysChannel ch next
stays-open ch next opened serial kind =
    record { serial = serial; kind = kind; closed = λ closed. absurd (false≢true (sym closed ∙ opened)) }

-- one channel changes
stays-set : (cs : List Channel) (d : ℕ) (ch : Channel) (c : ℕ) → d < length cs
    → StaysChannel (get_or cs d no_channel) ch → StaysChannel (get_or cs c no_channel) (get_or (set cs d ch) c no_channel)
stays-set cs d ch c l stays =
    let has = get_or-set cs d ch no_channel c l in
    by_test (eqb c d)
    (λ t.
    let put : get_or (set cs d ch) c no_channel ≡ ch = rw t at has in
    rw put (subst (λ (k : ℕ). StaysChannel (get_or cs k no_channel) ch) (sym (eqb-true c d t)) stays))
    (λ f.
    let put : get_or (set cs d ch) c no_channel ≡ get_or cs c no_channel = rw f at has in
    rw put (stays-same (get_or cs c no_channel)))

-- ---- a channel that is made

kind-same : (kind : GKind) (a b : Endpoint) → is_of_kind kind a ≡ true → is_of_kind kind b ≡ true → (k : GKind)
    → is_of_kind k a ≡ is_of_kind k b
kind-same gkind.Stream (Stream x) (Stream y) of of' gkind.Stream = refl
kind-same gkind.Stream (Stream x) (Stream y) of of' gkind.Listener = refl
kind-same gkind.Stream (Stream x) (Listener y) of of' k = absurd (false≢true of')
kind-same gkind.Stream (Listener x) b of of' k = absurd (false≢true of)
kind-same gkind.Listener (Listener x) (Listener y) of of' gkind.Stream = refl
kind-same gkind.Listener (Listener x) (Listener y) of of' gkind.Listener = refl
kind-same gkind.Listener (Listener x) (Stream y) of of' k = absurd (false≢true of')
kind-same gkind.Listener (Stream x) b of of' k = absurd (false≢true of)

abbrev Follows : Group → ℕ → Channel → Type 0
Follows g c next = StaysChannel (channel_at g c) next ⊎ IsSucceeded g c next

follows-next : (g : Group) (c : ℕ) (kind : GKind) (chan : GChan) (endpoint : Endpoint) → IsLawful g
    → c < length g.channels → next_name g kind ≡ Some chan → is_of_kind kind endpoint ≡ true
    → Follows g c (get_or (put_channel g.channels chan (new_channel chan endpoint)) c no_channel)
follows-next g c kind chan endpoint lawful within is_named of_kind =
    let cs = g.channels in
    let ch = new_channel chan endpoint in
    let P : List Channel → Type 0 = λ xs. Follows g c (get_or xs c no_channel) in
    elim (next-is g kind chan lawful.few_channels is_named) [
      | inl first ↦ subst P (sym (put-first cs chan ch first.number))
          (subst (Follows g c) (sym (get_or_append_left cs (ch ∷ []) no_channel c within))
          (inl (stays-same (channel_at g c))))
      | inr again ↦
          let has = get_or-set cs chan.number ch no_channel c again.within in
          subst P (sym (put-again cs chan ch again.within))
          (by_test (eqb c chan.number)
          (λ t.
          let put : get_or (set cs chan.number ch) c no_channel ≡ ch = rw t at has in
          let back : IsSucceeded g chan.number ch =
          record {
            was_closed = again.back.was_closed;
            none_in_flight = again.back.none_in_flight;
            serial = again.serial;
            kind = kind-same kind endpoint (channel_at g chan.number).endpoint of_kind again.back.of_kind;
            opened = refl;
          } in
          subst (Follows g c) (sym put)
          (inr (subst (λ (k : ℕ). IsSucceeded g k ch) (sym (eqb-true c chan.number t)) back)))
          (λ f.
          let put : get_or (set cs chan.number ch) c no_channel ≡ get_or cs c no_channel = rw f at has in
          subst (Follows g c) (sym put) (inl (stays-same (channel_at g c)))))
    ]

new-of_kind : (kind : GKind) → is_of_kind kind (new_endpoint kind) ≡ true
new-of_kind gkind.Stream = refl
new-of_kind gkind.Listener = refl

follows-made : (g : Group) (c : ℕ) (kind : GKind) (name : Option GChan) (endpoint : Endpoint) → IsLawful g
    → c < length g.channels → next_name g kind ≡ name → is_of_kind kind endpoint ≡ true
    → Follows g c (channel_at (with_made g name endpoint) c)
follows-made g c kind None endpoint lawful within is_named of_kind = inl (stays-same (channel_at g c))
follows-made g c kind (Some chan) endpoint lawful within is_named of_kind =
    follows-next g c kind chan endpoint lawful within is_named of_kind

-- ---- each call

opened-bind : (opened : Bool) (e : Endpoint) → bind_refusal opened e ≡ None → opened ≡ true
opened-bind true e free = refl
opened-bind false e free = absurd (bind-refused false e refl free)

stays-bind : (g : Group) (chan : GChan) (c : ℕ) → chan.number < length g.channels
    → bind_refusal (is_open g chan) (channel_at g chan.number).endpoint ≡ None
    → StaysChannel (channel_at g c) (channel_at (with_endpoint g chan.number (Listener true)) c)
stays-bind g chan c within free =
    let old = channel_at g chan.number in
    let opened = open-parts g chan (opened-bind (is_open g chan) old.endpoint free) in
    let unbound = bindable (is_open g chan) old.endpoint free in
    stays-set g.channels chan.number (record old { endpoint = Listener true }) c within
    (stays-open old (record old { endpoint = Listener true }) opened.1 refl
    (λ kind. kind-of kind ∙ sym (ap (is_of_kind kind) unbound)))
  where
    kind-of : (kind : GKind) → is_of_kind kind (Listener true) ≡ is_of_kind kind (Listener false)
    kind-of gkind.Stream = refl
    kind-of gkind.Listener = refl

connectable : (e : Endpoint) (pending : Bool) → channel_refusal true e pending Connect ≡ None → e ≡ Stream Unconnected
connectable (Listener bound) pending h = absurd (some_none _ h)
connectable (Stream Unconnected) pending h = refl
connectable (Stream Connecting) pending h = absurd (some_none _ h)
connectable (Stream Connected) pending h = absurd (some_none _ h)

stream-kind : (kind : GKind) (e : Endpoint) → is_of_kind gkind.Stream e ≡ true
    → is_of_kind kind (Stream Connected) ≡ is_of_kind kind e
stream-kind kind e of = kind-same gkind.Stream (Stream Connected) e refl of kind

stream-connecting : (kind : GKind) → is_of_kind kind (Stream Connecting) ≡ is_of_kind kind (Stream Unconnected)
stream-connecting gkind.Stream = refl
stream-connecting gkind.Listener = refl

stays-connect : (g : Group) (chan : GChan) (c : ℕ) → chan.number < length g.channels → is_open g chan ≡ true
    → IsStartable g chan Connect
    → StaysChannel (channel_at g c) (channel_at (with_endpoint g chan.number (Stream Connecting)) c)
stays-connect g chan c within opened facts =
    let old = channel_at g chan.number in
    let was = connectable old.endpoint (has_pending g.flight chan.number Connect) (rw opened at facts.channel) in
    stays-set g.channels chan.number (record old { endpoint = Stream Connecting }) c within
    (stays-open old (record old { endpoint = Stream Connecting }) (open-parts g chan opened).1 refl
    (λ kind. stream-connecting kind ∙ sym (ap (is_of_kind kind) was)))

stays-started : (g : Group) (chan : GChan) (kind : OpKind) (len : ℕ) (c : ℕ) (opened : Bool)
    → chan.number < length g.channels → is_open g chan ≡ opened → IsStartable g chan kind
    → StaysChannel (channel_at g c) (channel_at (started_as g chan kind len opened) c)
stays-started g chan kind len c false within is facts =
    subst (λ (h : Group). StaysChannel (channel_at g c) (channel_at h c)) (sym (closed-same g chan.number kind))
    (stays-same (channel_at g c))
stays-started g chan Accept len c true within is facts = stays-same (channel_at g c)
stays-started g chan Connect len c true within is facts = stays-connect g chan c within is facts
stays-started g chan Read len c true within is facts = stays-same (channel_at g c)
stays-started g chan Write len c true within is facts = stays-same (channel_at g c)

-- the channel of a pending operation is open
pending-opened : (g : Group) (n : ℕ) (op : Operation) → IsLawful g → op_at g.flight n ≡ Some op
    → is_pending (Some op) ≡ true
    → ((channel_at g op.chan.number).is_open ≡ true) × (op.chan.number < length g.channels)
    × IsPendingAs g.flight op.chan.number op.kind n
pending-opened g n op lawful is pending =
    let own : IsPendingAs g.flight op.chan.number op.kind n = rw is (pending-own op pending) in
    let opened = lawful.pending_open n op.chan.number op.kind own in
    (opened, open-within g.channels op.chan.number opened, own)

stays-closed : (g : Group) (d c : ℕ) → (channel_at g d).is_open ≡ true
    → StaysChannel (channel_at g c) (channel_at (with_closed g d) c)
stays-closed g d c opened =
    stays-set g.channels d (record (channel_at g d) { is_open = false }) c (open-within g.channels d opened)
    (stays-open (channel_at g d) (record (channel_at g d) { is_open = false }) opened refl (λ kind. refl))

follows-reported : (g : Group) (n : ℕ) (o : Outcome) (op : Operation) (c : ℕ) → IsLawful g → c < length g.channels
    → op_at g.flight n ≡ Some op → is_pending (Some op) ≡ true → is_allowed op.kind op.len o ≡ true
    → Follows g c (channel_at (reported g n o (Some op)) c)
follows-reported g n (outcome.Count k) op c lawful within is pending allow = inl (stays-same (channel_at g c))
follows-reported g n outcome.End op c lawful within is pending allow = inl (stays-same (channel_at g c))
follows-reported g n outcome.Connected op c lawful within is pending allow =
    let old = channel_at g op.chan.number in
    let facts = pending-opened g n op lawful is pending in
    let connect = connected-connect op.kind op.len allow in
    let own : IsPendingAs g.flight op.chan.number Connect n = subst
    (λ (k : OpKind). IsPendingAs g.flight op.chan.number k n) connect facts.2 in
    let was = ready-connect old.endpoint (lawful.pending_ready n op.chan.number Connect own) in
    inl (stays-set g.channels op.chan.number (record old { endpoint = Stream Connected }) c facts.1
    (stays-open old (record old { endpoint = Stream Connected }) facts.0 refl
    (λ kind. stream-kind kind old.endpoint (ap (is_of_kind gkind.Stream) was))))
follows-reported g n outcome.Accepted op c lawful within is pending allow =
    follows-as (accepted_name g outcome.Accepted)
    (λ chan is_named.
    by_test g.is_shut (λ t. absurd (none-some chan (rw t at is_named))) (λ f. rw f at is_named))
  where
    follows-as : (name : Option GChan) → ((chan : GChan) → name ≡ Some chan → next_name g gkind.Stream ≡ Some chan)
        → Follows g c
        (channel_at (with_made (completed g n outcome.Accepted (result_of g outcome.Accepted) op) name
        (Stream Connected)) c)
    follows-as None is_named = inl (stays-same (channel_at g c))
    follows-as (Some chan) is_named =
        follows-next g c gkind.Stream chan (Stream Connected) lawful within (is_named chan refl) refl
follows-reported g n outcome.Fault op c lawful within is pending allow = by_kind op.kind
  where
    by_kind : (kind : OpKind)
        → Follows g c (channel_at (completed g n outcome.Fault (result_of g outcome.Fault) (record op { kind = kind })) c)
    by_kind Accept = inl (stays-same (channel_at g c))
    by_kind Connect = inl (stays-closed g op.chan.number c (pending-opened g n op lawful is pending).0)
    by_kind Read = inl (stays-same (channel_at g c))
    by_kind Write = inl (stays-same (channel_at g c))

follows-report : (g : Group) (n : ℕ) (o : Outcome) (c : ℕ) → IsLawful g → c < length g.channels
    → (slot : Option Operation) → op_at g.flight n ≡ slot
    → Follows g c (channel_at (kept_if_refused (report_refusal slot o) g (reported g n o slot)) c)
follows-report g n o c lawful within None is = inl (stays-same (channel_at g c))
follows-report g n o c lawful within (Some op) is =
    unless-refused (λ (h : Group). Follows g c (channel_at h c)) (report_refusal (Some op) o) g
    (reported g n o (Some op)) (inl (stays-same (channel_at g c)))
    (λ free.
    let facts = report-allowed op o free in
    follows-reported g n o op c lawful within is facts.0 facts.1)

stays-closing : (g : Group) (d c : ℕ) → StaysChannel (channel_at g c) (channel_at (after_closing g d) c)
stays-closing g d c =
    cond-holds (λ (h : Group). StaysChannel (channel_at g c) (channel_at h c)) (channel_at g d).is_open
    (record (with_closed g d) { flight = with_channel_closed g.flight d }) g
    (λ t. stays-closed g d c t)
    (λ f. stays-same (channel_at g c))

stays-closed_below : (d : ℕ) (g : Group) (c : ℕ) → StaysChannel (channel_at g c) (channel_at (closed_below d g) c)
stays-closed_below zero g c = stays-same (channel_at g c)
stays-closed_below (suc d) g c =
    stays-trans (channel_at g c) (channel_at (closed_below d g) c) (channel_at (after_closing (closed_below d g) d) c)
    (stays-closed_below d g c) (stays-closing (closed_below d g) d c)

pub numbers-come-back : NumbersComeBack
numbers-come-back g (open_channel kind) c lawful made within =
    cond-holds (λ (h : Group). Follows g c (channel_at h c)) g.is_shut g
    (with_made g (next_name g kind) (new_endpoint kind))
    (λ shut. inl (stays-same (channel_at g c)))
    (λ going. follows-made g c kind (next_name g kind) (new_endpoint kind) lawful within refl (new-of_kind kind))
numbers-come-back g (bind chan) c lawful made within =
    unless-refused (λ (h : Group). Follows g c (channel_at h c))
    (bind_refusal (is_open g chan) (channel_at g chan.number).endpoint) g
    (with_endpoint g chan.number (Listener true)) (inl (stays-same (channel_at g c)))
    (λ free. inl (stays-bind g chan c made.0 free))
numbers-come-back g (start chan kind len) c lawful made within =
    unless-refused (λ (h : Group). Follows g c (channel_at h c)) (start_refusal g chan kind) g
    (started g chan kind len) (inl (stays-same (channel_at g c)))
    (λ free. inl (stays-started g chan kind len c (is_open g chan) made.0 refl (startable g chan kind lawful free)))
numbers-come-back g (report op o) c lawful made within =
    follows-report g op.0 o c lawful within (op_at g.flight op.0) refl
numbers-come-back g take c lawful made within = inl (stays-same (channel_at g c))
numbers-come-back g (finish op) c lawful made within =
    unless-refused (λ (h : Group). Follows g c (channel_at h c)) (finish_refusal (is_running (op_at g.flight op.0))) g _
    (inl (stays-same (channel_at g c)))
    (λ free. inl (stays-same (channel_at g c)))
numbers-come-back g (close_channel chan) c lawful made within =
    cond-holds (λ (h : Group). Follows g c (channel_at h c)) (is_present g chan) (after_closing g chan.number) g
    (λ t. inl (stays-closing g chan.number c))
    (λ f. inl (stays-same (channel_at g c)))
numbers-come-back g shutdown c lawful made within = inl (stays-same (channel_at g c))
numbers-come-back g shutdown_now c lawful made within =
    inl (stays-closed_below (length g.channels) (after_shutdown g) c)

-- ---- numbers stay given

longer-set : (cs : List Channel) (d : ℕ) (ch : Channel) → length cs ≤ length (set cs d ch)
longer-set cs d ch = omega (arith, length-set cs d ch)

longer-made : (g : Group) (name : Option GChan) (endpoint : Endpoint)
    → length g.channels ≤ length (with_made g name endpoint).channels
longer-made g None endpoint = omega arith
longer-made g (Some chan) endpoint =
    let ch = new_channel chan endpoint in
    by_test (eqb chan.number (length g.channels))
    (λ t. rw t (omega (arith, length_push g.channels ch)))
    (λ f. rw f (longer-set g.channels chan.number ch))

longer-started : (g : Group) (chan : GChan) (kind : OpKind) (len : ℕ) (opened : Bool)
    → length g.channels ≤ length (started_as g chan kind len opened).channels
longer-started g chan Accept len opened = omega arith
longer-started g chan Connect len true = longer-set g.channels chan.number _
longer-started g chan Connect len false = omega arith
longer-started g chan Read len opened = omega arith
longer-started g chan Write len opened = omega arith

longer-report : (g : Group) (c : ℕ) (kind : OpKind) (o : Outcome)
    → length g.channels ≤ length (channels_after_report g c kind o).channels
longer-report g c kind (outcome.Count k) = omega arith
longer-report g c kind outcome.End = omega arith
longer-report g c kind outcome.Connected = longer-set g.channels c _
longer-report g c kind outcome.Accepted = omega arith
longer-report g c Accept outcome.Fault = omega arith
longer-report g c Connect outcome.Fault = longer-set g.channels c _
longer-report g c Read outcome.Fault = omega arith
longer-report g c Write outcome.Fault = omega arith

longer-reported : (g : Group) (n : ℕ) (o : Outcome) (slot : Option Operation)
    → length g.channels ≤ length (reported g n o slot).channels
longer-reported g n o None = omega arith
longer-reported g n o (Some op) =
    let own = longer-report g op.chan.number op.kind o in
    let made = longer-made (completed g n o (result_of g o) op) (accepted_name g o) (Stream Connected) in
    omega (arith, own, made)

longer-closing : (g : Group) (d : ℕ) → length g.channels ≤ length (after_closing g d).channels
longer-closing g d =
    cond-holds (λ (h : Group). length g.channels ≤ length h.channels) (channel_at g d).is_open
    (record (with_closed g d) { flight = with_channel_closed g.flight d }) g
    (λ t. longer-set g.channels d (record (channel_at g d) { is_open = false }))
    (λ f. omega arith)

longer-closed_below : (d : ℕ) (g : Group) → length g.channels ≤ length (closed_below d g).channels
longer-closed_below zero g = omega arith
longer-closed_below (suc d) g =
    let before = longer-closed_below d g in
    let here = longer-closing (closed_below d g) d in
    omega (arith, before, here)

pub longer-after : (g : Group) (call : Call) → length g.channels ≤ length (after g call).channels
longer-after g (open_channel kind) =
    cond-holds (λ (h : Group). length g.channels ≤ length h.channels) g.is_shut g
    (with_made g (next_name g kind) (new_endpoint kind)) (λ shut. omega arith)
    (λ going. longer-made g (next_name g kind) (new_endpoint kind))
longer-after g (bind chan) =
    unless-refused (λ (h : Group). length g.channels ≤ length h.channels)
    (bind_refusal (is_open g chan) (channel_at g chan.number).endpoint) g
    (with_endpoint g chan.number (Listener true)) (omega arith) (λ free. longer-set g.channels chan.number _)
longer-after g (start chan kind len) =
    unless-refused (λ (h : Group). length g.channels ≤ length h.channels) (start_refusal g chan kind) g
    (started g chan kind len) (omega arith) (λ free. longer-started g chan kind len (is_open g chan))
longer-after g (report op o) =
    unless-refused (λ (h : Group). length g.channels ≤ length h.channels) (report_refusal (op_at g.flight op.0) o) g
    (reported g op.0 o (op_at g.flight op.0)) (omega arith) (λ free. longer-reported g op.0 o (op_at g.flight op.0))
longer-after g take = omega arith
longer-after g (finish op) =
    unless-refused (λ (h : Group). length g.channels ≤ length h.channels)
    (finish_refusal (is_running (op_at g.flight op.0))) g _ (omega arith) (λ free. omega arith)
longer-after g (close_channel chan) =
    cond-holds (λ (h : Group). length g.channels ≤ length h.channels) (is_present g chan) (after_closing g chan.number) g
    (λ t. longer-closing g chan.number)
    (λ f. omega arith)
longer-after g shutdown = omega arith
longer-after g shutdown_now = longer-closed_below (length g.channels) (after_shutdown g)

pub made-stays : MadeStays
made-stays g call lawful of chan made =
    let longer = longer-after g call in
    let was = made.1 in (
      omega (arith, longer, made.0),
      elim (numbers-come-back g call chan.number lawful of made.0) [
        | inl stays ↦ let serial = stays.serial in omega (arith, serial, was)
        | inr next ↦ let serial = next.serial in omega (arith, serial, was)
      ],
    )

-- what a test for a name finds
pub made-so : (g : Group) (chan : GChan) → is_made g chan ≡ true → IsMade g chan
made-so g chan so =
    let parts = and_parts (ltb chan.number (length g.channels)) (leb chan.serial (channel_at g chan.number).serial) so in (
      ltb-true chan.number (length g.channels) parts.0,
      leb-true chan.serial (channel_at g chan.number).serial parts.1,
    )

-- ---- old names

old-absent : (g : Group) (chan : GChan) → IsOld g chan → is_present g chan ≡ false
old-absent g chan old =
    let above = old.serial in
    ne_eqb (channel_at g chan.number).serial chan.serial (λ e. let never : ⊥ = omega arith in never)

old-closed : (g : Group) (chan : GChan) → IsOld g chan → is_open g chan ≡ false
old-closed g chan old = rw (old-absent g chan old) refl

old-not_pending : (g : Group) (chan : GChan) → IsLawful g → IsOld g chan → (n : ℕ) (slot : Option Operation)
    → op_at g.flight n ≡ slot → is_on chan slot ≡ true → is_pending slot ≡ false
old-not_pending g chan lawful old n None is on = refl
old-not_pending g chan lawful old n (Some op) is on =
    by_test (is_pending (Some op))
    (λ t.
    let parts = on-parts chan op on in
    let present = eqb-true (channel_at g op.chan.number).serial op.chan.serial (lawful.present n op is t) in
    let there : (channel_at g chan.number).serial ≡ op.chan.serial = subst
    (λ (k : ℕ). (channel_at g k).serial ≡ op.chan.serial) (sym parts.0) present in
    let above = old.serial in
    let same = parts.1 in
    absurd (let never : ⊥ = omega arith in never))
    (λ f. f)

abbrev Keeps : Group → Group → Type 0
Keeps g h = h.channels ≡ g.channels

old-bind : (g : Group) (chan named : GChan) → IsOld g chan → named ≡ chan → Keeps g (after g (bind named))
old-bind g chan named old same =
    let closed : is_open g named ≡ false = ap (is_open g) same ∙ old-closed g chan old in
    unless-refused (Keeps g) (bind_refusal (is_open g named) (channel_at g named.number).endpoint) g _ refl
    (λ free. absurd (bind-refused (is_open g named) (channel_at g named.number).endpoint closed free))

old-start : (g : Group) (chan named : GChan) (kind : OpKind) (len : ℕ) → IsOld g chan → named ≡ chan
    → Keeps g (after g (start named kind len))
old-start g chan named kind len old same =
    let closed : is_open g named ≡ false = ap (is_open g) same ∙ old-closed g chan old in
    unless-refused (Keeps g) (start_refusal g named kind) g (started g named kind len) refl
    (λ free.
    ap (λ (b : Bool). (channels_after_start g named.number kind b).channels) closed
    ∙ ap (λ (h : Group). h.channels) (closed-same g named.number kind))

old-report : (g : Group) (chan : GChan) (n : ℕ) (o : Outcome) → IsLawful g → IsOld g chan → (slot : Option Operation)
    → op_at g.flight n ≡ slot → is_on chan slot ≡ true
    → Keeps g (kept_if_refused (report_refusal slot o) g (reported g n o slot))
old-report g chan n o lawful old None is on = refl
old-report g chan n o lawful old (Some op) is on =
    unless-refused (Keeps g) (report_refusal (Some op) o) g (reported g n o (Some op)) refl
    (λ free. absurd
    (false≢true (sym (old-not_pending g chan lawful old n (Some op) is on) ∙ (report-allowed op o free).0)))

old-changes : (g : Group) (chan : GChan) → IsLawful g → IsOld g chan → (call : Call) → IsOn g chan call
    → Keeps g (after g call)
old-changes g chan lawful old (open_channel kind) on = absurd on
old-changes g chan lawful old (bind named) on = old-bind g chan named old on
old-changes g chan lawful old (start named kind len) on = old-start g chan named kind len old on
old-changes g chan lawful old (report op o) on =
    old-report g chan op.0 o lawful old (op_at g.flight op.0) refl on
old-changes g chan lawful old take on = refl
old-changes g chan lawful old (finish op) on =
    unless-refused (Keeps g) (finish_refusal (is_running (op_at g.flight op.0))) g _ refl (λ free. refl)
old-changes g chan lawful old (close_channel named) on =
    let absent : is_present g named ≡ false = ap (is_present g) on ∙ old-absent g chan old in
    rw absent refl
old-changes g chan lawful old shutdown on = absurd on
old-changes g chan lawful old shutdown_now on = absurd on

pub old-names-closed : OldNamesAreClosed
old-names-closed g chan lawful old =
    record {
      closed = old-closed g chan old;
      none_pending = λ n on. old-not_pending g chan lawful old n (op_at g.flight n) refl on;
      changes_none = old-changes g chan lawful old;
    }
