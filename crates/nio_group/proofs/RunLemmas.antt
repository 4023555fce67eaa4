-- Each call keeps a group lawful.
use Rattle.std.proofs.Common.{◌≡◌, ℕ, ◌<◌, zero, suc, Bool, true, false, cond, eqb, List, [], ◌∷◌, ◌++◌, Option, Some}
use Rattle.std.proofs.Common.{None, length, get_or, set, refl, sym, ap, ◌∙◌, subst, arith}
use Rattle.std.proofs.lemmas.Bool.{false≢true, eqb-false}
use Rattle.std.proofs.lemmas.List.{set-get_or, get_or_read, length-set}
use Rattle.nio_base.specs.declared.numbers.GChan.{GChan}
use Rattle.nio_base.specs.declared.group.GKind.{GKind}
use Rattle.nio_base.specs.declared.group.GKind.TheVariants as gkind
use Rattle.nio_group.specs.declared.channel.Channel.{Channel}
use Rattle.nio_group.specs.declared.channel.Endpoint.{Endpoint}
use Rattle.nio_group.specs.declared.channel.Endpoint.TheVariants.{Stream, Listener}
use Rattle.nio_group.specs.declared.channel.Link.TheVariants.{Connecting, Connected}
use Rattle.nio_base.specs.declared.group.OpKind.{OpKind}
use Rattle.nio_base.specs.declared.group.OpKind.TheVariants.{Accept, Connect, Read, Write}
use Rattle.nio_base.specs.declared.group.Outcome.{Outcome}
use Rattle.nio_base.specs.declared.group.Outcome.TheVariants as outcome
use Rattle.nio_group.specs.declared.operation.Stage.TheVariants.{Pending}
use Rattle.nio_group.specs.declared.operation.Operation.{Operation}
use Rattle.nio_group.specs.Stages.{is_pending, stage_is_pending}
use Rattle.nio_group.specs.Flight.{Flight, op_at, IsPendingAs, in_flight_on, with_accepted, with_channel_closed}
use Rattle.nio_group.specs.Group.{Group, IsLawful, IsMade, channel_at, no_channel, is_ready_for, new_endpoint}
use Rattle.nio_group.specs.Group.{is_open, is_present}
use Rattle.nio_group.specs.Making.{next_name, with_made}
use Rattle.nio_group.specs.Refusals.{bind_refusal, start_refusal, report_refusal, has_pending, is_allowed}
use Rattle.nio_group.specs.Steps.{kept_if_refused, after_open, after_bind, after_start, channels_after_start, started}
use Rattle.nio_group.specs.Steps.{first_stage, after_report, reported, channels_after_report, result_of, completed}
use Rattle.nio_group.specs.Steps.{after_close, after_closing, after_shutdown, closed_below, with_endpoint, with_closed}
use Rattle.nio_group.specs.Steps.{accepted_name}
use Rattle.nio_group.specs.Run.{Call, open_channel, bind, start, report, take, finish, close_channel, shutdown}
use Rattle.nio_group.specs.Run.{shutdown_now, IsCallOf, after, reply_to, StepsAreLawful}
use Rattle.nio_group.specs.GroupKept.{IsGroupKept, group_of, is_open as is_open_now}
use Rattle.nio_group.specs.declared.limits.GroupLimits.{GroupLimits}
use Rattle.nio_group.specs.declared.pending.Pending as slots
use Rattle.nio_group.specs.declared.refusal.StartError.{StartError}
use Rattle.nio_group.proofs.TableLemmas.{by_test, count_by-set}
use Rattle.nio_group.proofs.LawfulLemmas.{lawful-channel, open-within, flight-lawful}
use Rattle.nio_group.proofs.MakingLemmas.{lawful-made}
use Rattle.nio_group.proofs.NameLemmas.{of-channels, of-channel, name-set, counted-same}
use Rattle.nio_group.proofs.GroupLemmas.{new-not_connecting}
use Rattle.nio_group.proofs.StartLemmas.{startable, allowed, lawful-started, lawful-queued, endpoint_after}
use Rattle.nio_group.proofs.StartLemmas.{IsStartable}
use Rattle.nio_group.proofs.ReportLemmas.{completed_flight, completed-is, lawful-completed, lawful-connected}
use Rattle.nio_group.proofs.ReportLemmas.{report-allowed, connected-connect, not_connect, name-completed}
use Rattle.nio_group.proofs.EndLemmas.{lawful-closed, lawful-after_take, lawful-after_finish}
use Rattle.nio_group.proofs.PendingLemmas.{stage-pending}

-- a refused call keeps what holds, and one that isn't leads to it
pub unless-refused : {E : Type 0} (P : Group → Type 0) (r : Option E) (old new : Group) → P old → (r ≡ None → P new)
    → P (kept_if_refused r old new)
unless-refused P None old new kept made = made refl
unless-refused P (Some e) old new kept made = kept

pub cond-holds : {X : Type 0} (P : X → Type 0) (b : Bool) (x y : X) → (b ≡ true → P x) → (b ≡ false → P y)
    → P (cond b x y)
cond-holds P true x y chosen other = chosen refl
cond-holds P false x y chosen other = other refl

pub lawful-after_open : (g : Group) (kind : GKind) → IsLawful g → IsLawful (after_open g kind)
lawful-after_open g kind lawful =
    cond-holds IsLawful g.is_shut g (with_made g (next_name g kind) (new_endpoint kind))
    (λ shut. lawful)
    (λ going. lawful-made g kind (next_name g kind) (new_endpoint kind) lawful (λ chan is. is)
    (new-not_connecting kind))

pub bindable : (is_open : Bool) (e : Endpoint) → bind_refusal is_open e ≡ None → e ≡ Listener false
bindable is_open (Stream link) h = cc
bindable false (Listener bound) h = cc
bindable true (Listener true) h = cc
bindable true (Listener false) h = refl

unbound-ready : (kind : OpKind) → is_ready_for (Listener false) kind ≡ true → ⊥
unbound-ready Accept h = false≢true h
unbound-ready Connect h = false≢true h
unbound-ready Read h = false≢true h
unbound-ready Write h = false≢true h

pub lawful-after_bind : (g : Group) (chan : GChan) → IsLawful g → chan.number < length g.channels
    → IsLawful (after_bind g chan)
lawful-after_bind g chan lawful within =
    let c = chan.number in
    let ch : Channel = record (channel_at g c) { endpoint = Listener true } in
    unless-refused IsLawful (bind_refusal (is_open g chan) (channel_at g c).endpoint) g
    (with_endpoint g c (Listener true)) lawful
    (λ free.
    let unbound = bindable (is_open g chan) (channel_at g c).endpoint free in
    let none : (kind : OpKind) (n : ℕ) → IsPendingAs g.flight c kind n → ⊥ =
    λ kind n h. unbound-ready kind
    (subst (λ (e : Endpoint). is_ready_for e kind ≡ true) unbound (lawful.pending_ready n c kind h)) in
    lawful-channel g g.flight c ch lawful within (flight-lawful g lawful)
    (of-channel g.flight.operations g.channels c ch within (omega arith) (λ n op is pending there. refl)
    (of-channels g lawful))
    (record {
      open_for = λ kind n h. absurd (none kind n h);
      ready_for = λ kind n h. absurd (none kind n h);
      once_for = λ kind m n h h'. absurd (none kind m h);
      connects = λ o e. absurd (not_listener true e);
    })
    (λ d kind n differ h. h)
    (λ d n differ h. h))
  where
    not_listener : (b : Bool) → Listener b ≡ Stream Connecting → ⊥
    not_listener b e = cc

-- the group after a start, where the channel is open or not
abbrev pub started_as : Group → GChan → OpKind → ℕ → Bool → Group
started_as g chan kind len opened =
    record (channels_after_start g chan.number kind opened) {
      flight = with_accepted g.flight
          (record { chan = chan; kind = kind; len = len; stage = first_stage opened kind len });
    }

pub closed-same : (g : Group) (c : ℕ) (kind : OpKind) → channels_after_start g c kind false ≡ g
closed-same g c Accept = refl
closed-same g c Connect = refl
closed-same g c Read = refl
closed-same g c Write = refl

-- an operation that isn't a connect was started on an open channel
lawful-transfer : (g : Group) (op : Operation) → IsLawful g → IsMade g op.chan
    → is_open g op.chan ≡ true → IsStartable g op.chan op.kind
    → endpoint_after (channel_at g op.chan.number).endpoint op.kind ≡ (channel_at g op.chan.number).endpoint
    → IsLawful (record g { flight = with_accepted g.flight op })
lawful-transfer g op lawful within is facts same =
    by_test (stage_is_pending op.stage)
    (λ t.
    let allow = allowed (channel_at g op.chan.number).endpoint (has_pending g.flight op.chan.number op.kind) op.kind
    (rw is at facts.channel) in
    let made = lawful-started g op lawful within (stage-pending op.stage t) is allow facts.room facts.numbers in
    let unchanged : set g.channels op.chan.number
    (record (channel_at g op.chan.number) { endpoint = endpoint_after (channel_at g op.chan.number).endpoint op.kind })
    ≡ g.channels =
    ap (λ (e : Endpoint). set g.channels op.chan.number (record (channel_at g op.chan.number) { endpoint = e })) same
    ∙ set-get_or g.channels op.chan.number no_channel in
    subst (λ (cs : List Channel). IsLawful (record g { flight = with_accepted g.flight op; channels = cs })) unchanged
    made)
    (λ f. lawful-queued g op lawful within f facts.room facts.numbers)

-- a start that isn't refused
lawful-started_now : (g : Group) (chan : GChan) (kind : OpKind) (len : ℕ) (is_open' : Bool) → IsLawful g
    → IsMade g chan → IsStartable g chan kind → is_open g chan ≡ is_open'
    → IsLawful (started_as g chan kind len is_open')
lawful-started_now g chan kind len false lawful within facts is =
    let op : Operation = record { chan = chan; kind = kind; len = len; stage = first_stage false kind len } in
    subst (λ (h : Group). IsLawful (record h { flight = with_accepted g.flight op }))
    (sym (closed-same g chan.number kind)) (lawful-queued g op lawful within refl facts.room facts.numbers)
lawful-started_now g chan Accept len true lawful within facts is = lawful-transfer g _ lawful within is facts refl
lawful-started_now g chan Connect len true lawful within facts is =
    lawful-started g (record { chan = chan; kind = Connect; len = len; stage = Pending }) lawful within refl is
    (allowed (channel_at g chan.number).endpoint (has_pending g.flight chan.number Connect) Connect (rw is at facts.channel))
    facts.room facts.numbers
lawful-started_now g chan Read len true lawful within facts is = lawful-transfer g _ lawful within is facts refl
lawful-started_now g chan Write len true lawful within facts is = lawful-transfer g _ lawful within is facts refl

pub lawful-after_start : (g : Group) (chan : GChan) (kind : OpKind) (len : ℕ) → IsLawful g → IsMade g chan
    → IsLawful (after_start g chan kind len)
lawful-after_start g chan kind len lawful made =
    unless-refused IsLawful (start_refusal g chan kind) g (started g chan kind len) lawful
    (λ free. lawful-started_now g chan kind len (is_open g chan) lawful made (startable g chan kind lawful free) refl)

-- a report that isn't refused, of each outcome
lawful-reported_now : (g : Group) (n : ℕ) (o : Outcome) (op : Operation) → IsLawful g → op_at g.flight n ≡ Some op
    → is_pending (Some op) ≡ true → is_allowed op.kind op.len o ≡ true
    → IsLawful
    (record (channels_after_report g op.chan.number op.kind
    o) { flight = completed_flight g.flight n op (result_of g o) })
lawful-reported_now g n (outcome.Count k) op lawful is pending allow =
    lawful-completed g n op (result_of g (outcome.Count k)) lawful is pending
    (not_connect op.kind op.len (outcome.Count k) refl allow)
lawful-reported_now g n outcome.End op lawful is pending allow =
    lawful-completed g n op (result_of g outcome.End) lawful is pending
    (not_connect op.kind op.len outcome.End refl allow)
lawful-reported_now g n outcome.Connected op lawful is pending allow =
    lawful-connected g n op (result_of g outcome.Connected)
    (record (channel_at g op.chan.number) { endpoint = Stream Connected }) lawful is pending
    (connected-connect op.kind op.len allow) (λ o e. cc) refl
lawful-reported_now g n outcome.Accepted op lawful is pending allow =
    lawful-completed g n op (result_of g outcome.Accepted) lawful is pending
    (not_connect op.kind op.len outcome.Accepted refl allow)
lawful-reported_now g n outcome.Fault op lawful is pending allow = by_kind op.kind refl
  where
    by_kind : (kind : OpKind) → op.kind ≡ kind
        → IsLawful
        (record (channels_after_report g op.chan.number kind
        outcome.Fault) { flight = completed_flight g.flight n op (result_of g outcome.Fault) })
    by_kind Accept e =
        lawful-completed g n op (result_of g outcome.Fault) lawful is pending
        (λ c. let no : Accept ≡ Connect = sym e ∙ c in cc)
    by_kind Connect e =
        lawful-connected g n op (result_of g outcome.Fault)
        (record (channel_at g op.chan.number) { is_open = false }) lawful is pending e (λ o c. false≢true o) refl
    by_kind Read e =
        lawful-completed g n op (result_of g outcome.Fault) lawful is pending
        (λ c. let no : Read ≡ Connect = sym e ∙ c in cc)
    by_kind Write e =
        lawful-completed g n op (result_of g outcome.Fault) lawful is pending
        (λ c. let no : Write ≡ Connect = sym e ∙ c in cc)

pub lawful-after_report : (g : Group) (n : ℕ) (o : Outcome) → IsLawful g → IsLawful (after_report g n o)
lawful-after_report g n o lawful = by_slot (op_at g.flight n) refl
  where
    by_slot : (slot : Option Operation) → op_at g.flight n ≡ slot
        → IsLawful (kept_if_refused (report_refusal slot o) g (reported g n o slot))
    by_slot None is = lawful
    by_slot (Some op) is =
        unless-refused IsLawful (report_refusal (Some op) o) g (reported g n o (Some op)) lawful
        (λ free.
        let facts = report-allowed op o free in
        let made = lawful-reported_now g n o op lawful is facts.0 facts.1 in
        let kept : IsLawful (completed g n o (result_of g o) op) = subst
        (λ (f : Flight). IsLawful (record (channels_after_report g op.chan.number op.kind o) { flight = f }))
        (sym (completed-is g.flight n op (result_of g o) is)) made in
        lawful-made (completed g n o (result_of g o) op) gkind.Stream (accepted_name g o) (Stream Connected) kept
        (λ chan named. name-completed g n o op chan is named) (λ e. cc))

pub lawful-after_closing : (g : Group) (c : ℕ) → IsLawful g → IsLawful (after_closing g c)
lawful-after_closing g c lawful =
    cond-holds IsLawful (channel_at g c).is_open (record (with_closed g c) { flight = with_channel_closed g.flight c })
    g
    (λ t. lawful-closed g c lawful (open-within g.channels c t))
    (λ f. lawful)

pub lawful-after_close : (g : Group) (chan : GChan) → IsLawful g → IsLawful (after_close g chan)
lawful-after_close g chan lawful =
    cond-holds IsLawful (is_present g chan) (after_closing g chan.number) g
    (λ t. lawful-after_closing g chan.number lawful)
    (λ f. lawful)

pub lawful-after_shutdown : (g : Group) → IsLawful g → IsLawful (after_shutdown g)
lawful-after_shutdown g lawful =
    record {
      queued_once = lawful.queued_once;
      made = lawful.made;
      present = lawful.present;
      pending_open = lawful.pending_open;
      pending_ready = lawful.pending_ready;
      one_each = lawful.one_each;
      connecting = lawful.connecting;
      few_in_flight = lawful.few_in_flight;
      few_channels = lawful.few_channels;
      few_accepted = lawful.few_accepted;
    }

pub lawful-closed_below : (c : ℕ) (g : Group) → IsLawful g → IsLawful (closed_below c g)
lawful-closed_below zero g lawful = lawful
lawful-closed_below (suc c) g lawful = lawful-after_closing (closed_below c g) c (lawful-closed_below c g lawful)

pub lawful-after : (g : Group) (call : Call) → IsLawful g → IsCallOf g call → IsLawful (after g call)
lawful-after g (open_channel kind) lawful made = lawful-after_open g kind lawful
lawful-after g (bind chan) lawful made = lawful-after_bind g chan lawful made.0
lawful-after g (start chan kind len) lawful made = lawful-after_start g chan kind len lawful made
lawful-after g (report op o) lawful made = lawful-after_report g op.0 o lawful
lawful-after g take lawful made = lawful-after_take g lawful
lawful-after g (finish op) lawful made = lawful-after_finish g op.0 lawful
lawful-after g (close_channel chan) lawful made = lawful-after_close g chan lawful
lawful-after g shutdown lawful made = lawful-after_shutdown g lawful
lawful-after g shutdown_now lawful made =
    lawful-closed_below (length g.channels) (after_shutdown g) (lawful-after_shutdown g lawful)

pub steps-lawful : StepsAreLawful
steps-lawful g call lawful made =
    record {
      reply = reply_to g call;
      left = after g call;
      step = record { answers = refl; leaves = refl };
      lawful = lawful-after g call lawful made;
      only = λ reply left step. (step.answers, step.leaves);
    }

-- a group as it is kept, after a listener was bound
pub kept-bound : {f : Flight} {cs : List Channel} {ps : List slots.Pending} {o r r' : ℕ} {sh : Bool} {l : GroupLimits}
    (chan : GChan) (x : Channel)
    → IsGroupKept f cs ps o sh l r r' → chan.number < length cs → x ≡ get_or cs chan.number x
    → bind_refusal (is_open (group_of f cs sh l) chan) x.endpoint ≡ None
    → IsGroupKept f (set cs chan.number (record x { endpoint = Listener true })) ps o sh l r r'
kept-bound {f} {cs} {ps} {o} {r} {r'} {sh} {l} chan x kept within read free =
    let g : Group = group_of f cs sh l in
    let c = chan.number in
    let is : x ≡ get_or cs c no_channel = get_or_read cs c x within read no_channel in
    let refused : bind_refusal (is_open g chan) (channel_at g c).endpoint ≡ None = subst
    (λ (y : Channel). bind_refusal (is_open g chan) y.endpoint ≡ None) is free in
    let ch : Channel = record (get_or cs c no_channel) { endpoint = Listener true } in
    let counts = count_by-set is_open_now cs c ch no_channel within in
    let opened_were = kept.opened_is in
    let lawful : IsLawful (with_endpoint g c (Listener true)) = subst
    (λ (o' : Option StartError). IsLawful (kept_if_refused o' g (with_endpoint g c (Listener true)))) refused
    (lawful-after_bind g chan kept.lawful within) in
    rw is
    (record {
      lawful = lawful;
      fit = kept.fit;
      same_limit = kept.same_limit;
      opened_is = omega (arith, counts, opened_were);
      slots = kept.slots ∙ sym (length-set cs c ch);
      is_listed = kept.is_listed;
      are_counted = counted-same f f cs (set cs c ch) ps (λ d. ap (in_flight_on f) (name-set cs c ch d within refl))
          kept.are_counted;
      has_room = kept.has_room;
      has_slots_room = kept.has_slots_room;
    })
