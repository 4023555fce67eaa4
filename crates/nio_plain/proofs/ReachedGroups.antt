-- The group that a script leaves: it is left by a run of the group, and by the first rules no number of it comes back.
use Rattle.std.proofs.Common.{◌≡◌, ℕ, ◌==◌, zero, suc, Bool, true, false, not, ◌&&◌, cond, ◌⊎◌, inl, inr, List, [], ◌∷◌, ◌++◌}
use Rattle.std.proofs.Common.{Option, Some, None, length, get_or, set, refl, sym, ap, subst}
use Rattle.nio_base.specs.declared.group.GKind.{GKind}
use Rattle.nio_base.specs.declared.group.GKind.TheVariants as gkind
use Rattle.nio_base.specs.declared.group.OpKind.{OpKind}
use Rattle.nio_base.specs.declared.group.OpKind.TheVariants.{Accept, Connect, Read, Write}
use Rattle.nio_base.specs.declared.group.Outcome.{Outcome}
use Rattle.nio_base.specs.declared.group.Outcome.TheVariants as outcome
use Rattle.nio_base.specs.declared.limits.Limits.{Limits}
use Rattle.nio_base.specs.declared.numbers.CallerNo.{CallerNo}
use Rattle.nio_base.specs.declared.numbers.GChan.{GChan}
use Rattle.nio_group.proofs.RestLemmas.{lawful-empty}
use Rattle.nio_group.proofs.RunLemmas.{lawful-after}
use Rattle.nio_group.specs.Flight.{op_at}
use Rattle.nio_group.specs.Group.{Group, IsLawful, channel_at, empty_group, is_open, is_present, new_channel}
use Rattle.nio_group.specs.Group.{new_endpoint, no_channel}
use Rattle.nio_group.specs.Making.{first_back, next_name, with_made}
use Rattle.nio_group.specs.Refusals.{bind_refusal, report_refusal, start_refusal}
use Rattle.nio_group.specs.Run as step
use Rattle.nio_group.specs.Run.{IsCallOf, IsRunOf, after, left_by}
use Rattle.nio_group.specs.Stages.{is_running}
use Rattle.nio_group.specs.Steps.{accepted_name, after_closing, after_open, channels_after_report}
use Rattle.nio_group.specs.Steps.{channels_after_start, closed_below, completed, finish_refusal, kept_if_refused}
use Rattle.nio_group.specs.Steps.{reported, result_of, started, with_closed, with_endpoint}
use Rattle.nio_group.specs.declared.channel.Channel.{Channel}
use Rattle.nio_group.specs.declared.channel.Endpoint.{Endpoint}
use Rattle.nio_group.specs.declared.channel.Endpoint.TheVariants.{Stream, Listener}
use Rattle.nio_group.specs.declared.channel.Link.TheVariants.{Connected, Connecting}
use Rattle.nio_group.specs.declared.operation.Operation.{Operation}
use Rattle.nio_language.specs.declared.call.Call.{Call}
use Rattle.nio_language.specs.declared.call.ScriptCall.{ScriptCall}
use Rattle.nio_language.specs.declared.group_call.GroupCall.{GroupCall}
use Rattle.nio_language.specs.declared.group_call.GroupCall.TheVariants as group
use Rattle.nio_plain.proofs.CallChanges as change
use Rattle.nio_plain.proofs.CallChanges.{Change, step_of}
use Rattle.nio_plain.proofs.CallLawsCases.{change_of}
use Rattle.nio_plain.proofs.ReachedSound.{some_same}
use Rattle.nio_plain.specs.Answer.{left_by_script, left_from}
use Rattle.nio_plain.specs.ReachedLaws.{FirstRulesReopenNoneOfTheGroup, GroupIsLawful, GroupIsLeftByARun, IsLeftByARun}
use Rattle.nio_plain.specs.ScriptState.{ScriptState, group_limits, script_opening}
use Rattle.nio_plain.specs.Seq.{seq}
use Rattle.nio_plain.specs.Seq.Grouping.{gave_each_number, lacks_a_number}
use Rattle.nio_plain.specs.Seq.Replies.{Replied}
use Rattle.nio_plain.specs.declared.rules.Rules.{Rules}
use Rattle.nio_plain.specs.declared.rules.Rules.TheVariants.{First}

-- a call leaves the group as it was, or it makes a step of it
abbrev Steps : ScriptState → Call → Replied → Type 0
Steps st c done =
    (done.left.group ≡ st.group) ⊎ ((s : step.Call) × IsCallOf st.group s × (done.left.group ≡ after st.group s))

changes : {rules : Rules} {l : Limits} {st : ScriptState} {me : CallerNo} {c : Call} {done : Replied}
    → Change rules l st me c done → Steps st c done
changes (change.group g s _ _ made) = inr (s, made, refl)
changes _ = inl refl

-- from a group on, a run of it leaves this one
pub record IsRunTo (before left : Group) : Type 0 where
  pub steps : List step.Call
  pub run : IsRunOf before steps
  pub leaves : left ≡ left_by before steps

-- a call, and then what is run on the group that it leaves
pub run_on : (rules : Rules) (l : Limits) (st : ScriptState) (me : CallerNo) (word : Call) (g : Group)
    → IsRunTo (seq rules l st me word).left.group g → IsRunTo st.group g
run_on rules l st me word g rest =
    elim (changes (change_of rules l st me word)) [
      | inl same ↦ subst (λ (h : Group). IsRunTo h g) same rest
      | inr first ↦
          let on = subst (λ (h : Group). IsRunTo h g) first.2 rest in
          record { steps = first.0 ∷ on.steps; run = (first.1, on.run); leaves = on.leaves }
    ]

pub run_to_itself : (g : Group) → IsRunTo g g
run_to_itself g = record { steps = []; run = tt; leaves = refl }

runs : (rules : Rules) (l : Limits) (calls : List ScriptCall) (st : ScriptState)
    → IsRunTo st.group (left_from rules l st calls).group
runs rules l [] st = run_to_itself st.group
runs rules l (c ∷ calls) st =
    let next = (seq rules l st c.caller c.call).left in
    run_on rules l st c.caller c.call (left_from rules l next calls).group (runs rules l calls next)

lawful_run : (g : Group) (steps : List step.Call) → IsLawful g → IsRunOf g steps → IsLawful (left_by g steps)
lawful_run g [] lawful run = lawful
lawful_run g (s ∷ steps) lawful run = lawful_run (after g s) steps (lawful-after g s lawful run.0) run.1

pub is_left_by_a_run : (g : Group) → IsRunTo (empty_group group_limits) g → IsLeftByARun g
is_left_by_a_run g is = record { steps = is.steps; run = is.run; leaves = is.leaves }

pub is_lawful : (g : Group) → IsRunTo (empty_group group_limits) g → IsLawful g
is_lawful g is =
    subst IsLawful (sym is.leaves) (lawful_run (empty_group group_limits) is.steps (lawful-empty group_limits) is.run)

pub group_is_left_by_a_run : GroupIsLeftByARun
group_is_left_by_a_run rules l calls =
    is_left_by_a_run (left_by_script rules l calls).group (runs rules l calls script_opening)

pub group_is_lawful : GroupIsLawful
group_is_lawful rules l calls = is_lawful (left_by_script rules l calls).group (runs rules l calls script_opening)

-- ---- by the first rules no number comes back

-- a group of a script of which no number has come back
abbrev IsFirst : Group → Type 0
IsFirst g = (g.channel_limit ≡ group_limits.channels) × ((c : ℕ) → (channel_at g c).serial ≡ 0)

-- lists of channels

first-set : (cs : List Channel) (d : ℕ) (ch : Channel) → ((c : ℕ) → (get_or cs c no_channel).serial ≡ 0)
    → ch.serial ≡ 0 → (c : ℕ) → (get_or (set cs d ch) c no_channel).serial ≡ 0
first-set [] d ch all new c = all c
first-set (x ∷ cs) zero ch all new zero = new
first-set (x ∷ cs) zero ch all new (suc c) = all (suc c)
first-set (x ∷ cs) (suc d) ch all new zero = all 0
first-set (x ∷ cs) (suc d) ch all new (suc c) = first-set cs d ch (λ n. all (suc n)) new c

first-push : (cs : List Channel) (ch : Channel) → ((c : ℕ) → (get_or cs c no_channel).serial ≡ 0) → ch.serial ≡ 0
    → (c : ℕ) → (get_or (cs ++ ch ∷ []) c no_channel).serial ≡ 0
first-push [] ch all new zero = new
first-push [] ch all new (suc c) = all c
first-push (x ∷ cs) ch all new zero = all 0
first-push (x ∷ cs) ch all new (suc c) = first-push cs ch (λ n. all (suc n)) new c

-- what steps are made of

first-either : (b : Bool) (g h : Group) → IsFirst g → IsFirst h → IsFirst (cond b g h)
first-either true g h first second = first
first-either false g h first second = second

first-unless : {E : Type 0} (o : Option E) (g new : Group) → IsFirst g → IsFirst new → IsFirst (kept_if_refused o g new)
first-unless None g new first made = made
first-unless (Some refusal) g new first made = first

first-endpoint : (g : Group) (c : ℕ) (endpoint : Endpoint) → IsFirst g → IsFirst (with_endpoint g c endpoint)
first-endpoint g c endpoint first =
    (first.0, first-set g.channels c (record (channel_at g c) { endpoint = endpoint }) first.1 (first.1 c))

first-closed : (g : Group) (c : ℕ) → IsFirst g → IsFirst (with_closed g c)
first-closed g c first =
    (first.0, first-set g.channels c (record (channel_at g c) { is_open = false }) first.1 (first.1 c))

first-closing : (g : Group) (c : ℕ) → IsFirst g → IsFirst (after_closing g c)
first-closing g c first = first-either (channel_at g c).is_open _ g (first-closed g c first) first

first-closed_below : (n : ℕ) (g : Group) → IsFirst g → IsFirst (closed_below n g)
first-closed_below zero g first = first
first-closed_below (suc c) g first = first-closing (closed_below c g) c (first-closed_below c g first)

first-started : (g : Group) (c : ℕ) (kind : OpKind) (is_open : Bool) → IsFirst g
    → IsFirst (channels_after_start g c kind is_open)
first-started g c Accept is_open first = first
first-started g c Connect true first = first-endpoint g c (Stream Connecting) first
first-started g c Connect false first = first
first-started g c Read is_open first = first
first-started g c Write is_open first = first

first-reported : (g : Group) (c : ℕ) (kind : OpKind) (o : Outcome) → IsFirst g
    → IsFirst (channels_after_report g c kind o)
first-reported g c kind (outcome.Count k) first = first
first-reported g c kind outcome.End first = first
first-reported g c kind outcome.Connected first = first-endpoint g c (Stream Connected) first
first-reported g c kind outcome.Accepted first = first
first-reported g c Accept outcome.Fault first = first
first-reported g c Connect outcome.Fault first = first-closed g c first
first-reported g c Read outcome.Fault first = first
first-reported g c Write outcome.Fault first = first

-- a channel that is made has the serial 0, where a number was left

abbrev IsFirstName : Option GChan → Type 0
IsFirstName name = (chan : GChan) → name ≡ Some chan → chan.serial ≡ 0

first-made : (g : Group) (name : Option GChan) (endpoint : Endpoint) → IsFirst g → IsFirstName name
    → IsFirst (with_made g name endpoint)
first-made g None endpoint first named = first
first-made g (Some chan) endpoint first named = (first.0, by_place (chan.number == length g.channels))
  where
    new : Channel
    new = new_channel chan endpoint

    by_place : (b : Bool) (c : ℕ)
        → (get_or (cond b (g.channels ++ new ∷ []) (set g.channels chan.number new)) c no_channel).serial ≡ 0
    by_place true = first-push g.channels new first.1 (named chan refl)
    by_place false = first-set g.channels chan.number new first.1 (named chan refl)

first-next : (g : Group) (kind : GKind) → IsFirst g → gave_each_number g ≡ false → IsFirstName (next_name g kind)
first-next g kind first left =
    by_test (length g.channels == g.channel_limit)
    (subst (λ (limit : ℕ). (length g.channels == limit) ≡ false) (sym first.0) left)
  where
    by_test : (b : Bool) → b ≡ false
        → IsFirstName (cond b (first_back g.flight kind 0 g.channels)
        (Some (record { number = length g.channels; serial = 0 })))
    by_test true e chan is = absurd cc
    by_test false e chan is =
        ap (λ (n : GChan). n.serial) (some_same chan (record { number = length g.channels; serial = 0 }) (sym is))

first-opened : (g : Group) (kind : GKind) → IsFirst g → (not g.is_shut && gave_each_number g) ≡ false
    → IsFirst (after_open g kind)
first-opened g kind first = by_shut g.is_shut
  where
    by_shut : (b : Bool) → (not b && gave_each_number g) ≡ false
        → IsFirst (cond b g (with_made g (next_name g kind) (new_endpoint kind)))
    by_shut true left = first
    by_shut false left = first-made g (next_name g kind) (new_endpoint kind) first (first-next g kind first left)

first-shut : (g : Group) (kind : GKind) → IsFirst g → (b : Bool) → (not b && gave_each_number g) ≡ false
    → IsFirstName (cond b None (next_name g kind))
first-shut g kind first true left chan is = absurd cc
first-shut g kind first false left chan is = first-next g kind first left chan is

first-accepted : (g : Group) (n : ℕ) (o : Outcome) → IsFirst g
    → lacks_a_number First g (group.Report (record { 0 = n }) o) ≡ false → IsFirstName (accepted_name g o)
first-accepted g n (outcome.Count k) first left chan is = absurd cc
first-accepted g n outcome.End first left chan is = absurd cc
first-accepted g n outcome.Connected first left chan is = absurd cc
first-accepted g n outcome.Accepted first left chan is = first-shut g gkind.Stream first g.is_shut left chan is
first-accepted g n outcome.Fault first left chan is = absurd cc

first-of_operation : (g : Group) (n : ℕ) (o : Outcome) (op : Option Operation) → IsFirst g
    → lacks_a_number First g (group.Report (record { 0 = n }) o) ≡ false → IsFirst (reported g n o op)
first-of_operation g n o None first left = first
first-of_operation g n o (Some op) first left =
    first-made (completed g n o (result_of g o) op) (accepted_name g o) (Stream Connected)
    (first-reported g op.chan.number op.kind o first) (first-accepted g n o first left)

-- each step

first-call : (g : Group) (call : GroupCall) (s : step.Call) → step_of call ≡ Some s
    → lacks_a_number First g call ≡ false → IsFirst g → IsFirst (after g s)
first-call g call s is left first = by_call call is left
  where
    that : (t : step.Call) → Some t ≡ Some s → IsFirst (after g t) → IsFirst (after g s)
    that t same = subst (λ (c : step.Call). IsFirst (after g c)) (some_same t s same)

    by_call : (call : GroupCall) → step_of call ≡ Some s → lacks_a_number First g call ≡ false → IsFirst (after g s)
    by_call (group.Gopen kind) is left = that (step.open_channel kind) is (first-opened g kind first left)
    by_call (group.Gbind chan) is left =
        that (step.bind chan) is
        (first-unless (bind_refusal (is_open g chan) (channel_at g chan.number).endpoint) g _ first
        (first-endpoint g chan.number (Listener true) first))
    by_call (group.Start chan kind len) is left =
        that (step.start chan kind len) is
        (first-unless (start_refusal g chan kind) g (started g chan kind len) first
        (first-started g chan.number kind (is_open g chan) first))
    by_call (group.Report n o) is left =
        that (step.report n o) is
        (first-unless (report_refusal (op_at g.flight n.0) o) g _ first
        (first-of_operation g n.0 o (op_at g.flight n.0) first left))
    by_call group.Take is left = that step.take is first
    by_call (group.Done n) is left =
        that (step.finish n) is (first-unless (finish_refusal (is_running (op_at g.flight n.0))) g _ first first)
    by_call (group.Gclose chan) is left =
        that (step.close_channel chan) is
        (first-either (is_present g chan) _ g (first-closing g chan.number first) first)
    by_call group.Shutdown is left = that step.shutdown is first
    by_call group.ShutdownNow is left =
        that step.shutdown_now is (first-closed_below (length g.channels) _ first)
    by_call group.IsShutdown is left = absurd cc
    by_call group.Terminated is left = absurd cc

-- each call of a script, and all of them

first_change : {l : Limits} {st : ScriptState} {me : CallerNo} {c : Call} {done : Replied}
    → Change First l st me c done → IsFirst st.group → IsFirst done.left.group
first_change {st = st} (change.group g s is left _) first = first-call st.group g s is left first
first_change _ first = first

first_left : (l : Limits) (calls : List ScriptCall) (st : ScriptState) → IsFirst st.group
    → IsFirst (left_from First l st calls).group
first_left l [] st first = first
first_left l (c ∷ calls) st first =
    first_left l calls (seq First l st c.caller c.call).left (first_change (change_of First l st c.caller c.call) first)

pub first_rules_reopen_none_of_the_group : FirstRulesReopenNoneOfTheGroup
first_rules_reopen_none_of_the_group l calls = (first_left l calls script_opening (refl, λ _. refl)).1
