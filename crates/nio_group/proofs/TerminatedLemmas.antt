use Rattle.std.proofs.lemmas.Option.{none-some}
-- When a group has terminated, and what is pending, as the code finds them.
use Rattle.std.proofs.Common.{◌≡◌, ◌≢◌, ℕ, ◌<◌, zero, suc, Bool, true, false, cond, eqb, not, ◌||◌, List, [], ◌∷◌}
use Rattle.std.proofs.Common.{Option, Some, None, is_some, count_by, get_or, length, refl, sym, ap, ◌∙◌, subst, arith}
use Rattle.std.specs.Option.{option_or}
use Rattle.std.specs.List.{list_any, list_all}
use Rattle.std.proofs.lemmas.Bool.{false≢true, ne_eqb}
use Rattle.std.proofs.lemmas.List.{get_or_read}
use Rattle.std.proofs.lemmas.List.Folds.{list_any_at}
use Rattle.nio_group.specs.declared.channel.Channel.{Channel}
use Rattle.nio_base.specs.declared.group.OpKind.{OpKind}
use Rattle.nio_group.specs.declared.operation.Stage.{Stage}
use Rattle.nio_group.specs.declared.operation.Stage.TheVariants.{Pending, Queued, Running}
use Rattle.nio_group.specs.declared.operation.Operation.{Operation}
use Rattle.nio_group.specs.declared.refusal.StartError.{StartError}
use Rattle.nio_group.specs.declared.refusal.StartError.TheVariants as refused
use Rattle.nio_group.specs.declared.limits.GroupLimits.{GroupLimits}
use Rattle.nio_group.specs.declared.pending.Pending as slots
use Rattle.nio_group.specs.Stages.{is_pending, is_pending_as, is_queued, is_running, stage_is_pending, stage_is_queued}
use Rattle.nio_group.specs.Stages.{stage_is_running}
use Rattle.nio_group.specs.Flight.{Flight, in_flight, accepted}
use Rattle.nio_group.specs.Pending.{slot_of, nothing_pending}
use Rattle.nio_base.specs.declared.numbers.GChan.{GChan}
use Rattle.nio_group.specs.Group.{Group, no_channel, is_terminated, is_open as open_by}
use Rattle.nio_group.specs.GroupKept.{IsGroupKept, IsListed, group_of, is_open}
use Rattle.nio_group.specs.Refusals.{has_pending, channel_refusal, start_refusal, limit_refusal}
use Rattle.nio_group.proofs.TableLemmas.{by_test}
use Rattle.nio_group.proofs.IndexLemmas.{count_by-cons}
use Rattle.nio_group.proofs.ListLemmas.{eqb-same}
use Rattle.nio_group.proofs.GroupLemmas.{pending-within}
use Rattle.nio_group.proofs.LawfulLemmas.{nothing-pending}

pub all-closed : (cs : List Channel) → count_by is_open cs ≡ 0
    → list_all (λ (channel : Channel). not channel.is_open) cs ≡ true
all-closed [] h = refl
all-closed (x ∷ xs) h =
    let counts = sym (count_by-cons is_open x xs) ∙ h in
    by_test x.is_open
    (λ t. let one : cond (is_open x) 1 0 ≡ 1 = ap {B = ℕ} (λ (b : Bool). cond b 1 0) t in
    absurd (omega (arith, counts, one)))
    (λ f. rw f (all-closed xs (omega (arith, counts))))

pub closed-at : (cs : List Channel) → count_by is_open cs ≡ 0 → (c : ℕ) → (get_or cs c no_channel).is_open ≡ false
closed-at [] h c = refl
closed-at (x ∷ xs) h zero =
    let counts = sym (count_by-cons is_open x xs) ∙ h in
    by_test x.is_open
    (λ t. let one : cond (is_open x) 1 0 ≡ 1 = ap {B = ℕ} (λ (b : Bool). cond b 1 0) t in
    absurd (omega (arith, counts, one)))
    (λ f. f)
closed-at (x ∷ xs) h (suc c) = closed-at xs (omega (arith, count_by-cons is_open x xs, h)) c

handled : (stage : Stage) → stage_is_pending stage ≡ false → (stage_is_queued stage || stage_is_running stage) ≡ true
handled Pending h = absurd (false≢true (sym h))
handled (Queued finished) h = refl
handled Running h = refl

pub none-in_flight : (xs : List (Option Operation)) → ((i : ℕ) → is_pending (get_or xs i None) ≡ false)
    → eqb (count_by is_some xs) 0 ≡ not (list_any (λ slot. is_queued slot || is_running slot) xs)
none-in_flight [] h = refl
none-in_flight (None ∷ xs) h =
    ap (λ (n : ℕ). eqb n 0) (omega (arith, count_by-cons is_some None xs)) ∙ none-in_flight xs (λ i. h (suc i))
none-in_flight (Some op ∷ xs) h =
    let busy = handled op.stage (h 0) in
    rw busy (ne_eqb (count_by is_some (Some op ∷ xs)) 0
    (λ e. let counts = count_by-cons is_some (Some op) xs in absurd (omega (arith, counts, e))))

pub terminated-where_closed : {f : Flight} {cs : List Channel} {ps : List slots.Pending} {o r r' : ℕ} {l : GroupLimits}
    → IsGroupKept f cs ps o true l r r' → o ≡ 0 → eqb (in_flight f) 0 ≡ is_terminated (group_of f cs true l)
terminated-where_closed {f} {cs} {l = l} kept zero_open =
    let counted = kept.opened_is in
    let closed : count_by is_open cs ≡ 0 = omega arith in
    rw (all-closed cs closed) (none-in_flight f.operations
    (nothing-pending (group_of f cs true l) kept.lawful (closed-at cs closed)))

any-index : (p : Option Operation → Bool) (xs : List (Option Operation)) → list_any p xs ≡ true
    → (i : ℕ) × (p (get_or xs i None) ≡ true)
any-index p [] h = absurd (false≢true h)
any-index p (x ∷ xs) h =
    by_test (p x)
    (λ t. (0, t))
    (λ f. let rest = any-index p xs (rw f at h) in (suc rest.0, rest.1))

-- what is pending is found in the slots
pub has_pending-slot : (f : Flight) (ps : List slots.Pending) (c : ℕ) (kind : OpKind) → IsListed f ps
    → has_pending f c kind ≡ is_some (slot_of (get_or ps c nothing_pending) kind)
has_pending-slot f ps c kind is_listed = by_slot (slot_of (get_or ps c nothing_pending) kind) refl
  where
    by_slot : (slot : Option ℕ) → slot_of (get_or ps c nothing_pending) kind ≡ slot
        → has_pending f c kind ≡ is_some slot
    by_slot (Some n) is =
        let pending = is_listed.listed c kind n is in
        list_any_at (is_pending_as c kind) f.operations n None (pending-within f.operations c kind n pending) pending
    by_slot None is =
        by_test (has_pending f c kind)
        (λ t. let found = any-index (is_pending_as c kind) f.operations t in
        absurd (none-some found.0 (sym is ∙ is_listed.all c kind found.0 found.1)))
        (λ e. e)

-- a start's refusal, from what is read of the channel and its slots
pub start_refusal-read : {f : Flight} {cs : List Channel} {ps : List slots.Pending} {o r r' : ℕ} {sh : Bool}
    {l : GroupLimits} (chan : GChan) (kind : OpKind) (x : Channel) (opened : Bool) (p : slots.Pending) (pending : Bool)
    (refusal : Option StartError)
    → IsGroupKept f cs ps o sh l r r' → chan.number < length cs → is_terminated (group_of f cs sh l) ≡ false
    → x ≡ get_or cs chan.number x → opened ≡ open_by (group_of f cs sh l) chan → p ≡ get_or ps chan.number p
    → pending ≡ is_some (slot_of p kind) → refusal ≡ channel_refusal opened x.endpoint pending kind
    → start_refusal (group_of f cs sh l) chan kind ≡ option_or refusal (limit_refusal (group_of f cs sh l))
start_refusal-read {f} {cs} {ps} {o} {r} {r'} {sh} {l} chan kind x opened p pending refusal kept within going read
    is_opened read_slot is_pending_op is_refusal =
    let c = chan.number in
    let now = open_by (group_of f cs sh l) chan in
    let slots_are = kept.slots in
    let is : x ≡ get_or cs c no_channel = get_or_read cs c x within read no_channel in
    let is_slot : p ≡ get_or ps c nothing_pending = get_or_read ps c p (omega arith) read_slot nothing_pending in
    let found : has_pending f c kind ≡ pending = has_pending-slot f ps c kind kept.is_listed ∙ ap
    (λ (q : slots.Pending). is_some (slot_of q kind)) (sym is_slot) ∙ sym is_pending_op in
    let same : channel_refusal now (get_or cs c no_channel).endpoint (has_pending f c kind) kind ≡ refusal =
    ap (λ (y : Channel). channel_refusal now y.endpoint (has_pending f c kind) kind) (sym is)
    ∙ ap (λ (b : Bool). channel_refusal now x.endpoint b kind) found
    ∙ ap (λ (b : Bool). channel_refusal b x.endpoint pending kind) (sym is_opened)
    ∙ sym is_refusal in
    rw going (ap (λ (e : Option StartError). option_or e (limit_refusal (group_of f cs sh l))) same)

pub terminated-when : {f : Flight} {cs : List Channel} {ps : List slots.Pending} {o r r' : ℕ} {sh : Bool}
    {l : GroupLimits}
    → IsGroupKept f cs ps o sh l r r' → sh ≡ true → o ≡ 0 → eqb (in_flight f) 0 ≡ is_terminated (group_of f cs sh l)
terminated-when {f} {cs} {ps} {o} {r} {r'} {sh} {l} kept shut zero_open =
    let kept_shut : IsGroupKept f cs ps o true l r r' = rw shut at kept in
    rw shut (terminated-where_closed kept_shut zero_open)

pub limit-ops : (g : Group) → accepted g.flight ≡ g.op_limit → limit_refusal g ≡ Some refused.OpsSpent
limit-ops g at_limit =
    let same : eqb (accepted g.flight) g.op_limit ≡ true = subst (λ (n : ℕ). eqb (accepted g.flight) n ≡ true) at_limit
    (eqb-same (accepted g.flight)) in
    rw same refl

pub limit-flight : (g : Group) → accepted g.flight ≢ g.op_limit → in_flight g.flight ≡ g.flight.limit
    → limit_refusal g ≡ Some refused.FlightFull
limit-flight g below full =
    let same : eqb (in_flight g.flight) g.flight.limit ≡ true = subst
    (λ (n : ℕ). eqb (in_flight g.flight) n ≡ true) full (eqb-same (in_flight g.flight)) in
    rw (ne_eqb (accepted g.flight) g.op_limit below, same) refl

pub limit-none : (g : Group) → accepted g.flight ≢ g.op_limit → in_flight g.flight ≢ g.flight.limit
    → limit_refusal g ≡ None
limit-none g below room =
    rw (ne_eqb (accepted g.flight) g.op_limit below, ne_eqb (in_flight g.flight) g.flight.limit room) refl
