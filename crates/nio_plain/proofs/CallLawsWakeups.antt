-- A wakeup stays until a selection ends, which uses it up, and further ones change nothing until then.
use Rattle.std.proofs.Common.{◌≡◌, ℕ, ◌==◌, nat_lt, Bool, true, false, cond, not, ◌&&◌, ◌||◌, ⊎_elim, List, [], ◌∷◌}
use Rattle.std.proofs.Common.{◌++◌, refl, sym, ap, ◌∙◌}
use Rattle.std.proofs.lemmas.Bool.{cases_eq, and_from, or_left, or_right, eq-eqb, ne_eqb, lt-ltb}
use Rattle.nio_base.specs.declared.limits.Limits.{Limits}
use Rattle.nio_base.specs.declared.numbers.CallerNo.{CallerNo}
use Rattle.nio_base.specs.declared.numbers.SelNo.{SelNo}
use Rattle.nio_history.proofs.Put.{put-same}
use Rattle.nio_history.specs.State.{put, with_gate}
use Rattle.nio_history.specs.declared.found.GateWord.{GateWord}
use Rattle.nio_language.specs.declared.call.Call.{Call}
use Rattle.nio_language.specs.declared.call.Call.TheVariants as call
use Rattle.nio_language.specs.declared.call.ScriptCall.{ScriptCall}
use Rattle.nio_language.specs.declared.reply.Reply.{Reply}
use Rattle.nio_language.specs.declared.reply.Reply.TheVariants as reply
use Rattle.nio_plain.proofs.CallChanges as change
use Rattle.nio_plain.proofs.CallChanges.{Change, may_keep}
use Rattle.nio_plain.proofs.CallLawsCases.{change_of}
use Rattle.nio_plain.proofs.Places.{put-elsewhere, put_same, put_kept}
use Rattle.nio_plain.specs.Answer.{left_from}
use Rattle.nio_plain.specs.CallLaws.{is_woken, is_wakeup, is_end, WakeupsArePending, FurtherWakeupsChangeNothing}
use Rattle.nio_plain.specs.CallLaws.{WakeupsHaveReplies, NoneEnds, WakeupsActAsOne}
use Rattle.nio_plain.specs.ScriptState.{ScriptState}
use Rattle.nio_plain.specs.Seq.{call_of, seq}
use Rattle.nio_plain.specs.Seq.Replies.{Replied, replied, unchanged}
use Rattle.nio_plain.specs.declared.rules.Rules.{Rules}
use Rattle.nio_plain.specs.Seq.Wakeups.{wakeup_call}

-- no wakeup and no end
kept : (w : Bool) → w ≡ (false || (w && not false))
kept true = refl
kept false = refl

used_up : (w : Bool) → false ≡ (false || (w && not true))
used_up true = refl
used_up false = refl

-- a call that changes nothing was neither a wakeup nor the end of a selection
no_wakeup : (s : ℕ) (c : Call) (r : Reply) → may_keep c r ≡ true → is_wakeup s c r ≡ false
no_wakeup s (call.Wakeup t) reply.«Ok» keeps = absurd cc
no_wakeup s _ _ keeps = refl

pub no_end : (s : ℕ) (c : Call) (r : Reply) → may_keep c r ≡ true → is_end s c r ≡ false
no_end s (call.Told t elapsed pairs) (reply.Selected count why) keeps = absurd cc
no_end s _ _ keeps = refl

module _ (rules : Rules) (st : ScriptState) (me : CallerNo) (s : ℕ) where
  abbrev Pending : Call → Replied → Type 0
  Pending c done = is_woken done.left s ≡ (is_wakeup s c done.reply || (is_woken st s && not (is_end s c done.reply)))

  abbrev w : Bool
  w = is_woken st s

  same : w ≡ (false || (w && not false))
  same = kept w

  nothing : (c : Call) (r : Reply) → may_keep c r ≡ true → Pending c (unchanged st r)
  nothing c r keeps =
      same ∙ (ap (λ b. b || (w && not false)) (sym (no_wakeup s c r keeps))
      ∙ ap (λ b. is_wakeup s c r || (w && not b)) (sym (no_end s c r keeps)))

  -- a gate that is woken where its selector is this one, and one that isn't
  by_wakeup : (t : ℕ)
      → (put st.shared.gate t (record (st.shared.gate t) { woken = true }) s).woken ≡ ((t == s) || (w && not false))
  by_wakeup t =
      let gate : GateWord = record (st.shared.gate t) { woken = true } in
      ⊎_elim
      (λ (e : s ≡ t).
      ap (λ (g : GateWord). g.woken) (ap (put st.shared.gate t gate) e ∙ put-same st.shared.gate t gate)
      ∙ ap (λ b. b || (w && not false)) (sym (eq-eqb t s (sym e))))
      (λ (ne : s ≡ t → ⊥).
      ap (λ (g : GateWord). g.woken) (put-elsewhere st.shared.gate t s gate ne)
      ∙ (same ∙ ap (λ b. b || (w && not false)) (sym (ne_eqb t s (λ e. ne (sym e))))))
      (cases_eq s t)

  by_end : (t : ℕ)
      → (put st.shared.gate t (record (st.shared.gate t) { woken = false }) s).woken ≡ (false || (w && not (t == s)))
  by_end t =
      let gate : GateWord = record (st.shared.gate t) { woken = false } in
      ⊎_elim
      (λ (e : s ≡ t).
      ap (λ (g : GateWord). g.woken) (ap (put st.shared.gate t gate) e ∙ put-same st.shared.gate t gate)
      ∙ (used_up w ∙ ap (λ b. false || (w && not b)) (sym (eq-eqb t s (sym e)))))
      (λ (ne : s ≡ t → ⊥).
      ap (λ (g : GateWord). g.woken) (put-elsewhere st.shared.gate t s gate ne)
      ∙ (same ∙ ap (λ b. false || (w && not b)) (sym (ne_eqb t s (λ e. ne (sym e))))))
      (cases_eq s t)

  by_close : (t : ℕ)
      → (put st.shared.gate t (record (st.shared.gate t) { shut = true }) s).woken ≡ (false || (w && not false))
  by_close t =
      put_kept (λ (g : GateWord). g.woken) st.shared.gate t (record (st.shared.gate t) { shut = true }) s refl ∙ same

  changes : {l : Limits} {c : Call} {done : Replied} → Change rules l st me c done → Pending c done
  changes (change.nothing c r keeps) = nothing c r keeps
  changes (change.told t _ _ _ _ _ _) = by_end t.0
  changes (change.wakeup t) = by_wakeup t.0
  changes (change.close t) = by_close t.0
  changes _ = same

pub wakeups_are_pending : WakeupsArePending
wakeups_are_pending rules l st me c s = changes rules st me s (change_of rules l st me c)

-- a wakeup, by whether there are its caller and its selector
module _ (st : ScriptState) (s : SelNo) where
  abbrev done : Replied
  done = replied st reply.«Ok» (with_gate st.shared s.0 (record (st.shared.gate s.0) { woken = true }))

  abbrev by_names : Bool → Bool → Replied
  by_names caller selector =
      cond caller (cond selector done (unchanged st reply.NoSelector)) (unchanged st reply.NoCaller)

  wakeup-is : (rules : Rules) (l : Limits) (me : CallerNo)
      → seq rules l st me (call.Wakeup s) ≡ by_names (nat_lt me.0 l.callers) (st.shared.selector s.0)
  unfolding seq call_of wakeup_call
  wakeup-is rules l me = refl

  woken_as_before : is_woken st s.0 ≡ true → (a b : Bool) → (by_names a b).left ≡ st
  woken_as_before h true true =
      ap (λ (g : ℕ → GateWord). record st { shared = record st.shared { gate = g } })
      (put_same st.shared.gate s.0 (record (st.shared.gate s.0) { woken = true })
      (λ j. record (st.shared.gate s.0) { woken = h j }))
  woken_as_before h true false = refl
  woken_as_before h false b = refl

  replied_where : (a b : Bool) → a ≡ true → b ≡ true → (by_names a b).reply ≡ reply.«Ok»
  replied_where true true e f = refl
  replied_where true false e f = absurd cc
  replied_where false b e f = absurd cc

pub wakeups_have_replies : WakeupsHaveReplies
wakeups_have_replies rules l st me s below made =
    ap (λ (a : Replied). a.reply) (wakeup-is st s rules l me)
    ∙ replied_where st s (nat_lt me.0 l.callers) (st.shared.selector s.0) (lt-ltb me.0 l.callers below) made

pub further_wakeups_change_nothing : FurtherWakeupsChangeNothing
further_wakeups_change_nothing rules l st me s h =
    ap (λ (a : Replied). a.left) (wakeup-is st s rules l me)
    ∙ woken_as_before st s h (nat_lt me.0 l.callers) (st.shared.selector s.0)

-- over lists of calls
pub left_from-append : (rules : Rules) (l : Limits) (st : ScriptState) (xs ys : List ScriptCall)
    → left_from rules l st (xs ++ ys) ≡ left_from rules l (left_from rules l st xs) ys
left_from-append rules l st [] ys = refl
left_from-append rules l st (x ∷ xs) ys = left_from-append rules l (seq rules l st x.caller x.call).left xs ys

stays_through : (rules : Rules) (l : Limits) (st : ScriptState) (s : ℕ) (calls : List ScriptCall)
    → NoneEnds rules l st s calls → is_woken st s ≡ true → is_woken (left_from rules l st calls) s ≡ true
stays_through rules l st s [] none h = h
stays_through rules l st s (c ∷ calls) none h =
    let done = seq rules l st c.caller c.call in
    let stays : (is_woken st s && not (is_end s c.call done.reply)) ≡ true = and_from (is_woken st s)
    (not (is_end s c.call done.reply)) h (ap not none.0) in
    stays_through rules l done.left s calls none.1
    (wakeups_are_pending rules l st c.caller c.call s
    ∙ or_right (is_wakeup s c.call done.reply) (is_woken st s && not (is_end s c.call done.reply)) stays)

pub wakeups_act_as_one : WakeupsActAsOne
wakeups_act_as_one rules l st s first further between later wakeup none called =
    let done = seq rules l st first.caller first.call in
    let mid = left_from rules l done.left between in
    let woken : is_woken done.left s.0 ≡ true = wakeups_are_pending rules l st first.caller first.call s.0
    ∙ or_left (is_wakeup s.0 first.call done.reply) (is_woken st s.0 && not (is_end s.0 first.call done.reply))
    wakeup in
    let pending = stays_through rules l done.left s.0 between none.1 woken in
    let same : (seq rules l mid further.caller further.call).left
    ≡ mid = ap (λ c. (seq rules l mid further.caller c).left) called
    ∙ further_wakeups_change_nothing rules l mid further.caller s pending in
    left_from-append rules l done.left between (further ∷ later)
    ∙ (ap (λ x. left_from rules l x later) same ∙ sym (left_from-append rules l done.left between later))
