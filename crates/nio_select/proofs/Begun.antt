-- What stands within a selection after one step more.
use Rattle.std.proofs.Common.{◌≡◌, ℕ, true, false, ◌&&◌, ◌||◌, not, [], ◌∷◌, ◌++◌, refl, ap, sym, ◌∙◌, subst}
use Rattle.std.proofs.Common.{append_assoc}
use Rattle.std.specs.Prelude.{nat_lt}
use Rattle.std.proofs.lemmas.Bool.{and_parts, and_from, or_right}
use Rattle.nio_base.specs.declared.numbers.CallerNo.{CallerNo}
use Rattle.nio_base.specs.declared.numbers.SelNo.{SelNo}
use Rattle.nio_channel.proofs.Held.{had_stays}
use Rattle.nio_history.proofs.Finds.{step_leaves}
use Rattle.nio_history.proofs.LastsAlone.{own_stands}
use Rattle.nio_history.proofs.Legal.{legal_beginning}
use Rattle.nio_history.proofs.Put.{put_at-same}
use Rattle.nio_history.proofs.SelectedKeys.{selections_keep_keys}
use Rattle.nio_history.proofs.Soundness.{cancelled_parts}
use Rattle.nio_history.specs.Acts.{frees_index}
use Rattle.nio_history.specs.Conditions.{IsSelector, has_begun, has_turn, may_put_due, may_remove_cancelled}
use Rattle.nio_history.specs.Histories.{state_after, event_of, IsLegal}
use Rattle.nio_history.specs.OwnEvents.{gives_turn, has}
use Rattle.nio_history.specs.Permanent.{a_selection}
use Rattle.nio_history.specs.Pins.{removes, IsKeptInSelection}
use Rattle.nio_history.specs.PassViews.{PassView, Holds, known, ActsClause}
use Rattle.nio_history.specs.Sets.{in_cancelled_set}
use Rattle.nio_base.specs.Numbers.{last_serial}
use Rattle.nio_history.specs.State.{State}
use Rattle.nio_history.specs.declared.act.Act.{Act}
use Rattle.nio_history.specs.declared.act.Act.TheVariants.{LookKey, BeginLook, Remove}
use Rattle.nio_history.specs.declared.found.GateWord.{GateWord}
use Rattle.nio_history.specs.declared.found.Stage.{Stage}
use Rattle.nio_select.specs.Begun.{HasBegun}
use Rattle.nio_words.proofs.Stepping.{still_ready}
use Rattle.nio_words.proofs.Views.{finds_drawn, step_acts, look_tells, selection_begun}
use Rattle.nio_words.specs.Passes.{state_seen, limits_of, IsReady}
use Rattle.nio_words.specs.Steps.{Steps}
use Rattle.nio_words.specs.declared.words.Pass.{Pass}
use Rattle.nio_words.specs.declared.words.Words.{Words}

-- a step that doesn't give the turn back leaves the selection begun
pub begun_stays : {w : Words} {p q : Pass} {me : CallerNo} {act : Act} {s : SelNo} → Steps w p q me act
    → finds_drawn act ≡ false → gives_turn s.0 act ≡ false
    → HasBegun w p me s → HasBegun w q me s
begun_stays {w = w} {p = p} {q = q} {me = me} {act = act} {s = s} steps new keeps here = record {
  ready = still_ready w p q me me act steps here.ready;
  inside = here.inside;
  begun = had_stays (a_selection s) steps new keeps here.ready.pass here.begun;
}

-- what a look at a key found is what the key is
pub stage_now : {me : CallerNo} {s : SelNo} {i : ℕ} {stage : Stage} {v0 v1 : PassView}
    → ActsClause me (LookKey s i stage ∷ []) v0 v1 → (known v1).key s.0 i ≡ stage
stage_now {s = s} {i = i} {stage = stage} {v1 = v1} clause = let told : stage ≡ (known v1).key s.0 i =
    cc (look_tells clause refl) in sym told

-- a key that was found in the cancelled set may be removed
pub may_remove_now : {w : Words} {p : Pass} {me : CallerNo} {s : SelNo} {stage : Stage} (i : ℕ) → HasBegun w p me s
    → (state_seen p).key s.0 i ≡ stage → in_cancelled_set stage ≡ true
    → may_remove_cancelled (state_seen p) me s i ≡ true
may_remove_now {p = p} {me = me} {s = s} i here is cancelled =
    and_from (has_begun (state_seen p) me s) (in_cancelled_set ((state_seen p).key s.0 i)) here.begun
    (ap in_cancelled_set is ∙ cancelled)

-- the index of a cancelled key that the caller just removed is still to be put, where there is a next serial
pub due_now : {me : CallerNo} {s : SelNo} {i : ℕ} {found : Stage} {v0 v1 : PassView} (stage : Stage)
    → ActsClause me (Remove s i found ∷ []) v0 v1 → may_remove_cancelled (known v0) me s i ≡ true
    → ((known v0).key s.0 i).serial ≡ stage.serial → nat_lt stage.serial last_serial ≡ true
    → has_begun (known v1) me s ≡ true → may_put_due (known v1) me s i ≡ true
due_now {me = me} {s = s} {i = i} {found = found} {v0 = v0} {v1 = v1} stage clause may is below begun =
    let leaves = step_leaves v0.limits (Holds v0) me (Remove s i found) v0.seen v1.seen clause.history in
    let before : State = state_after (v0.seen ++ leaves.between) in
    let e = event_of me (Remove s i found) in
    let whole : v1.seen ≡ (v0.seen ++ leaves.between) ++ e ∷ [] = leaves.parts
    ∙ sym (append_assoc v0.seen leaves.between (e ∷ [])) in
    let legal : IsLegal v0.limits (v0.seen ++ leaves.between) = legal_beginning v0.limits (v0.seen ++ leaves.between)
    (e ∷ []) (subst (IsLegal v0.limits) whole clause.history.legal) in
    let was = and_parts (has_begun (known v0) me s) (in_cancelled_set ((known v0).key s.0 i)) may in
    let unremoved : ((known v0).key s.0 i).removed
    ≡ false = (cancelled_parts ((known v0).key s.0 i) was.1).not_removed in
    let kept : IsKeptInSelection ((known v0).key s.0 i) (before.key s.0 i) =
    (selections_keep_keys v0.limits me s i v0.seen leaves.between legal was.0 (ap (has (gives_turn s.0)) leaves.own)
    (ap (has (removes s.0 i)) leaves.own) unremoved).0 in
    let begun_before : has_begun before me s ≡ true = own_stands v0.limits me v0.seen leaves.between legal leaves.own
    (a_selection s) was.0 in
    let told : found ≡ before.key s.0 i = cc leaves.step.answers in
    let frees : frees_index found ≡ true =
    and_from (not found.removed) (nat_lt found.serial last_serial)
    (ap (λ (k : Stage). not k.removed) told ∙ ap not kept.removed)
    (ap (λ (k : Stage). nat_lt k.serial last_serial) told
    ∙ (ap (λ (n : ℕ). nat_lt n last_serial) (kept.serial ∙ is) ∙ below)) in
    let due : (known v1).put_due s.0 i ≡ true =
    ap (λ st. st.put_due s.0 i) leaves.state
    ∙ (put_at-same before.put_due s.0 i (before.put_due s.0 i || (before.begun s.0 && frees_index found))
    ∙ or_right (before.put_due s.0 i) (before.begun s.0 && frees_index found)
    (and_from (before.begun s.0) (frees_index found)
    (and_parts (has_turn before me s) (before.begun s.0) begun_before).1 frees)) in
    and_from (has_begun (known v1) me s) ((known v1).put_due s.0 i) begun due

-- ---- the beginning

pub begins : {w : Words} {p q : Pass} {me : CallerNo} {s : SelNo} {found : GateWord}
    → Steps w p q me (BeginLook s found) → found.shut ≡ false → IsReady w p me → IsSelector (limits_of w) s
    → HasBegun w q me s
begins {w = w} {p = p} {q = q} {me = me} {s = s} {found = found} steps unshut ready inside = record {
  ready = still_ready w p q me me (BeginLook s found) steps ready;
  inside = inside;
  begun = selection_begun (step_acts steps refl) unshut;
}
