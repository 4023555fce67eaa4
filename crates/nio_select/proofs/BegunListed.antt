-- What stands within a selection that goes by the selector's list after one step more.
use Rattle.std.proofs.Common.{◌≡◌, ℕ, true, false, ◌&&◌, ◌||◌, not, List, [], ◌∷◌, ◌++◌, refl, ap, sym, ◌∙◌, subst}
use Rattle.std.proofs.Common.{append_assoc, Bool, ◌==◌, eq-eqb, arith}
use Rattle.std.specs.Prelude.{nat_lt}
use Rattle.std.proofs.lemmas.Bool.{and_parts, and_from, or_right, le-ltb}
use Rattle.nio_base.specs.declared.limits.Limits.{Limits}
use Rattle.nio_base.specs.declared.numbers.CallerNo.{CallerNo}
use Rattle.nio_base.specs.declared.numbers.SelNo.{SelNo}
use Rattle.nio_history.proofs.Finds.{step_leaves}
use Rattle.nio_history.proofs.Legal.{legal_beginning}
use Rattle.nio_history.proofs.PassViews.{lasts_over}
use Rattle.nio_history.proofs.SelectedKeys.{selections_keep_keys}
use Rattle.nio_history.proofs.Soundness.{cancelled_parts, both_ways, legal-sound}
use Rattle.nio_history.specs.Conditions.{has_begun}
use Rattle.nio_history.specs.Histories.{state_after, event_of, IsLegal}
use Rattle.nio_history.specs.OwnEvents.{gives_turn, has}
use Rattle.nio_history.specs.Permanent.{list_had_by, key_cancelled}
use Rattle.nio_history.specs.Pins.{removes, IsKeptInSelection}
use Rattle.nio_history.specs.PassViews.{PassView, Holds, known, ActsClause}
use Rattle.nio_history.specs.Sets.{in_cancelled_set, was_cancelled}
use Rattle.nio_history.specs.State.{State}
use Rattle.nio_history.specs.declared.event.Event.{Event}
use Rattle.nio_history.specs.declared.act.Act.{Act}
use Rattle.nio_history.specs.declared.act.Act.TheVariants.{LookIndex, Touch}
use Rattle.nio_history.specs.declared.found.IndexWord.{IndexWord}
use Rattle.nio_history.specs.declared.found.Stage.{Stage}
use Rattle.nio_words.proofs.Views.{finds_drawn, step_acts, look_tells}
use Rattle.nio_words.specs.Passes.{state_seen}
use Rattle.nio_words.specs.Steps.{Steps}
use Rattle.nio_words.specs.Views.{view}
use Rattle.nio_words.specs.declared.words.Pass.{Pass}
use Rattle.nio_words.specs.declared.words.Words.{Words}
use Rattle.nio_select.specs.Begun.{HasBegun, HasBegunListed, IsFoundCancelled}
use Rattle.nio_select.proofs.Begun.{begun_stays}

-- a step that doesn't give the turn back leaves it so
pub listed_stays : {w : Words} {p q : Pass} {me : CallerNo} {act : Act} {s : SelNo} → Steps w p q me act
    → finds_drawn act ≡ false → gives_turn s.0 act ≡ false
    → HasBegunListed w p me s → HasBegunListed w q me s
listed_stays {me = me} {s = s} steps new keeps here = record {
  begun = begun_stays steps new keeps here.begun;
  list = lasts_over (list_had_by s me) (step_acts steps new) here.list;
}

-- so do steps of a call that leave the selection begun
pub listed_over : {w : Words} {p q : Pass} {me : CallerNo} {acts : List Act} {s : SelNo} → HasBegunListed w p me s
    → ActsClause me acts (view w p) (view w q) → HasBegun w q me s → HasBegunListed w q me s
listed_over {me = me} {s = s} here clause begun = record {
  begun = begun;
  list = lasts_over (list_had_by s me) clause here.list;
}

-- what a look at an index found of its key
pub index_now : {me : CallerNo} {s : SelNo} {i : ℕ} {found : IndexWord} {v0 v1 : PassView}
    → ActsClause me (LookIndex s i found ∷ []) v0 v1 → (known v1).key s.0 i ≡ found.stage
index_now {s = s} {i = i} {found = found} {v1 = v1} clause =
    let told : found.stage ≡ (known v1).key s.0 i = cc (look_tells clause refl) in sym told

pub found_cancelled_now : {w : Words} {p : Pass} {me : CallerNo} {s : SelNo} (i : ℕ) (stage : Stage) → HasBegun w p me s
    → (state_seen p).key s.0 i ≡ stage → IsFoundCancelled (state_seen p) me s i stage
found_cancelled_now {p = p} {me = me} {s = s} i stage here is = record {
  may = λ cancelled. and_from (has_begun (state_seen p) me s) (in_cancelled_set ((state_seen p).key s.0 i)) here.begun
      (ap in_cancelled_set is ∙ cancelled);
  serial = λ _. ap (λ (k : Stage). k.serial) is;
}

-- ---- while the caller selects, a cancelled key stays where it touches the index

-- a key of the cancelled set was claimed
cancelled_claimed : (l : Limits) (past : List Event) (s : SelNo) (i : ℕ) → IsLegal l past
    → in_cancelled_set ((state_after past).key s.0 i) ≡ true → ((state_after past).key s.0 i).claimed ≡ true
cancelled_claimed l past s i legal cancelled = by_test ((state_after past).key s.0 i).claimed refl
  where
    by_test : (b : Bool) → ((state_after past).key s.0 i).claimed ≡ b → ((state_after past).key s.0 i).claimed ≡ true
    by_test true claimed = claimed
    by_test false unclaimed =
        absurd (both_ways ((state_after past).key s.0 i).published (cancelled_parts ((state_after past).key s.0 i) cancelled).published
        (ap (λ k. k.published) ((legal-sound l past legal).unclaimed_bare s.0 i unclaimed)))

-- it was cancelled with its serial, and so it is while its index has that
was_of_own : (k : Stage) → k.claimed ≡ true → k.cancelled ≡ true → was_cancelled k k.serial ≡ true
was_of_own k claimed cancelled =
    or_right (nat_lt k.serial k.serial) ((k.claimed && (k.serial == k.serial)) && k.cancelled)
    (and_from (k.claimed && (k.serial == k.serial)) k.cancelled
    (and_from k.claimed (k.serial == k.serial) claimed (eq-eqb k.serial k.serial refl)) cancelled)

of_own : (k : Stage) (serial : ℕ) → k.serial ≡ serial → was_cancelled k serial ≡ true → k.cancelled ≡ true
of_own k serial same was =
    (and_parts (k.claimed && (k.serial == serial)) k.cancelled
    (sym (ap (λ b. b || ((k.claimed && (k.serial == serial)) && k.cancelled)) (le-ltb serial k.serial (omega (arith, same))))
    ∙ was)).1

pub cancelled_over : {me : CallerNo} {s : SelNo} {i : ℕ} {found : Bool} {v0 v1 : PassView}
    → ActsClause me (Touch s i found ∷ []) v0 v1 → has_begun (known v0) me s ≡ true
    → in_cancelled_set ((known v0).key s.0 i) ≡ true
    → (in_cancelled_set ((known v1).key s.0 i) ≡ true) × (((known v1).key s.0 i).serial ≡ ((known v0).key s.0 i).serial)
cancelled_over {me = me} {s = s} {i = i} {found = found} {v0 = v0} {v1 = v1} clause begun cancelled =
    let leaves = step_leaves v0.limits (Holds v0) me (Touch s i found) v0.seen v1.seen clause.history in
    let e = event_of me (Touch s i found) in
    let before : State = state_after (v0.seen ++ leaves.between) in
    let whole : v1.seen ≡ (v0.seen ++ leaves.between) ++ e ∷ [] = leaves.parts
    ∙ sym (append_assoc v0.seen leaves.between (e ∷ [])) in
    let legal : IsLegal v0.limits (v0.seen ++ leaves.between) = legal_beginning v0.limits (v0.seen ++ leaves.between)
    (e ∷ []) (subst (IsLegal v0.limits) whole clause.history.legal) in
    let legal_before : IsLegal v0.limits v0.seen = legal_beginning v0.limits v0.seen leaves.between legal in
    let was : Stage = (known v0).key s.0 i in
    let parts = cancelled_parts was cancelled in
    let kept : IsKeptInSelection was (before.key s.0 i) =
    (selections_keep_keys v0.limits me s i v0.seen leaves.between legal begun (ap (has (gives_turn s.0)) leaves.own)
    (ap (has (removes s.0 i)) leaves.own) parts.not_removed).0 in
    let same : (known v1).key s.0 i ≡ before.key s.0 i = ap (λ st. st.key s.0 i) leaves.state in
    let now : Stage = (known v1).key s.0 i in
    let serial : now.serial ≡ was.serial = ap (λ (k : Stage). k.serial) same ∙ kept.serial in
    let still : now.cancelled ≡ true = of_own now was.serial serial
    (lasts_over (key_cancelled s.0 i was.serial) clause
    (was_of_own was (cancelled_claimed v0.limits v0.seen s i legal_before cancelled) parts.cancelled)) in (
      and_from (now.published && not now.removed) now.cancelled
          (and_from now.published (not now.removed) (ap (λ (k : Stage). k.published) same ∙ kept.published parts.published)
          (ap (λ (k : Stage). not k.removed) same ∙ ap not kept.removed)) still,
      serial,
    )

-- so a key that was found cancelled may still be removed
pub found_over : {w : Words} {p q : Pass} {me : CallerNo} {s : SelNo} {i : ℕ} {touched : Bool} (stage : Stage)
    → Steps w p q me (Touch s i touched) → HasBegun w p me s → HasBegun w q me s
    → IsFoundCancelled (state_seen p) me s i stage → IsFoundCancelled (state_seen q) me s i stage
found_over {p = p} {q = q} {me = me} {s = s} {i = i} stage steps before after found = record {
  may = λ cancelled. and_from (has_begun (state_seen q) me s) (in_cancelled_set ((state_seen q).key s.0 i)) after.begun
      (over cancelled).0;
  serial = λ cancelled. (over cancelled).1 ∙ found.serial cancelled;
}
  where
    over : in_cancelled_set stage ≡ true → (in_cancelled_set ((state_seen q).key s.0 i) ≡ true)
        × (((state_seen q).key s.0 i).serial ≡ ((state_seen p).key s.0 i).serial)
    over cancelled =
        cancelled_over (step_acts steps refl) before.begun
        (and_parts (has_begun (state_seen p) me s) (in_cancelled_set ((state_seen p).key s.0 i)) (found.may cancelled)).1
