-- While a caller selects, a key that it doesn't remove stays.
use Rattle.std.proofs.Common.{◌≡◌, ℕ, ◌==◌, true, false, ◌&&◌, inl, inr, List, ◌++◌, refl, ap, sym, ◌∙◌, subst, eq-eqb}
use Rattle.std.proofs.lemmas.Bool.{and_parts, and_from, false_from_ne_true}
use Rattle.nio_base.specs.declared.limits.Limits.{Limits}
use Rattle.nio_base.specs.declared.numbers.CallerNo.{CallerNo}
use Rattle.nio_base.specs.declared.numbers.SelNo.{SelNo}
use Rattle.nio_history.proofs.Keeping.{stands_while}
use Rattle.nio_history.proofs.KeyChanges.{KeepsStages, stages_keep, back_parts}
use Rattle.nio_history.proofs.LastsAlone.{one_holder}
use Rattle.nio_history.proofs.Soundness.{legal-sound, held_some, both_ways, may_remove}
use Rattle.nio_history.specs.Acts.{effect}
use Rattle.nio_history.specs.Conditions.{Condition, is_held_by, has_turn, has_begun}
use Rattle.nio_history.specs.Histories.{state_after, mine, IsStep, IsLegal}
use Rattle.nio_history.specs.Permanent.{a_selection}
use Rattle.nio_history.specs.Pins.{removes, IsKeptInSelection, SelectionsKeepKeys}
use Rattle.nio_history.specs.Sound.{IsSound}
use Rattle.nio_history.specs.State.{State}
use Rattle.nio_history.specs.declared.act.Act.{Act}
use Rattle.nio_history.specs.declared.act.Act.TheVariants.{Remove}
use Rattle.nio_history.specs.declared.event.Event.{Event}
use Rattle.nio_history.specs.declared.found.Stage.{Stage}

-- at a step by which caller n doesn't remove the key of index i itself
abbrev IsSpared : CallerNo → SelNo → ℕ → CallerNo → Act → Type 0
IsSpared n s i me act = ((me.0 == n.0) && removes s.0 i act) ≡ false

kept_keeps : (l : Limits) (own : List Act) (st : State) (me n : CallerNo) (s : SelNo) (i : ℕ) (was : Stage) → IsSound st
    → is_held_by n (st.turn s.0) ≡ true → st.begun s.0 ≡ true
    → KeepsStages (λ act. Condition l own st me act × IsSpared n s i me act) st
    (λ a b k. a ≡ s.0 → b ≡ i → IsKeptInSelection was k)
kept_keeps l own st me n s i was sound turn begun = record {
  claimed = λ s' i' c unclaimed_yet old at_s at_i.
      let bare = sound.unclaimed_bare s'.0 i' unclaimed_yet in
      let o = old at_s at_i in
      record {
        serial = sym (ap (λ k. k.serial) bare) ∙ o.serial;
        removed = refl;
        published = λ published. absurd
            (both_ways (st.key s'.0 i').published (o.published published) (ap (λ k. k.published) bare));
      };
  published = λ s' i' found may old at_s at_i. let o = old at_s at_i in
      record { serial = o.serial; removed = o.removed; published = λ _. refl };
  cancelled = λ s' i' found may old at_s at_i. let o = old at_s at_i in
      record { serial = o.serial; removed = o.removed; published = o.published };
  removed = λ s' i' found may old at_s at_i. absurd (nobody_removes s' i' found may.0 may.1 at_s at_i);
  again = λ s' i' c from may unpinned old at_s at_i.
      absurd (both_ways (st.key s'.0 i').removed
      (back_parts (st.key s'.0 i') (sound.taken_back s'.0 i' (held_some me (st.taker s'.0 i') may.0.3))).removed
      (old at_s at_i).removed);
}
  where
    nobody_removes : (s' : SelNo) (i' : ℕ) (found : Stage) → Condition l own st me (Remove s' i' found)
        → IsSpared n s i me (Remove s' i' found) → s'.0 ≡ s.0 → i' ≡ i → ⊥
    nobody_removes s' i' found may spared at_s at_i =
        elim (may_remove st own me s' i' may.1) [
          | inl sweep ↦
              let its : is_held_by me (st.turn s'.0)
              ≡ true = (and_parts (has_turn st me s') (st.begun s'.0) sweep.0).0 in
              let itself : me.0 ≡ n.0 = one_holder me n (st.turn s.0)
              (subst (λ (a : ℕ). is_held_by me (st.turn a) ≡ true) at_s its) turn in
              both_ways ((me.0 == n.0) && ((s'.0 == s.0) && (i' == i)))
              (and_from (me.0 == n.0) ((s'.0 == s.0) && (i' == i)) (eq-eqb me.0 n.0 itself)
              (and_from (s'.0 == s.0) (i' == i) (eq-eqb s'.0 s.0 at_s) (eq-eqb i' i at_i))) spared
          | inr clear ↦ both_ways (st.entered s.0) (subst (λ (a : ℕ). st.entered a ≡ true) at_s clear.0)
              (sound.begun_open s.0 begun)
        ]

pub kept_step : (l : Limits) (n : CallerNo) (s : SelNo) (i : ℕ) (was : Stage) (past : List Event) (e : Event)
    → IsLegal l past → IsStep l past e
    → has_begun (state_after past) n s ≡ true → IsSpared n s i e.caller e.act
    → IsKeptInSelection was ((state_after past).key s.0 i)
    → IsKeptInSelection was ((effect (state_after past) e.caller e.act).key s.0 i)
kept_step l n s i was past e legal step begun spared here =
    let st : State = state_after past in
    let both = and_parts (has_turn st n s) (st.begun s.0) begun in
    stages_keep (λ act. Condition l (mine e.caller past) st e.caller act × IsSpared n s i e.caller act) st e.caller
    (λ a b k. a ≡ s.0 → b ≡ i → IsKeptInSelection was k)
    (kept_keeps l (mine e.caller past) st e.caller n s i was (legal-sound l past legal) both.0 both.1) e.act
    (step.condition, spared) step.answers s.0 i (λ _ _. here) refl refl

pub kept_from_start : (k : Stage) → k.removed ≡ false → IsKeptInSelection k k
kept_from_start k unremoved = record { serial = refl; removed = unremoved; published = λ e. e }

pub selections_keep_keys : SelectionsKeepKeys
selections_keep_keys l n s i before later legal begun keeps_turn keeps_key unremoved =
    (kept, false_from_ne_true (after.free s.0 i) not_free)
  where
    was : Stage
    was = (state_after before).key s.0 i

    after : State
    after = state_after (before ++ later)

    kept : IsKeptInSelection was (after.key s.0 i)
    kept = stands_while l n (a_selection s) (removes s.0 i) (λ st. IsKeptInSelection was (st.key s.0 i))
        (kept_step l n s i was)
        before later record {
          legal = legal;
          has_it = begun;
          kept = keeps_turn;
        } keeps_key (kept_from_start was unremoved)

    not_free : after.free s.0 i ≡ true → ⊥
    not_free free =
        both_ways (after.key s.0 i).removed
        (back_parts (after.key s.0 i) ((legal-sound l (before ++ later) legal).free_back s.0 i free)).removed
        kept.removed
