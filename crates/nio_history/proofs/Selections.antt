-- What stands while a caller selects.
use Rattle.std.proofs.Common.{◌≡◌, ℕ, ◌==◌, Bool, true, false, not, ◌&&◌, ◌||◌, List, [], ◌∷◌, ◌++◌, append_assoc, refl}
use Rattle.std.proofs.Common.{ap, sym, ◌∙◌, subst, eq-eqb}
use Rattle.std.proofs.lemmas.Bool.{and_parts, and_from, not-true}
use Rattle.nio_base.specs.Limits.{IsFit}
use Rattle.nio_base.specs.declared.limits.Limits.{Limits}
use Rattle.nio_base.specs.declared.numbers.CallerNo.{CallerNo}
use Rattle.nio_base.specs.declared.numbers.SelNo.{SelNo}
use Rattle.nio_history.proofs.Keeping.{has_neither, of_no_sort, stands_while}
use Rattle.nio_history.proofs.LastsAlone.{had_stands, spares_not, same_two}
use Rattle.nio_history.proofs.LastsOnceSound.{permanent_stands}
use Rattle.nio_history.proofs.Legal.{legal_beginning, legal_next}
use Rattle.nio_history.proofs.Put.{put_keeps, put_at_keeps}
use Rattle.nio_history.proofs.SelectedKeys.{kept_step, kept_from_start, selections_keep_keys}
use Rattle.nio_history.proofs.Soundness.{legal-sound, both_ways}
use Rattle.nio_history.proofs.TurnLaws.{selecting_is}
use Rattle.nio_history.proofs.Unpublished.{unpublished_keys_stay}
use Rattle.nio_history.specs.Acts.{effect}
use Rattle.nio_history.specs.Conditions.{Condition, has_begun}
use Rattle.nio_history.specs.Histories.{state_after, is_by, mine, IsStep, IsLegal}
use Rattle.nio_history.specs.Holders.{marks, SelectsAlone, KeySetStays, IsAtMostUnselected, MarksStay}
use Rattle.nio_history.specs.Holders.{WakeupStays}
use Rattle.nio_history.specs.Permanent.{index_claimed, a_selection}
use Rattle.nio_history.specs.OwnEvents.{has, gives_turn}
use Rattle.nio_history.specs.Pins.{removes, IsKeptInSelection}
use Rattle.nio_history.specs.Sets.{fits, in_key_set, is_in_key_set}
use Rattle.nio_history.specs.State.{State, unmarked}
use Rattle.nio_history.specs.Turns.{selects_on, ends_wakeup}
use Rattle.nio_history.specs.declared.act.Act.{Act}
use Rattle.nio_history.specs.declared.act.Act.TheVariants.{Wake, Mark, UnselectBit, EndWake, ShutBit, ClearMark}
use Rattle.nio_history.specs.declared.event.Event.{Event}
use Rattle.nio_history.specs.declared.found.Mark.{Mark as KeyMark}
use Rattle.nio_history.specs.declared.found.Stage.{Stage}
use Rattle.nio_history.proofs.OneMore.{has_none-append, mine-append}

-- whoever does what only the selecting caller does, while a caller selects, is that caller
alone_in : (l : Limits) (past : List Event) (e : Event) (n : CallerNo) (s : SelNo) → IsLegal l past → IsStep l past e
    → has_begun (state_after past) n s ≡ true
    → selects_on s.0 e.act ≡ true → e.caller.0 ≡ n.0
alone_in l past e n s legal step begun on =
    selecting_is l (mine e.caller past) (state_after past) e.caller n s e.act
    (legal-sound l past legal) begun step.condition on

pub selects_alone : SelectsAlone
selects_alone l n s before between e keeps on =
    let past : List Event = before ++ between in
    let joined : past ++ e ∷ [] ≡ before ++ (between ++ e ∷ []) = append_assoc before between (e ∷ []) in
    let legal : IsLegal l (past ++ e ∷ []) = subst (IsLegal l) (sym joined) keeps.legal in
    let legal_past : IsLegal l past = legal_beginning l past (e ∷ []) legal in
    let begun : has_begun (state_after past) n s ≡ true = had_stands l n before between legal_past
    (a_selection s) kept_between keeps.has_it in
    ap caller (alone_in l past e n s legal_past (legal_next l past e [] legal) begun on)
  where
    caller : ℕ → CallerNo
    caller k = record { 0 = k }

    kept_between : has (gives_turn s.0) (mine n between) ≡ false
    kept_between =
        (has_none-append (gives_turn s.0) (mine n between) (mine n (e ∷ []))
        (sym (ap (has (gives_turn s.0)) (mine-append n between (e ∷ []))) ∙ keeps.kept)).0

-- ---- the key set

-- a key of the key set isn't removed, and is published
in_set : (k : Stage) (serial : ℕ) → is_in_key_set k serial ≡ true → (fits k serial ≡ true) × (k.published ≡ true)
    × (k.removed ≡ false)
in_set k serial here =
    let parts = and_parts (fits k serial) (in_key_set k) here in
    let both = and_parts k.published not_removed parts.1 in
    (parts.0, both.0, not-true k.removed both.1)
  where
    not_removed : Bool
    not_removed = not k.removed

pub key_set_stays : KeySetStays
key_set_stays l n s before later keeps k spared here =
    let its = in_set was k.serial here in
    let same = and_parts was.claimed (was.serial == k.serial) its.0 in
    let kept = (selections_keep_keys l n s k.index before later keeps.legal keeps.has_it keeps.kept spared its.2).0 in
    let claimed : now.claimed ≡ true = permanent_stands l before later keeps.legal (index_claimed s.0 k.index) same.0 in
    and_from (fits now k.serial) (in_key_set now)
    (and_from now.claimed (now.serial == k.serial) claimed (ap (λ (q : ℕ). q == k.serial) kept.serial ∙ same.1))
    (and_from now.published (not_removed now) (kept.published its.1) (ap not kept.removed))
  where
    was : Stage
    was = (state_after before).key s.0 k.index

    now : Stage
    now = (state_after (before ++ later)).key s.0 k.index

    not_removed : Stage → Bool
    not_removed x = not x.removed

-- ---- marks

-- while its key is published, a mark is cleared by nobody
mark_kept : (l : Limits) (past : List Event) (me n : CallerNo) (act : Act) (s i : ℕ) (was : KeyMark) → IsFit l
    → IsLegal l past
    → Condition l (mine me past) (state_after past) me act
    → (selects_on s act ≡ true → me.0 ≡ n.0) → ((me.0 == n.0) && marks s i act) ≡ false
    → ((state_after past).key s i).published ≡ true
    → IsAtMostUnselected was ((state_after past).mark s i)
    → IsAtMostUnselected was ((effect (state_after past) me act).mark s i)
mark_kept l past me n (Mark s' i' from told found) s i was fit legal may alone spared published = λ now.
    put_at_keeps (λ m t x. ((s'.0 == m) ≡ true → me.0 ≡ n.0) → ((me.0 == n.0) && ((s'.0 == m) && (i' == t))) ≡ false
    → IsAtMostUnselected was x) (state_after past).mark s'.0 i' _
    (λ _ alone' spared'. absurd
    (spares_not me n ((s'.0 == s'.0) && (i' == i')) (alone' (eq-eqb s'.0 s'.0 refl)) (same_two s'.0 i') spared'))
    s i (λ _ _. now) (λ e. alone (ap (λ b. b || false) e)) spared
mark_kept l past me n (UnselectBit s' i' found) s i was fit legal may alone spared published =
    put_at_keeps (λ _ _ x. IsAtMostUnselected was x) (state_after past).mark s'.0 i' _
    (λ old. record { ready = old.ready; selected = λ now. absurd cc }) s i
mark_kept l past me n (ClearMark s' i' found) s i was fit legal may alone spared published = λ now.
    put_at_keeps (λ m t x. ((state_after past).key m t).published ≡ true → IsAtMostUnselected was x)
    (state_after past).mark s'.0 i' unmarked
    (λ _ there. absurd
    (both_ways ((state_after past).key s'.0 i').published there
    (unpublished_keys_stay l me s' i' past fit legal may.1)))
    s i (λ _. now) published
mark_kept l past me n act s i was fit legal may alone spared published = λ now. now

pub marks_stay : MarksStay
marks_stay l n s before later fit keeps k not_removed not_marked here =
    (stands_while l n (a_selection s) (λ act. removes s.0 k.index act || marks s.0 k.index act)
    (λ st. IsKeptInSelection was (st.key s.0 k.index)
    × IsAtMostUnselected ((state_after before).mark s.0 k.index) (st.mark s.0 k.index))
    (λ past e legal step had spared now.
    let parts = of_no_sort (is_by n e) (removes s.0 k.index e.act) (marks s.0 k.index e.act) spared in (
      kept_step l n s k.index was past e legal step had parts.0 now.0,
      mark_kept l past e.caller n e.act s.0 k.index _ fit legal step.condition
          (alone_in l past e n s legal step had) parts.1 (now.0.published its.1) now.1,
    ))
    before later keeps (has_neither (removes s.0 k.index) (marks s.0 k.index) (mine n later) not_removed not_marked)
    (kept_from_start was its.2, record { ready = refl; selected = λ now. now })).1
  where
    was : Stage
    was = (state_after before).key s.0 k.index

    its : (fits was k.serial ≡ true) × (was.published ≡ true) × (was.removed ≡ false)
    its = in_set was k.serial here

-- ---- the wakeup

woken_kept : (st : State) (me n : CallerNo) (act : Act) (s : ℕ) → (selects_on s act ≡ true → me.0 ≡ n.0)
    → ((me.0 == n.0) && ends_wakeup s act) ≡ false
    → (st.gate s).woken ≡ true → ((effect st me act).gate s).woken ≡ true
woken_kept st me n (Wake k found) s alone spared = put_keeps (λ _ g. g.woken ≡ true) st.gate k.0 _ (λ _. refl) s
woken_kept st me n (EndWake k found) s alone spared = λ now.
    put_keeps (λ m g. ((k.0 == m) ≡ true → me.0 ≡ n.0) → ((me.0 == n.0) && (k.0 == m)) ≡ false → g.woken ≡ true) st.gate
    k.0 _
    (λ _ alone' spared'. absurd
    (spares_not me n (k.0 == k.0) (alone' (eq-eqb k.0 k.0 refl)) (eq-eqb k.0 k.0 refl) spared'))
    s (λ _ _. now) alone spared
woken_kept st me n (ShutBit k found) s alone spared = put_keeps (λ _ g. g.woken ≡ true) st.gate k.0 _ (λ e. e) s
woken_kept st me n act s alone spared = λ now. now

pub wakeup_stays : WakeupStays
wakeup_stays l n s before later keeps spared here =
    stands_while l n (a_selection s) (ends_wakeup s.0) (λ st. (st.gate s.0).woken ≡ true)
    (λ past e legal step had spared'. woken_kept (state_after past) e.caller n e.act s.0
    (alone_in l past e n s legal step had) spared')
    before later keeps spared here
