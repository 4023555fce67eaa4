-- Who is amid a change of an index, and who has a list, is what its own acts say.
use Rattle.std.proofs.Common.{◌≡◌, ℕ, ◌==◌, ◌<◌, ◌≤◌, Bool, true, false, cond, ◌&&◌, ◌||◌, if◌then◌else◌, Some}
use Rattle.std.proofs.Common.{None, List, [], ◌∷◌, ◌++◌, refl, ap, sym, ◌∙◌, subst, eqb-true, eq-eqb, arith}
use Rattle.std.proofs.Math.Bool.{or-false, or-true, and-true, and-false}
use Rattle.std.proofs.lemmas.Bool.{eqb-false, false_from_ne_true, or_right, not-true}
use Rattle.nio_base.specs.declared.limits.Limits.{Limits}
use Rattle.nio_base.specs.declared.numbers.CallerNo.{CallerNo}
use Rattle.nio_history.proofs.Counts.{pinned_by}
use Rattle.nio_history.proofs.Legal.{legal_induction, legal_more}
use Rattle.nio_history.proofs.OneMore.{state_after-more, mine-own, mine-other, has-more, has_since-more}
use Rattle.nio_history.proofs.OwnPins.{swapped, same_at, other_step, pins_are_own}
use Rattle.nio_history.proofs.Put.{same_pair, put-same, put-other, put_keeps, put_at-there}
use Rattle.nio_history.proofs.Soundness.{legal-sound, both_ways}
use Rattle.nio_history.specs.Acts.{effect}
use Rattle.nio_history.specs.Answers.{Answers, is_pinned}
use Rattle.nio_history.specs.Conditions.{Condition, is_held_by}
use Rattle.nio_history.specs.Histories.{state_after, is_by, mine, IsStep, IsLegal}
use Rattle.nio_history.specs.OwnEvents.{has, pins_index, touches, since_pinned, keeps_touch}
use Rattle.nio_history.specs.OwnEvents.{takes_list}
use Rattle.nio_history.specs.Pins.{ChangesAreOwn, ListsAreOwn}
use Rattle.nio_history.specs.Sound.{IsSound}
use Rattle.nio_history.specs.State.{State, put, put_at}
use Rattle.nio_history.specs.declared.act.Act.{Act}
use Rattle.nio_history.specs.declared.act.Act.TheVariants.{Claim, Pin, Unpin, ClaimAgain, Touch, TakeList}
use Rattle.nio_history.specs.declared.event.Event.{Event}

caller : ℕ → CallerNo
caller k = record { 0 = k }

-- ---- amid a change

-- what stands at another pair of numbers is left
pub elsewhere : {A : Type 0} (f : ℕ → ℕ → A) (i j : ℕ) (x : A) (m n : ℕ) → ((i == m) && (j == n)) ≡ false
    → put_at f i j x m n ≡ f m n
elsewhere f i j x m n not_here =
    ap (λ b. cond b x (f m n))
    (ap (λ t. t && (n == j)) (swapped m i) ∙ (ap (λ t. (i == m) && t) (swapped n j) ∙ not_here))

-- a caller without a pin on an index is amid no change of it
not_amid : (st : State) → IsSound st → (s i n : ℕ) → st.pinned s i n ≡ false → st.amid s i n ≡ false
not_amid st sound s i n unpinned =
    false_from_ne_true (st.amid s i n) (λ amid. both_ways (st.pinned s i n) (sound.amid_pinned s i n amid) unpinned)

-- what a caller's touch under its present pin is after an act
abbrev touched_then : Bool → ℕ → ℕ → Act → Bool
touched_then touched s i act = if pins_index s i act then false else touched || touches s i act

own_change : (st : State) (me : CallerNo) (act : Act) → IsSound st → (l : Limits) (own : List Act)
    → Condition l own st me act → Answers st me act → me.0 < 64
    → (s i : ℕ) (touched : Bool) → st.amid s i me.0 ≡ (st.pinned s i me.0 && touched)
    → (effect st me act).amid s i me.0 ≡ ((effect st me act).pinned s i me.0 && touched_then touched s i act)
own_change st me act sound l own may answers few s i touched here = by_act act may answers
  where
    -- a pin is put on the index, or on another one
    pinned_now : (s' i' : ℕ) (x : Bool) → st.pinned s' i' me.0 ≡ false
        → st.amid s i me.0
        ≡ (put_at st.pinned s' i' (put (st.pinned s' i') me.0 x) s i me.0
        && (if (s' == s) && (i' == i) then false else touched || false))
    pinned_now s' i' x unpinned = by_place ((s' == s) && (i' == i)) refl
      where
        pin : Bool
        pin = put_at st.pinned s' i' (put (st.pinned s' i') me.0 x) s i me.0

        by_place : (b : Bool) → ((s' == s) && (i' == i)) ≡ b
            → st.amid s i me.0 ≡ (pin && (if b then false else touched || false))
        by_place true e =
            not_amid st sound s i me.0 (same_pair (λ a b. st.pinned a b me.0 ≡ false) s' i' s i e unpinned)
            ∙ sym (and-false pin)
        by_place false e =
            here
            ∙ (ap (λ b. st.pinned s i me.0 && b) (sym (or-false touched))
            ∙ ap (λ g. g me.0 && (touched || false))
            (sym (elsewhere st.pinned s' i' (put (st.pinned s' i') me.0 x) s i e)))

    -- the pins are left
    left : (s' i' : ℕ)
        → st.amid s i me.0
        ≡ (put_at st.pinned s' i' (put (st.pinned s' i') me.0 (st.pinned s' i' me.0 || false)) s i me.0
        && (touched || false))
    left s' i' =
        here
        ∙ (ap (λ b. st.pinned s i me.0 && b) (sym (or-false touched))
        ∙ ap (λ b. b && (touched || false))
        (sym (same_at (λ g. g me.0) st.pinned s' i' (put (st.pinned s' i') me.0 (st.pinned s' i' me.0 || false)) s i
        (put-same (st.pinned s' i') me.0 (st.pinned s' i' me.0 || false) ∙ or-false (st.pinned s' i' me.0)))))

    -- the caller's own pin shows
    own_unpinned : (s' i' : ℕ) → is_pinned st s' i' ≡ false → st.pinned s' i' me.0 ≡ false
    own_unpinned s' i' unpinned =
        false_from_ne_true (st.pinned s' i' me.0) (λ pin. pinned_by st s' i' me.0 few pin unpinned)

    by_act : (act' : Act) → Condition l own st me act' → Answers st me act'
        → (effect st me act').amid s i me.0 ≡ ((effect st me act').pinned s i me.0 && touched_then touched s i act')
    by_act (Claim s' i' c true) may' answers' = left s'.0 i'
    by_act (Claim s' i' c false) may' answers' =
        let unclaimed_yet : (st.key s'.0 i').claimed ≡ false = cc in
        pinned_now s'.0 i' (st.pinned s'.0 i' me.0 || true) (sound.unclaimed_unpinned s'.0 i' me.0 unclaimed_yet)
    by_act (ClaimAgain s' i' c from true) may' answers' = left s'.0 i'
    by_act (ClaimAgain s' i' c from false) may' answers' =
        let unpinned : is_pinned st s'.0 i' ≡ false = cc in
        pinned_now s'.0 i' (st.pinned s'.0 i' me.0 || true) (own_unpinned s'.0 i' unpinned)
    by_act (Pin s' i' found) may' answers' = pinned_now s'.0 i' true (not-true (st.pinned s'.0 i' me.0) may'.2)
    by_act (Unpin s' i') may' answers' = by_place ((s'.0 == s) && (i' == i)) refl
      where
        amid : ℕ → Bool
        amid = put (st.amid s'.0 i') me.0 false

        pin : ℕ → Bool
        pin = put (st.pinned s'.0 i') me.0 false

        by_place : (b : Bool) → ((s'.0 == s) && (i' == i)) ≡ b
            → put_at st.amid s'.0 i' amid s i me.0 ≡ (put_at st.pinned s'.0 i' pin s i me.0 && (touched || false))
        by_place true e =
            ap (λ g. g me.0) (put_at-there st.amid s'.0 i' amid s i e)
            ∙ (put-same (st.amid s'.0 i') me.0 false
            ∙ ap (λ b. b && (touched || false))
            (sym (ap (λ g. g me.0) (put_at-there st.pinned s'.0 i' pin s i e)
            ∙ put-same (st.pinned s'.0 i') me.0 false)))
        by_place false e =
            ap (λ g. g me.0) (elsewhere st.amid s'.0 i' amid s i e)
            ∙ (here
            ∙ (ap (λ b. st.pinned s i me.0 && b) (sym (or-false touched))
            ∙ ap (λ g. g me.0 && (touched || false)) (sym (elsewhere st.pinned s'.0 i' pin s i e))))
    by_act (Touch s' i' found) may' answers' = by_place ((s'.0 == s) && (i' == i)) refl
      where
        amid : ℕ → Bool
        amid = put (st.amid s'.0 i') me.0 (st.pinned s'.0 i' me.0)

        by_place : (b : Bool) → ((s'.0 == s) && (i' == i)) ≡ b
            → put_at st.amid s'.0 i' amid s i me.0 ≡ (st.pinned s i me.0 && (touched || b))
        by_place true e =
            ap (λ g. g me.0) (put_at-there st.amid s'.0 i' amid s i e)
            ∙ (put-same (st.amid s'.0 i') me.0 (st.pinned s'.0 i' me.0)
            ∙ (same_pair (λ a b. st.pinned s'.0 i' me.0 ≡ st.pinned a b me.0) s'.0 i' s i e refl
            ∙ (sym (and-true (st.pinned s i me.0))
            ∙ ap (λ b. st.pinned s i me.0 && b) (sym (or-true touched)))))
        by_place false e =
            ap (λ g. g me.0) (elsewhere st.amid s'.0 i' amid s i e)
            ∙ (here ∙ ap (λ b. st.pinned s i me.0 && b) (sym (or-false touched)))
    by_act act' may' answers' = here ∙ ap (λ b. st.pinned s i me.0 && b) (sym (or-false touched))

-- no other caller changes what a caller is amid of
other_change : (st : State) (me : CallerNo) (act : Act) (n s i : ℕ) → (me.0 == n) ≡ false
    → (effect st me act).amid s i n ≡ st.amid s i n
other_change st me (Touch s' i' found) n s i other =
    same_at (λ g. g n) st.amid s'.0 i' (put (st.amid s'.0 i') me.0 (st.pinned s'.0 i' me.0)) s i
    (put-other (st.amid s'.0 i') me.0 (st.pinned s'.0 i' me.0) n (λ same. eqb-false me.0 n other (sym same)))
other_change st me (Unpin s' i') n s i other =
    same_at (λ g. g n) st.amid s'.0 i' (put (st.amid s'.0 i') me.0 false) s i
    (put-other (st.amid s'.0 i') me.0 false n (λ same. eqb-false me.0 n other (sym same)))
other_change st me act n s i other = refl

-- one act more in a caller's span under its pin
touched_more : (s i : ℕ) (own : List Act) (act : Act)
    → has (touches s i) (since_pinned s i (own ++ act ∷ []))
    ≡ touched_then (has (touches s i) (since_pinned s i own)) s i act
touched_more s i own act = has_since-more (pins_index s i) (touches s i) own act

pub changes_are_own : ChangesAreOwn
unfolding caller
changes_are_own l n s i events fit =
    legal_induction l (λ evs. (state_after evs).amid s.0 i n.0 ≡ keeps_touch s.0 i (mine n evs)) refl each events
  where
    -- by the state's pins, which are the caller's own
    Own : List Event → Type 0
    Own evs =
        (state_after evs).amid s.0 i n.0
        ≡ ((state_after evs).pinned s.0 i n.0 && has (touches s.0 i) (since_pinned s.0 i (mine n evs)))

    as_kept : (evs : List Event) → IsLegal l evs
        → ((state_after evs).pinned s.0 i n.0 && has (touches s.0 i) (since_pinned s.0 i (mine n evs)))
        ≡ keeps_touch s.0 i (mine n evs)
    as_kept evs legal =
        ap (λ b. b && has (touches s.0 i) (since_pinned s.0 i (mine n evs))) (pins_are_own l n s i evs legal)

    each : (past : List Event) (e : Event) → IsLegal l past → IsStep l past e
        → (state_after past).amid s.0 i n.0 ≡ keeps_touch s.0 i (mine n past)
        → (state_after (past ++ e ∷ [])).amid s.0 i n.0 ≡ keeps_touch s.0 i (mine n (past ++ e ∷ []))
    each past e legal step before =
        by_caller (is_by n e) refl ∙ as_kept (past ++ e ∷ []) (legal_more l past e legal step)
      where
        st : State
        st = state_after past

        touched : Bool
        touched = has (touches s.0 i) (since_pinned s.0 i (mine n past))

        here : st.amid s.0 i n.0 ≡ (st.pinned s.0 i n.0 && touched)
        here = before ∙ sym (as_kept past legal)

        few : e.caller.0 < 64
        few = let own_number : e.caller.0 < l.callers = step.by_caller in
            let callers : l.callers ≤ 64 = fit.few_callers in
            omega arith

        by_caller : (b : Bool) → is_by n e ≡ b → Own (past ++ e ∷ [])
        by_caller true by =
            let same : e.caller ≡ n = ap caller (eqb-true e.caller.0 n.0 by) in
            let after =
            own_change st e.caller e.act (legal-sound l past legal) l (mine e.caller past) step.condition step.answers few
            s.0 i touched (subst (λ m. st.amid s.0 i m.0 ≡ (st.pinned s.0 i m.0 && touched)) (sym same) here) in
            subst (λ x. x.amid s.0 i n.0 ≡ (x.pinned s.0 i n.0 && has (touches s.0 i)
            (since_pinned s.0 i (mine n (past ++ e ∷ []))))) (sym (state_after-more past e))
            (subst (λ b. (effect st e.caller e.act).amid s.0 i n.0 ≡ ((effect st e.caller e.act).pinned s.0 i n.0 && b))
            (sym (touched_more s.0 i (mine n past) e.act)
            ∙ sym (ap (λ own. has (touches s.0 i) (since_pinned s.0 i own)) (mine-own n past e by)))
            (subst (λ m. (effect st e.caller e.act).amid s.0 i m.0
            ≡ ((effect st e.caller e.act).pinned s.0 i m.0 && touched_then touched s.0 i e.act)) same after))
        by_caller false by = others
          where
            pins : (effect st e.caller e.act).pinned s.0 i n.0 ≡ st.pinned s.0 i n.0
            pins = other_step st e.caller e.act n.0 s.0 i by

            others : Own (past ++ e ∷ [])
            others =
                ap (λ x. x.amid s.0 i n.0) (state_after-more past e)
                ∙ (other_change st e.caller e.act n.0 s.0 i by
                ∙ (here
                ∙ sym (ap (λ x. x.pinned s.0 i n.0 && has (touches s.0 i)
                (since_pinned s.0 i (mine n (past ++ e ∷ [])))) (state_after-more past e)
                ∙ (ap (λ b. b && has (touches s.0 i) (since_pinned s.0 i (mine n (past ++ e ∷ [])))) pins
                ∙ ap (λ own. st.pinned s.0 i n.0 && has (touches s.0 i) (since_pinned s.0 i own))
                (mine-other n past e by)))))

-- ---- a list

own_list : (st : State) (me : CallerNo) (act : Act) → Answers st me act → (s : ℕ)
    → is_held_by me ((effect st me act).lister s) ≡ (is_held_by me (st.lister s) || takes_list s act)
own_list st me (TakeList k None) answers s = by_test (s == k.0) refl
  where
    had : Bool
    had = is_held_by me (st.lister s)

    by_test : (b : Bool) → (s == k.0) ≡ b → is_held_by me (cond b (Some me) (st.lister s)) ≡ (had || (k.0 == s))
    by_test true e = eq-eqb me.0 me.0 refl ∙ sym (or_right had (k.0 == s) (swapped k.0 s ∙ e))
    by_test false e = sym (ap (λ b. had || b) (swapped k.0 s ∙ e) ∙ or-false had)
own_list st me (TakeList k (Some x)) answers s =
    let stands : Some x ≡ st.lister k.0 = cc in
    put_keeps (λ a o. is_held_by me o ≡ is_held_by me (st.lister a)) st.lister k.0 (Some x)
    (λ _. ap (is_held_by me) stands) s refl
    ∙ sym (or-false (is_held_by me (st.lister s)))
own_list st me act answers s = sym (or-false (is_held_by me (st.lister s)))

other_list : (st : State) (me n : CallerNo) (act : Act) → Answers st me act → (s : ℕ) → (me.0 == n.0) ≡ false
    → is_held_by n ((effect st me act).lister s) ≡ is_held_by n (st.lister s)
other_list st me n (TakeList k None) answers s other =
    let stands : None ≡ st.lister k.0 = cc in
    put_keeps (λ a o. is_held_by n o ≡ is_held_by n (st.lister a)) st.lister k.0 (Some me)
    (λ _. other ∙ ap (is_held_by n) stands) s refl
other_list st me n (TakeList k (Some x)) answers s other =
    let stands : Some x ≡ st.lister k.0 = cc in
    put_keeps (λ a o. is_held_by n o ≡ is_held_by n (st.lister a)) st.lister k.0 (Some x)
    (λ _. ap (is_held_by n) stands) s refl
other_list st me n act answers s other = refl

pub lists_are_own : ListsAreOwn
unfolding caller
lists_are_own l n s =
    legal_induction l (λ evs. is_held_by n ((state_after evs).lister s.0) ≡ has (takes_list s.0) (mine n evs)) refl each
  where
    each : (past : List Event) (e : Event) → IsLegal l past → IsStep l past e
        → is_held_by n ((state_after past).lister s.0) ≡ has (takes_list s.0) (mine n past)
        → is_held_by n ((state_after (past ++ e ∷ [])).lister s.0) ≡ has (takes_list s.0) (mine n (past ++ e ∷ []))
    each past e legal step before =
        ap (λ st. is_held_by n (st.lister s.0)) (state_after-more past e) ∙ by_caller (is_by n e) refl
      where
        by_caller : (b : Bool) → is_by n e ≡ b
            → is_held_by n ((effect (state_after past) e.caller e.act).lister s.0)
            ≡ has (takes_list s.0) (mine n (past ++ e ∷ []))
        by_caller true by =
            let same : e.caller ≡ n = ap caller (eqb-true e.caller.0 n.0 by) in
            subst (λ m. is_held_by m ((effect (state_after past) e.caller e.act).lister s.0)
            ≡ (is_held_by m ((state_after past).lister s.0) || takes_list s.0 e.act)) same
            (own_list (state_after past) e.caller e.act step.answers s.0)
            ∙ (ap (λ b. b || takes_list s.0 e.act) before
            ∙ sym (ap (has (takes_list s.0)) (mine-own n past e by) ∙ has-more (takes_list s.0) (mine n past) e.act))
        by_caller false by =
            other_list (state_after past) e.caller n e.act step.answers s.0 by
            ∙ (before ∙ sym (ap (has (takes_list s.0)) (mine-other n past e by)))
