-- What a caller once found or did, and no step ends, stands in every later state.
use Rattle.std.proofs.Common.{◌≡◌, ℕ, ◌==◌, ◌<◌, Bool, true, false, ◌||◌, inl, inr, List, [], ◌∷◌, ◌++◌, refl, ap, sym}
use Rattle.std.proofs.Common.{◌∙◌, subst, eqb-true, Option, Some, ◌&&◌}
use Rattle.std.specs.Prelude.{nat_lt}
use Rattle.std.specs.Option.{option_or}
use Rattle.std.proofs.lemmas.Bool.{and_parts, ltb-true, lt-ltb, or_cases}
use Rattle.nio_base.specs.declared.limits.Limits.{Limits}
use Rattle.nio_base.specs.declared.numbers.CallerNo.{CallerNo}
use Rattle.nio_history.proofs.Claims.{if_some}
use Rattle.nio_history.proofs.Lasts.{keys_high_lasts}
use Rattle.nio_history.proofs.Legal.{legal_induction}
use Rattle.nio_history.proofs.OneMore.{state_after-more, mine-own, mine-other, has-more, last-more}
use Rattle.nio_history.proofs.Put.{same_pair}
use Rattle.nio_history.specs.Acts.{effect}
use Rattle.nio_history.specs.Answers.{Answers, index_at}
use Rattle.nio_history.specs.Histories.{state_after, is_by, mine, IsStep, IsLegal}
use Rattle.nio_history.specs.OwnEvents.{has, last, is_yes, finds_below, stage_found}
use Rattle.nio_history.specs.State.{State, opening}
use Rattle.nio_history.specs.declared.act.Act.{Act}
use Rattle.nio_history.specs.declared.act.Act.TheVariants.{LookKey, LookKeys, Pin, LookIndex}
use Rattle.nio_history.specs.declared.event.Event.{Event}
use Rattle.nio_history.specs.declared.found.Stage.{Stage}

-- A fact that each step keeps, and that stands after each step at which an act passes the test,
-- stands once a caller did such an act.
pub has_told : (l : Limits) (p : Act → Bool) (fact : State → Bool)
    → ((past : List Event) (e : Event) → IsLegal l past → IsStep l past e → fact (state_after past) ≡ true
    → fact (effect (state_after past) e.caller e.act) ≡ true)
    → ((past : List Event) (e : Event) → IsLegal l past → IsStep l past e → p e.act ≡ true
    → fact (effect (state_after past) e.caller e.act) ≡ true)
    → (n : CallerNo) (events : List Event) → IsLegal l events → has p (mine n events) ≡ true
    → fact (state_after events) ≡ true
has_told l p fact lasts tells n events legal =
    legal_induction l (λ evs. has p (mine n evs) ≡ true → fact (state_after evs) ≡ true)
    (λ e. absurd cc) each events legal
  where
    each : (past : List Event) (e : Event) → IsLegal l past → IsStep l past e
        → (has p (mine n past) ≡ true → fact (state_after past) ≡ true) → has p (mine n (past ++ e ∷ [])) ≡ true
        → fact (state_after (past ++ e ∷ [])) ≡ true
    each past e legal step before now =
        subst (λ st. fact st ≡ true) (sym (state_after-more past e)) (by_test (is_by n e) refl)
      where
        by_test : (b : Bool) → is_by n e ≡ b → fact (effect (state_after past) e.caller e.act) ≡ true
        by_test true by =
            let more : (has p (mine n past) || p e.act) ≡ true = sym (has-more p (mine n past) e.act)
            ∙ (sym (ap (has p) (mine-own n past e by)) ∙ now) in
            elim (or_cases (has p (mine n past)) (p e.act) more) [
              | inl had ↦ lasts past e legal step (before had)
              | inr tells' ↦ tells past e legal step tells'
            ]
        by_test false by = lasts past e legal step (before (sym (ap (has p) (mine-other n past e by)) ∙ now))

-- A fact of callers that only a caller's own acts change, each as `tells` says, is what its acts told last.
pub last_told : (l : Limits) (n : CallerNo) (tells : Act → Option Bool) (fact : CallerNo → State → Bool)
    → fact n opening ≡ false
    → ((past : List Event) (e : Event) → IsLegal l past → IsStep l past e
    → (told : Option Bool) → fact e.caller (state_after past) ≡ is_yes told
    → fact e.caller (effect (state_after past) e.caller e.act) ≡ is_yes (option_or (tells e.act) told))
    → ((past : List Event) (e : Event) → IsLegal l past → IsStep l past e → is_by n e ≡ false
    → fact n (effect (state_after past) e.caller e.act) ≡ fact n (state_after past))
    → (events : List Event) → IsLegal l events → fact n (state_after events) ≡ is_yes (last tells (mine n events))
last_told l n tells fact begins own other =
    legal_induction l (λ evs. fact n (state_after evs) ≡ is_yes (last tells (mine n evs))) begins each
  where
    each : (past : List Event) (e : Event) → IsLegal l past → IsStep l past e
        → fact n (state_after past) ≡ is_yes (last tells (mine n past))
        → fact n (state_after (past ++ e ∷ [])) ≡ is_yes (last tells (mine n (past ++ e ∷ [])))
    each past e legal step before = ap (fact n) (state_after-more past e) ∙ by_test (is_by n e) refl
      where
        caller : ℕ → CallerNo
        caller k = record { 0 = k }

        by_test : (b : Bool) → is_by n e ≡ b
            → fact n (effect (state_after past) e.caller e.act) ≡ is_yes (last tells (mine n (past ++ e ∷ [])))
        by_test true by =
            let same : e.caller ≡ n = ap caller (eqb-true e.caller.0 n.0 by) in
            ap (λ k. fact k (effect (state_after past) e.caller e.act)) (sym same)
            ∙ (own past e legal step (last tells (mine n past)) (ap (λ k. fact k (state_after past)) same ∙ before)
            ∙ sym (ap (λ acts. is_yes (last tells acts)) (mine-own n past e by)
            ∙ ap is_yes (last-more tells (mine n past) e.act)))
        by_test false by =
            other past e legal step by
            ∙ (before ∙ sym (ap (λ acts. is_yes (last tells acts)) (mine-other n past e by)))

-- ---- what a look finds of an index

pub stage_told : (st : State) (me : CallerNo) (act : Act) (s i : ℕ) (found : Stage) → Answers st me act
    → stage_found s i act ≡ Some found → (effect st me act).key s i ≡ found
stage_told st me (LookKey s' i' there) s i found answers told =
    let parts = if_some ((s'.0 == s) && (i' == i)) there found told in
    same_pair (λ a b. st.key a b ≡ found) s'.0 i' s i parts.0 (cc (parts.1))
stage_told st me (Pin s' i' there) s i found answers told =
    let parts = if_some ((s'.0 == s) && (i' == i)) there found told in
    same_pair (λ a b. st.key a b ≡ found) s'.0 i' s i parts.0 (cc (parts.1))
stage_told st me (LookIndex s' i' there) s i found answers told =
    let parts = if_some ((s'.0 == s) && (i' == i)) there.stage found told in
    let stands : there ≡ index_at st s'.0 i' = cc in
    same_pair (λ a b. st.key a b ≡ found) s'.0 i' s i parts.0 (ap (λ x. x.stage) (sym stands) ∙ cc (parts.1))
stage_told st me act s i found answers told = absurd (cc told)

-- ---- below the keys' high-water mark

below_tells : (st : State) (me : CallerNo) (act : Act) (s i : ℕ) → Answers st me act → finds_below s i act ≡ true
    → nat_lt i ((effect st me act).keys_high s) ≡ true
below_tells st me (LookKeys s' found) s i found_is h =
    let both = and_parts (s'.0 == s) (nat_lt i found) h in
    let same : s'.0 ≡ s = eqb-true s'.0 s both.0 in
    let stands : found ≡ st.keys_high s'.0 = cc in
    subst (λ (k : ℕ). nat_lt i (st.keys_high k) ≡ true) same (subst (λ (k : ℕ). nat_lt i k ≡ true) stands both.1)
below_tells st me act s i found_is h = absurd (cc h)

-- an index that a caller found below the high-water mark is below it
pub below_told : (l : Limits) (n : CallerNo) (events : List Event) (s i : ℕ) → IsLegal l events
    → has (finds_below s i) (mine n events) ≡ true → i < (state_after events).keys_high s
below_told l n events s i legal h =
    ltb-true _ _ (has_told l (finds_below s i) (λ st. nat_lt i (st.keys_high s))
    (λ past e legal' step before. lt-ltb _ _ (keys_high_lasts (state_after past) e.caller e.act s i (ltb-true _ _ before)))
    (λ past e legal' step. below_tells (state_after past) e.caller e.act s i step.answers)
    n events legal h)
