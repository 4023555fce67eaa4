-- The debt of a clearing out: of an index whose key may be or become valid, in every legal and careful history, the
-- selector's closer owes the clearing out.
use Rattle.std.proofs.Common.{◌≡◌, ℕ, ◌==◌, ◌<◌, Bool, true, false, cond, not, ◌&&◌, ◌||◌, ◌⊎◌, inl, inr, Option, Some}
use Rattle.std.proofs.Common.{None, is_some, List, [], ◌∷◌, ◌++◌, refl, ap, sym, ◌∙◌, subst, eqb-true, arith}
use Rattle.std.specs.Prelude.{nat_lt}
use Rattle.std.proofs.lemmas.Bool.{and_parts, and_from, not-true, not_from_false, false_from_ne_true}
use Rattle.nio_base.specs.Limits.{IsFit}
use Rattle.nio_base.specs.declared.limits.Limits.{Limits}
use Rattle.nio_base.specs.declared.numbers.CallerNo.{CallerNo}
use Rattle.nio_history.proofs.Claims.{claim_after, own_claim-more, if_some}
use Rattle.nio_history.proofs.Counts.{pinned_by}
use Rattle.nio_history.proofs.KeyChanges.{KeepsStages, stages_keep}
use Rattle.nio_history.proofs.Legal.{legal_more, legal_induction}
use Rattle.nio_history.proofs.OneMore.{state_after-more, mine-own, mine-other, has-more, since_first-none}
use Rattle.nio_history.proofs.OneMore.{since_first-more}
use Rattle.nio_history.proofs.PinLaws.{own_claims_stand}
use Rattle.nio_history.proofs.Put.{put_keeps, put_at-there}
use Rattle.nio_history.proofs.Soundness.{legal-sound, both_ways, pinned-claimed}
use Rattle.nio_history.proofs.Within.{legal-within}
use Rattle.nio_history.specs.Acts.{effect}
use Rattle.nio_history.specs.Answers.{Answers}
use Rattle.nio_history.specs.Histories.{state_after, is_by, mine, IsStep, IsLegal}
use Rattle.nio_history.specs.OwnEvents.{OwnClaim, has, since_entered, enters, finds_below, claim_changed, own_claim}
use Rattle.nio_history.specs.Pins.{removes}
use Rattle.nio_history.specs.Sets.{in_key_set}
use Rattle.nio_history.specs.Sound.{IsSound}
use Rattle.nio_history.specs.State.{State}
use Rattle.nio_history.specs.declared.act.Act.{Act}
use Rattle.nio_history.specs.declared.act.Act.TheVariants.{LookGate, Claim, LookKeys, Remove, ShutBit, Unpin}
use Rattle.nio_history.specs.declared.act.Act.TheVariants.{ClaimAgain}
use Rattle.nio_history.specs.declared.event.Event.{Event}
use Rattle.nio_orderly.proofs.ActLists.{owes-more, prepared-more}
use Rattle.nio_orderly.proofs.Careful.{beginnings_are_careful}
use Rattle.nio_orderly.proofs.KeySet.{WasThere, came}
use Rattle.nio_orderly.proofs.KeysStand.{keys_stand, published, prepared_below}
use Rattle.nio_orderly.proofs.Standing.{entered_told}
use Rattle.nio_orderly.specs.Careful.{claims, finds_open, is_prepared, IsCareful}
use Rattle.nio_orderly.specs.Owed.{publishes_key, looks_at_high, owes, clearing_duty, key_of}

-- ---- what a closer may have to remove

-- a caller claimed the index, has the pin of that claim, and has prepared the key
pub record IsMaking (events : List Event) (s i : ℕ) : Type 0 where
  pub caller : CallerNo
  pub claim : OwnClaim
  pub its : own_claim s i (mine caller events) ≡ Some claim
  pub prepared : is_prepared s i (mine caller events) ≡ true

-- the key of the index isn't removed, and it is published or somebody may publish it
pub record IsComing (events : List Event) (s i : ℕ) : Type 0 where
  pub unremoved : ((state_after events).key s i).removed ≡ false
  pub how : (((state_after events).key s i).published ≡ true) ⊎ IsMaking events s i

-- ---- what one step does

-- a look that finds the gate not shut leaves it so
open_told : (st : State) (me : CallerNo) (act : Act) (s : ℕ) → Answers st me act → finds_open s act ≡ true
    → ((effect st me act).gate s).shut ≡ false
open_told st me (LookGate k found) s answers told =
    let both = and_parts (k.0 == s) (not found.shut) told in
    let same : k.0 ≡ s = eqb-true k.0 s both.0 in
    let found_is : found ≡ st.gate k.0 = cc in
    subst (λ (m : ℕ). (st.gate m).shut ≡ false) same (subst (λ g. g.shut ≡ false) found_is (not-true found.shut both.1))
open_told st me act s answers told = absurd (cc told)

-- who claims an index is one who claims it
claim_claims : (s i : ℕ) (act : Act) (claim : OwnClaim) → claim_changed s i act ≡ Some (Some claim)
    → claims s i act ≡ true
claim_claims s i (Claim s' i' c false) claim changed = (if_some ((s'.0 == s) && (i' == i)) _ _ changed).0
claim_claims s i (ClaimAgain s' i' c from false) claim changed = (if_some ((s'.0 == s) && (i' == i)) _ _ changed).0
claim_claims s i (Unpin s' i') claim changed =
    let clash : None ≡ Some claim = (if_some ((s'.0 == s) && (i' == i)) _ _ changed).1 in
    absurd cc
claim_claims s i act claim changed = absurd (cc changed)

-- an index on which a caller has a pin stays removed
removed_keeps : (May : Act → Type 0) (st : State) (n : ℕ) → IsSound st → n < 64
    → KeepsStages May st (λ s i k. st.pinned s i n ≡ true → k.removed ≡ true)
removed_keeps May st n sound below = record {
  claimed = λ s i c unclaimed_yet old pin. absurd
      (both_ways (st.key s.0 i).claimed (pinned-claimed st sound s.0 i n pin) unclaimed_yet);
  published = λ s i found may old. old;
  cancelled = λ s i found may old. old;
  removed = λ s i found may old pin. refl;
  again = λ s i c from may unpinned old pin. absurd (pinned_by st s.0 i n below pin unpinned);
}

unremoved_before : (l : Limits) (past : List Event) (e : Event) (n : CallerNo) (s i : ℕ) (claim : OwnClaim) → IsFit l
    → IsLegal l past → IsStep l past e
    → own_claim s i (mine n past) ≡ Some claim → ((effect (state_after past) e.caller e.act).key s i).removed ≡ false
    → ((state_after past).key s i).removed ≡ false
unremoved_before l past e n s i claim fit legal step its unremoved = false_from_ne_true (st.key s i).removed (λ removed.
    both_ways ((effect st e.caller e.act).key s i).removed
    (stages_keep (λ _. Unit) st e.caller (λ a b k. st.pinned a b n.0 ≡ true → k.removed ≡ true)
    (removed_keeps (λ _. Unit) st n.0 (legal-sound l past legal) below) e.act tt step.answers s i (λ _. removed) pinned)
    unremoved)
  where
    st : State
    st = state_after past

    pinned : st.pinned s i n.0 ≡ true
    pinned = (own_claims_stand l n (record { 0 = s }) i claim past fit legal its).0

    below : n.0 < 64
    below =
        let in_range = (legal-within l past legal).pins s i n.0 pinned in
        let few = fit.few_callers in
        omega arith

removed_now : (st : State) (me : CallerNo) (act : Act) (s i : ℕ) → removes s i act ≡ true
    → ((effect st me act).key s i).removed ≡ true
removed_now st me (Remove s' i' found) s i told =
    ap (λ k. k.removed) (put_at-there st.key s'.0 i' (record (st.key s'.0 i') { removed = true }) s i told)
removed_now st me act s i told = absurd (cc told)

looks_below : (st : State) (me : CallerNo) (act : Act) (s i : ℕ) → Answers st me act → nat_lt i (st.keys_high s) ≡ true
    → looks_at_high s act ≡ true → finds_below s i act ≡ true
looks_below st me (LookKeys k found) s i answers below looks =
    let same : k.0 ≡ s = eqb-true k.0 s looks in
    let found_is : found ≡ st.keys_high k.0 = cc in
    and_from (k.0 == s) (nat_lt i found) looks
    (ap (nat_lt i) found_is ∙ subst (λ (m : ℕ). nat_lt i (st.keys_high m) ≡ true) (sym same) below)
looks_below st me act s i answers below looks = absurd (cc looks)

-- a closer was so before, or the step shut the selector, which wasn't shut
record ShutsNow (st : State) (s : ℕ) (act : Act) : Type 0 where
  open_before : (st.gate s).shut ≡ false
  not_entering : enters s act ≡ false

came_closer : (st : State) (me n : CallerNo) (act : Act) → Answers st me act → (s : ℕ)
    → (effect st me act).closer s ≡ Some n → (st.closer s ≡ Some n) ⊎ ShutsNow st s act
came_closer st me n (ShutBit k true) answers s =
    put_keeps (λ m o. o ≡ Some n → (st.closer m ≡ Some n) ⊎ ShutsNow st m (ShutBit k true)) st.closer k.0
    (st.closer k.0) (λ old. old) s (λ e. inl e)
came_closer st me n (ShutBit k false) answers s =
    let open_still : (st.gate k.0).shut ≡ false = cc in
    put_keeps (λ m o. o ≡ Some n → (st.closer m ≡ Some n) ⊎ ShutsNow st m (ShutBit k false)) st.closer k.0 (Some me)
    (λ old e. inr (record { open_before = open_still; not_entering = refl })) s (λ e. inl e)
came_closer st me n act answers s = λ e. inl e

-- ---- an index whose key is coming after a step, of a shut selector, had its key coming before

coming_before : (l : Limits) (past : List Event) (e : Event) → IsFit l → IsLegal l past → IsStep l past e
    → IsCareful (past ++ e ∷ [])
    → (s i : ℕ) → ((effect (state_after past) e.caller e.act).gate s).shut ≡ true → IsComing (past ++ e ∷ []) s i
    → IsComing past s i
coming_before l past e fit legal step careful s i shut coming = by_how coming.how
  where
    me : CallerNo
    me = e.caller

    st : State
    st = state_after past

    st' : State
    st' = effect st me e.act

    after_is : state_after (past ++ e ∷ []) ≡ st'
    after_is = state_after-more past e

    unremoved : (st'.key s i).removed ≡ false
    unremoved = subst (λ x. (x.key s i).removed ≡ false) after_is coming.unremoved

    making : (n : CallerNo) (claim : OwnClaim) → own_claim s i (mine n past) ≡ Some claim
        → is_prepared s i (mine n past) ≡ true → IsComing past s i
    making n claim its prepared = record {
      unremoved = unremoved_before l past e n s i claim fit legal step its unremoved;
      how = inr (record { caller = n; claim = claim; its = its; prepared = prepared });
    }

    in_set : (st'.key s i).published ≡ true → in_key_set (st'.key s i) ≡ true
    in_set published' =
        and_from (st'.key s i).published (not (st'.key s i).removed) published'
        (not_from_false (st'.key s i).removed unremoved)

    by_published : WasThere (st.key s i) (st'.key s i)
        ⊎ (publishes_key (st'.key s i).chan.0 s (key_of st' s i) e.act ≡ true) → IsComing past s i
    by_published (inl was) =
        let both = and_parts (st.key s i).published (not (st.key s i).removed) was.in_set in
        record { unremoved = not-true (st.key s i).removed both.1; how = inl both.0 }
    by_published (inr new) =
        let its = published l past e fit legal step careful (st'.key s i).chan.0 s (key_of st' s i) new in
        record {
          unremoved = its.unremoved;
          how = inr (record {
            caller = me;
            claim = its.claim;
            its = its.its;
            prepared = its.prepared;
          });
        }

    by_caller : (m : IsMaking (past ++ e ∷ []) s i) → (b : Bool) → is_by m.caller e ≡ b → IsComing past s i
    by_caller m false by = making m.caller m.claim (sym (ap (own_claim s i) (mine-other m.caller past e by)) ∙ m.its)
        (sym (ap (is_prepared s i) (mine-other m.caller past e by)) ∙ m.prepared)
    by_caller m true by = by_change (claim_changed s i e.act) refl now
      where
        now : claim_after (claim_changed s i e.act) (own_claim s i (mine m.caller past)) ≡ Some m.claim
        now = sym (own_claim-more s i (mine m.caller past) e.act)
            ∙ (sym (ap (own_claim s i) (mine-own m.caller past e by)) ∙ m.its)

        more : (claims s i e.act ≡ false)
            × ((is_prepared s i (mine m.caller past) ≡ true) ⊎ (finds_open s e.act ≡ true))
        more = prepared-more s i (mine m.caller past) e.act
            (sym (ap (is_prepared s i) (mine-own m.caller past e by)) ∙ m.prepared)

        by_change : (x : Option (Option OwnClaim)) → claim_changed s i e.act ≡ x
            → claim_after x (own_claim s i (mine m.caller past)) ≡ Some m.claim → IsComing past s i
        by_change None changed had = elim more.1 [
          | inl prepared ↦ making m.caller m.claim had prepared
          | inr opened ↦ absurd (both_ways (st'.gate s).shut shut (open_told st me e.act s step.answers opened))
        ]
        by_change (Some x) changed had =
            absurd (both_ways (claims s i e.act) (claim_claims s i e.act m.claim (changed ∙ ap Some had)) more.0)

    by_how : (((state_after (past ++ e ∷ [])).key s i).published ≡ true) ⊎ IsMaking (past ++ e ∷ []) s i
        → IsComing past s i
    by_how (inl published') =
        by_published
        (came st me e.act step.answers s i (in_set (subst (λ x. (x.key s i).published ≡ true) after_is published')))
    by_how (inr m) = by_caller m (is_by m.caller e) refl

-- a key that is coming is below the high-water mark
coming_below : (l : Limits) (events : List Event) → IsFit l → IsLegal l events → IsCareful events → (s i : ℕ)
    → IsComing events s i → nat_lt i ((state_after events).keys_high s) ≡ true
coming_below l events fit legal careful s i coming = elim coming.how [
  | inl published' ↦
      (keys_stand l fit events legal careful).below s i
      (and_from ((state_after events).key s i).published (not ((state_after events).key s i).removed) published'
      (not_from_false ((state_after events).key s i).removed coming.unremoved))
  | inr m ↦ prepared_below l m.caller events s i legal m.prepared
]

-- ---- in every history

abbrev IsOwedClearing : List Event → ℕ → ℕ → CallerNo → Type 0
IsOwedClearing events s i n = (state_after events).closer s ≡ Some n → IsComing events s i
    → owes (clearing_duty s i) (since_entered s (mine n events)) ≡ true

clearing_step : (l : Limits) (past : List Event) (e : Event) → IsFit l → IsLegal l past → IsStep l past e
    → IsCareful (past ++ e ∷ [])
    → (s i : ℕ) (n : CallerNo) → IsOwedClearing past s i n → IsOwedClearing (past ++ e ∷ []) s i n
clearing_step l past e fit legal step careful s i n before closer coming =
    by_closer (came_closer st me n e.act step.answers s closer_now)
  where
    me : CallerNo
    me = e.caller

    st : State
    st = state_after past

    st' : State
    st' = effect st me e.act

    closer_now : st'.closer s ≡ Some n
    closer_now = subst (λ x. x.closer s ≡ Some n) (state_after-more past e) closer

    careful_past : IsCareful past
    careful_past = beginnings_are_careful past (past ++ e ∷ []) (e ∷ [], refl) careful

    sound' : IsSound st'
    sound' = subst IsSound (state_after-more past e) (legal-sound l (past ++ e ∷ []) (legal_more l past e legal step))

    shut : (st'.gate s).shut ≡ true
    shut = sound'.closer_shut s (ap is_some closer_now)

    coming_then : IsComing past s i
    coming_then = coming_before l past e fit legal step careful s i shut coming

    unsettled : removes s i e.act ≡ false
    unsettled = false_from_ne_true (removes s i e.act) (λ told.
        both_ways (st'.key s i).removed (removed_now st me e.act s i told)
        (subst (λ x. (x.key s i).removed ≡ false) (state_after-more past e) coming.unremoved))

    -- who hasn't entered owes
    not_in : (own : List Act) → has (enters s) own ≡ false → owes (clearing_duty s i) (since_entered s own) ≡ true
    not_in own none_such = ap (owes (clearing_duty s i)) (since_first-none (enters s) own none_such)

    by_entered : (b : Bool) → has (enters s) (mine n past) ≡ b → is_by n e ≡ true
        → owes (clearing_duty s i) (since_entered s (mine n past)) ≡ true
        → owes (clearing_duty s i) (since_entered s (mine n (past ++ e ∷ []))) ≡ true
    by_entered b entered by owing =
        ap (λ own. owes (clearing_duty s i) (since_entered s own)) (mine-own n past e by)
        ∙ (ap (owes (clearing_duty s i))
        (since_first-more (enters s) (mine n past) e.act
        ∙ ap (λ x. cond {A = List Act} x (since_entered s (mine n past) ++ e.act ∷ []) []) entered) ∙ by_test b)
      where
        by_test : (x : Bool)
            → owes (clearing_duty s i) (cond {A = List Act} x (since_entered s (mine n past) ++ e.act ∷ []) []) ≡ true
        by_test true =
            owes-more (clearing_duty s i) (since_entered s (mine n past)) e.act
            (looks_below st me e.act s i step.answers (coming_below l past fit legal careful_past s i coming_then))
            unsettled owing
        by_test false = refl

    by_caller : (b : Bool) → is_by n e ≡ b → owes (clearing_duty s i) (since_entered s (mine n past)) ≡ true
        → owes (clearing_duty s i) (since_entered s (mine n (past ++ e ∷ []))) ≡ true
    by_caller true by owing = by_entered (has (enters s) (mine n past)) refl by owing
    by_caller false by owing = ap (λ own. owes (clearing_duty s i) (since_entered s own)) (mine-other n past e by)
        ∙ owing

    by_closer : (st.closer s ≡ Some n) ⊎ ShutsNow st s e.act
        → owes (clearing_duty s i) (since_entered s (mine n (past ++ e ∷ []))) ≡ true
    by_closer (inl closer_then) = by_caller (is_by n e) refl (before closer_then coming_then)
    by_closer (inr shuts) = not_in (mine n (past ++ e ∷ [])) (none_by (is_by n e) refl)
      where
        none_before : has (enters s) (mine n past) ≡ false
        none_before = false_from_ne_true (has (enters s) (mine n past)) (λ had.
            let sound : IsSound st = legal-sound l past legal in
            both_ways (st.gate s).shut
            (sound.closer_shut s (sound.entered_closer s (entered_told l n past s legal had))) shuts.open_before)

        none_by : (b : Bool) → is_by n e ≡ b → has (enters s) (mine n (past ++ e ∷ [])) ≡ false
        none_by true by = ap (has (enters s)) (mine-own n past e by) ∙ (has-more (enters s) (mine n past) e.act
            ∙ (ap (λ b. b || enters s e.act) none_before ∙ shuts.not_entering))
        none_by false by = ap (has (enters s)) (mine-other n past e by) ∙ none_before

pub clearing_owed : (l : Limits) → IsFit l → (events : List Event) → IsLegal l events → IsCareful events
    → (s i : ℕ) (n : CallerNo) → IsOwedClearing events s i n
clearing_owed l fit = legal_induction l (λ evs. IsCareful evs → (s i : ℕ) (n : CallerNo) → IsOwedClearing evs s i n)
    (λ careful s i n closer. absurd cc)
    (λ past e legal step before careful s i n.
    clearing_step l past e fit legal step careful s i n
    (before (beginnings_are_careful past (past ++ e ∷ []) (e ∷ [], refl) careful) s i n))
