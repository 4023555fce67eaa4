-- A key that its caller hasn't published isn't published: nobody else can.
use Rattle.std.proofs.Common.{◌≡◌, ℕ, ◌==◌, ◌<◌, Bool, true, false, ◌&&◌, suc, Option, Some, None, if◌then◌else◌, List}
use Rattle.std.proofs.Common.{[], ◌∷◌, ◌++◌, refl, ap, sym, ◌∙◌, subst, eqb-true, eq-eqb, arith}
use Rattle.std.specs.Option.{option_or}
use Rattle.std.proofs.lemmas.Bool.{and_from}
use Rattle.nio_base.specs.Limits.{IsFit}
use Rattle.nio_base.specs.declared.limits.Limits.{Limits}
use Rattle.nio_base.specs.declared.numbers.CallerNo.{CallerNo}
use Rattle.nio_history.proofs.Claims.{claim_after, own_claim-more, claim_pinned, if_some}
use Rattle.nio_history.proofs.Counts.{pinned_by}
use Rattle.nio_history.proofs.KeyChanges.{back_parts, stages_keep}
use Rattle.nio_history.proofs.Lasts.{claimed_lasts}
use Rattle.nio_history.proofs.Legal.{legal_induction}
use Rattle.nio_history.proofs.OneMore.{state_after-more, mine-own, mine-other, last-more}
use Rattle.nio_history.proofs.Put.{put_at-there, same_pair}
use Rattle.nio_history.proofs.Soundness.{legal-sound, held_some, both_ways}
use Rattle.nio_history.proofs.Within.{legal-within}
use Rattle.nio_history.specs.Acts.{effect, new_key}
use Rattle.nio_history.specs.Answers.{Answers, is_pinned}
use Rattle.nio_history.specs.Conditions.{Condition, may_publish}
use Rattle.nio_history.specs.Histories.{state_after, is_by, mine, IsStep, IsLegal}
use Rattle.nio_history.specs.OwnEvents.{OwnClaim, last, is_yes, claim_changed, own_claim, leaves_unpublished}
use Rattle.nio_history.specs.OwnEvents.{is_unpublished}
use Rattle.nio_history.specs.Pins.{UnpublishedKeysStay}
use Rattle.nio_history.specs.Sound.{IsSound}
use Rattle.nio_history.specs.State.{State}
use Rattle.nio_history.specs.declared.act.Act.{Act}
use Rattle.nio_history.specs.declared.act.Act.TheVariants.{Claim, Publish, Unpin, ClaimAgain}
use Rattle.nio_history.specs.declared.event.Event.{Event}

-- the key of an index that a caller claimed and hasn't published since: it isn't published, and no other
-- caller has a claim of it
record IsAlone (n : CallerNo) (s i : ℕ) (events : List Event) : Type 0 where
  claimed : ((state_after events).key s i).claimed ≡ true
  unpublished : ((state_after events).key s i).published ≡ false
  only : (m : CallerNo) (claim : OwnClaim) → own_claim s i (mine m events) ≡ Some claim → n.0 ≡ m.0

pub is_unpublished-more : (s i : ℕ) (own : List Act) (act : Act)
    → is_unpublished s i (own ++ act ∷ [])
    ≡ is_yes (option_or (leaves_unpublished s i act) (last (leaves_unpublished s i) own))
is_unpublished-more s i own act = ap is_yes (last-more (leaves_unpublished s i) own act)

-- a new key isn't published, and no other step than one that publishes the key makes it so
published_kept : (st : State) (me : CallerNo) (act : Act) (s i : ℕ) → Answers st me act
    → (leaves_unpublished s i act ≡ Some false → ⊥)
    → (st.key s i).published ≡ false → ((effect st me act).key s i).published ≡ false
published_kept st me act s i answers spared now =
    stages_keep (λ act'. leaves_unpublished s i act' ≡ Some false → ⊥) st me
    (λ a b k. a ≡ s → b ≡ i → k.published ≡ false) (record {
      claimed = λ s' i' c _ _ _ _. refl;
      published = λ s' i' found may _ at_s at_i. absurd (may (ap (λ b. if b then Some false else None)
          (and_from (s'.0 == s) (i' == i) (eq-eqb s'.0 s at_s) (eq-eqb i' i at_i))));
      cancelled = λ s' i' found may old. old;
      removed = λ s' i' found may old. old;
      again = λ s' i' c from may _ _ _ _. refl;
    }) act spared answers s i (λ _ _. now) refl refl

-- a claim of an index that has a claim already, or whose key isn't published, is no step
no_new_claim : (l : Limits) (own : List Act) (st : State) (me : CallerNo) (act : Act) (s i : ℕ) (claim : OwnClaim)
    → IsSound st → Condition l own st me act → Answers st me act
    → (st.key s i).claimed ≡ true → (st.key s i).published ≡ false → claim_changed s i act ≡ Some (Some claim) → ⊥
no_new_claim l own st me (Claim s' i' c false) s i claim sound may answers claimed unpublished changed =
    both_ways (st.key s i).claimed claimed
    (same_pair (λ a b. (st.key a b).claimed ≡ false) s'.0 i' s i (if_some ((s'.0 == s) && (i' == i)) _ _ changed).0 (cc))
no_new_claim l own st me (ClaimAgain s' i' c from false) s i claim sound may answers claimed unpublished changed =
    let published =
    (back_parts (st.key s'.0 i') (sound.taken_back s'.0 i' (held_some me (st.taker s'.0 i') may.3))).published in
    both_ways (st.key s i).published
    (same_pair (λ a b. (st.key a b).published ≡ true) s'.0 i' s i (if_some ((s'.0 == s) && (i' == i)) _ _ changed).0
    published) unpublished
no_new_claim l own st me (Unpin s' i') s i claim sound may answers claimed unpublished changed =
    let clash : None ≡ Some claim = (if_some ((s'.0 == s) && (i' == i)) _ _ changed).1 in
    cc
no_new_claim l own st me act s i claim sound may answers claimed unpublished changed = cc (changed)

-- after a claim the key is the new one, which isn't published, and nobody had a claim of the index before
record IsFresh (s i : ℕ) (past : List Event) (e : Event) : Type 0 where
  claimed : ((effect (state_after past) e.caller e.act).key s i).claimed ≡ true
  unpublished : ((effect (state_after past) e.caller e.act).key s i).published ≡ false
  nobody : (m : CallerNo) (claim : OwnClaim) → own_claim s i (mine m past) ≡ Some claim → ⊥

claims_fresh : (l : Limits) (past : List Event) (me : CallerNo) (act : Act) (s i : ℕ) → IsFit l → IsLegal l past
    → Condition l (mine me past) (state_after past) me act → Answers (state_after past) me act
    → leaves_unpublished s i act ≡ Some true → IsFresh s i past (record { caller = me; act = act })
claims_fresh l past me (Claim s' i' c false) s i fit legal may answers leaves =
    let at = (if_some ((s'.0 == s) && (i' == i)) _ _ leaves).0 in
    let new = put_at-there st.key s'.0 i' (new_key c 0) s i at in
    let unclaimed_yet : (st.key s'.0 i').claimed ≡ false = cc in
    record {
      claimed = ap (λ k. k.claimed) new;
      unpublished = ap (λ k. k.published) new;
      nobody = λ m claim had. both_ways (st.pinned s i m.0) (claim_pinned l m past s i claim legal had)
          ((legal-sound l past legal).unclaimed_unpinned s i m.0
          (same_pair (λ a b. (st.key a b).claimed ≡ false) s'.0 i' s i at unclaimed_yet));
    }
  where
    st : State
    st = state_after past
claims_fresh l past me (ClaimAgain s' i' c from false) s i fit legal may answers leaves =
    let at = (if_some ((s'.0 == s) && (i' == i)) _ _ leaves).0 in
    let new = put_at-there st.key s'.0 i' (new_key c (suc (st.key s'.0 i').serial)) s i at in
    let unpinned : is_pinned st s'.0 i' ≡ false = cc in
    record {
      claimed = ap (λ k. k.claimed) new;
      unpublished = ap (λ k. k.published) new;
      nobody = λ m claim had. pinned_by st s i m.0 (below m claim had) (claim_pinned l m past s i claim legal had)
          (same_pair (λ a b. is_pinned st a b ≡ false) s'.0 i' s i at unpinned);
    }
  where
    st : State
    st = state_after past

    below : (m : CallerNo) (claim : OwnClaim) → own_claim s i (mine m past) ≡ Some claim → m.0 < 64
    below m claim had =
        let in_range = (legal-within l past legal).pins s i m.0 (claim_pinned l m past s i claim legal had) in
        let few = fit.few_callers in
        omega arith
claims_fresh l past me (Publish s' i' found) s i fit legal may answers leaves =
    let clash : false ≡ true = (if_some ((s'.0 == s) && (i' == i)) false true leaves).1 in
    absurd cc
claims_fresh l past me act s i fit legal may answers leaves = absurd (cc leaves)

-- whoever publishes a key has a claim of it
publisher_claims : (st : State) (own : List Act) (me : CallerNo) (claim : Option OwnClaim)
    → may_publish st own me claim ≡ true → (its : OwnClaim) × (claim ≡ Some its)
publisher_claims st own me None may = absurd cc
publisher_claims st own me (Some claim) may = (claim, refl)

publishing_claims : (l : Limits) (own : List Act) (st : State) (me : CallerNo) (act : Act) (s i : ℕ)
    → Condition l own st me act → leaves_unpublished s i act ≡ Some false
    → (its : OwnClaim) × (own_claim s i own ≡ Some its)
publishing_claims l own st me (Publish s' i' found) s i may leaves =
    let its = publisher_claims st own me (own_claim s'.0 i' own) may.1 in (
      its.0,
      same_pair (λ a b. own_claim a b own ≡ Some its.0) s'.0 i' s i (if_some ((s'.0 == s) && (i' == i)) _ _ leaves).0
          its.1,
    )
publishing_claims l own st me (Claim s' i' c false) s i may leaves =
    let clash : true ≡ false = (if_some ((s'.0 == s) && (i' == i)) true false leaves).1 in
    absurd cc
publishing_claims l own st me (ClaimAgain s' i' c from false) s i may leaves =
    let clash : true ≡ false = (if_some ((s'.0 == s) && (i' == i)) true false leaves).1 in
    absurd cc
publishing_claims l own st me act s i may leaves = absurd (cc leaves)

alone : (l : Limits) (n : CallerNo) (s i : ℕ) → IsFit l → (events : List Event) → IsLegal l events
    → is_unpublished s i (mine n events) ≡ true → IsAlone n s i events
alone l n s i fit =
    legal_induction l (λ evs. is_unpublished s i (mine n evs) ≡ true → IsAlone n s i evs) (λ e. absurd cc) each
  where
    each : (past : List Event) (e : Event) → IsLegal l past → IsStep l past e
        → (is_unpublished s i (mine n past) ≡ true → IsAlone n s i past)
        → is_unpublished s i (mine n (past ++ e ∷ [])) ≡ true → IsAlone n s i (past ++ e ∷ [])
    each past e legal step before now = by_caller (is_by n e) refl
      where
        st : State
        st = state_after past

        -- a claim that another caller than this step's has it had before
        other_claim : (m : CallerNo) (claim : OwnClaim) → own_claim s i (mine m (past ++ e ∷ [])) ≡ Some claim
            → is_by m e ≡ false → own_claim s i (mine m past) ≡ Some claim
        other_claim m claim has_it by = sym (ap (own_claim s i) (mine-other m past e by)) ∙ has_it

        -- nothing is published by this step
        going_on : IsAlone n s i past → (leaves_unpublished s i e.act ≡ Some false → ⊥)
            → ((m : CallerNo) (claim : OwnClaim) → is_by m e ≡ true
            → own_claim s i (mine m (past ++ e ∷ [])) ≡ Some claim → n.0 ≡ m.0)
            → IsAlone n s i (past ++ e ∷ [])
        going_on earlier spared its = record {
          claimed = subst (λ x. (x.key s i).claimed ≡ true) (sym (state_after-more past e))
              (claimed_lasts st e.caller e.act s i earlier.claimed);
          unpublished = subst (λ x. (x.key s i).published ≡ false) (sym (state_after-more past e))
              (published_kept st e.caller e.act s i step.answers spared earlier.unpublished);
          only = λ m claim has_it. by_other m claim has_it (is_by m e) refl;
        }
          where
            by_other : (m : CallerNo) (claim : OwnClaim) → own_claim s i (mine m (past ++ e ∷ [])) ≡ Some claim
                → (b : Bool) → is_by m e ≡ b → n.0 ≡ m.0
            by_other m claim has_it true by = its m claim by has_it
            by_other m claim has_it false by = earlier.only m claim (other_claim m claim has_it by)

        -- a step of the caller itself
        by_own : (x : Option Bool) → leaves_unpublished s i e.act ≡ x
            → is_yes (option_or x (last (leaves_unpublished s i) (mine n past))) ≡ true → is_by n e ≡ true
            → IsAlone n s i (past ++ e ∷ [])
        by_own None leaves held_back by =
            going_on (before held_back) (λ published. let clash : None ≡ Some false = sym leaves ∙ published in cc)
            (λ m claim by' has_it. sym (eqb-true e.caller.0 n.0 by) ∙ eqb-true e.caller.0 m.0 by')
        by_own (Some false) leaves held_back by = absurd cc
        by_own (Some true) leaves held_back by = record {
          claimed = subst (λ x. (x.key s i).claimed ≡ true) (sym (state_after-more past e)) fresh.claimed;
          unpublished = subst (λ x. (x.key s i).published ≡ false) (sym (state_after-more past e)) fresh.unpublished;
          only = λ m claim has_it. by_other m claim has_it (is_by m e) refl;
        }
          where
            fresh : IsFresh s i past (record { caller = e.caller; act = e.act })
            fresh = claims_fresh l past e.caller e.act s i fit legal step.condition step.answers leaves

            by_other : (m : CallerNo) (claim : OwnClaim) → own_claim s i (mine m (past ++ e ∷ [])) ≡ Some claim
                → (b : Bool) → is_by m e ≡ b → n.0 ≡ m.0
            by_other m claim has_it true by' = sym (eqb-true e.caller.0 n.0 by) ∙ eqb-true e.caller.0 m.0 by'
            by_other m claim has_it false by' = absurd (fresh.nobody m claim (other_claim m claim has_it by'))

        -- a step of another caller: it doesn't publish the key, since it has no claim of it, and doesn't claim the
        -- index
        by_another : IsAlone n s i past → is_by n e ≡ false → IsAlone n s i (past ++ e ∷ [])
        by_another earlier by = going_on earlier not_published its
          where
            another : n.0 ≡ e.caller.0 → ⊥
            another same = both_ways (is_by n e) (eq-eqb e.caller.0 n.0 (sym same)) by

            not_published : leaves_unpublished s i e.act ≡ Some false → ⊥
            not_published leaves =
                let claim = publishing_claims l (mine e.caller past) st e.caller e.act s i step.condition leaves in
                another (earlier.only e.caller claim.0 claim.1)

            -- the claim that the caller of this step has after it, it had before
            its : (m : CallerNo) (claim : OwnClaim) → is_by m e ≡ true
                → own_claim s i (mine m (past ++ e ∷ [])) ≡ Some claim → n.0 ≡ m.0
            its m claim by' has_it = by_change (claim_changed s i e.act) refl
                (sym (own_claim-more s i (mine m past) e.act)
                ∙ (sym (ap (own_claim s i) (mine-own m past e by')) ∙ has_it))
              where
                by_change : (x : Option (Option OwnClaim)) → claim_changed s i e.act ≡ x
                    → claim_after x (own_claim s i (mine m past)) ≡ Some claim → n.0 ≡ m.0
                by_change None changed had = earlier.only m claim had
                by_change (Some x) changed had =
                    absurd (no_new_claim l (mine e.caller past) st e.caller e.act s i claim
                    (legal-sound l past legal) step.condition step.answers earlier.claimed earlier.unpublished
                    (changed ∙ ap Some had))

        by_caller : (b : Bool) → is_by n e ≡ b → IsAlone n s i (past ++ e ∷ [])
        by_caller true by =
            by_own (leaves_unpublished s i e.act) refl
            (sym (is_unpublished-more s i (mine n past) e.act)
            ∙ (sym (ap (is_unpublished s i) (mine-own n past e by)) ∙ now)) by
        by_caller false by = by_another (before (sym (ap (is_unpublished s i) (mine-other n past e by)) ∙ now)) by

pub unpublished_keys_stay : UnpublishedKeysStay
unpublished_keys_stay l n s i events fit legal held_back = (alone l n s.0 i fit events legal held_back).unpublished
