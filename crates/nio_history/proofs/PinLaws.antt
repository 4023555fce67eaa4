-- The laws of pins and of indexes that are claimed again.
use Rattle.std.proofs.Common.{◌≡◌, ℕ, ◌==◌, ◌<◌, ◌≤◌, Bool, true, false, not, ◌&&◌, if◌then◌else◌, suc, Option, Some}
use Rattle.std.proofs.Common.{None, List, [], ◌∷◌, ◌++◌, refl, ap, sym, ◌∙◌, subst, eqb-true, arith}
use Rattle.std.specs.Prelude.{nat_lt}
use Rattle.std.specs.Option.{option_or}
use Rattle.std.proofs.Math.Bool.{and-false}
use Rattle.std.proofs.lemmas.Bool.{and_parts, and_from, le-ltb, ltb-false, not-true, not_from_false}
use Rattle.std.proofs.lemmas.Option.{same_Some}
use Rattle.nio_base.specs.Limits.{IsFit}
use Rattle.nio_base.specs.declared.limits.Limits.{Limits}
use Rattle.nio_base.specs.declared.numbers.CallerNo.{CallerNo}
use Rattle.nio_base.specs.declared.numbers.ChanNo.{ChanNo}
use Rattle.nio_base.specs.declared.numbers.KeyId.{KeyId}
use Rattle.nio_history.proofs.Claims.{claim_told, pin_stays, if_some, claim_pins}
use Rattle.nio_history.proofs.Counts.{pinned_by, pinned_by_nobody}
use Rattle.nio_history.proofs.KeyChanges.{KeepsStages, stages_keep, IsNoClaimAgain, back_parts, published_already}
use Rattle.nio_history.proofs.KeyChanges.{cancelled_already, removed_already}
use Rattle.nio_history.proofs.LastsAlone.{has-mine, spares_not, same_two}
use Rattle.nio_history.proofs.LastsOnceSound.{not_below_next}
use Rattle.nio_history.proofs.Legal.{legal_beginning, legal_next, legal_induction, without_from}
use Rattle.nio_history.proofs.OneMore.{state_after-more, mine-own, mine-other, last-more, since_from-more}
use Rattle.nio_history.proofs.Put.{put_at_keeps, put_at_both, put_at-there}
use Rattle.nio_history.proofs.Soundness.{legal-sound, held_some, both_ways, pinned-claimed, back_not_unclaimed}
use Rattle.nio_history.proofs.Told.{stage_told}
use Rattle.nio_history.proofs.Within.{legal-within}
use Rattle.nio_history.specs.Acts.{effect, new_key}
use Rattle.nio_history.specs.Answers.{Answers, is_pinned}
use Rattle.nio_history.specs.Conditions.{Condition, is_held_by}
use Rattle.nio_history.specs.Histories.{state_after, event_of, is_by, mine, IsStep, IsLegal}
use Rattle.nio_history.specs.OwnEvents.{OwnClaim, last, since_taken, takes_free, stage_found, claim_changed, unpins}
use Rattle.nio_history.specs.Pins.{IsSameKey, PinnedKeysStay, ClaimsAgainWhereUnpinned, ClaimsAgainTheRemoved}
use Rattle.nio_history.specs.Pins.{IsOfClaim}
use Rattle.nio_history.specs.Pins.{OwnClaimsStand, EnrolledKeysAreClaimed}
use Rattle.nio_history.specs.Sets.{was_claimed, can_come_back}
use Rattle.nio_history.specs.Sound.{IsSound}
use Rattle.nio_history.specs.State.{State, put_at}
use Rattle.nio_history.specs.declared.act.Act.{Act}
use Rattle.nio_history.specs.declared.act.Act.TheVariants.{Claim, Enrol, Unpin, ClaimAgain, PutFree, TakeFree}
use Rattle.nio_history.specs.declared.event.Event.{Event}
use Rattle.nio_history.specs.declared.found.Stage.{Stage}

-- ---- a pinned index keeps its key

-- whoever has a pin is one of the 64 callers
pinner_below : (l : Limits) (past : List Event) (s i n : ℕ) → IsFit l → IsLegal l past
    → (state_after past).pinned s i n ≡ true → n < 64
pinner_below l past s i n fit legal pin =
    let below : n < l.callers = (legal-within l past legal).pins s i n pin in
    let few : l.callers ≤ 64 = fit.few_callers in
    omega arith

same_key_keeps : (May : Act → Type 0) (st : State) (n : ℕ) (was : Stage) → IsSound st → n < 64
    → KeepsStages May st (λ s i k. st.pinned s i n ≡ true → IsSameKey was k)
same_key_keeps May st n was sound below = record {
  claimed = λ s i c unclaimed_yet old pin. absurd
      (both_ways (st.key s.0 i).claimed (pinned-claimed st sound s.0 i n pin) unclaimed_yet);
  published = λ s i found may old pin. let o = old pin in
      record { claimed = o.claimed; serial = o.serial; channel = o.channel };
  cancelled = λ s i found may old pin. let o = old pin in
      record { claimed = o.claimed; serial = o.serial; channel = o.channel };
  removed = λ s i found may old pin. let o = old pin in
      record { claimed = o.claimed; serial = o.serial; channel = o.channel };
  again = λ s i c from may unpinned old pin. absurd (pinned_by st s.0 i n below pin unpinned);
}

-- at one step an index on which a caller has a pin keeps its key
pub same_key_step : (l : Limits) (past : List Event) (e : Event) (s i n : ℕ) (was : Stage) → IsFit l → IsLegal l past
    → IsStep l past e → (state_after past).pinned s i n ≡ true
    → IsSameKey was ((state_after past).key s i) → IsSameKey was ((effect (state_after past) e.caller e.act).key s i)
same_key_step l past e s i n was fit legal step pin here =
    let st : State = state_after past in
    stages_keep (λ _. Unit) st e.caller (λ a b k. st.pinned a b n ≡ true → IsSameKey was k)
    (same_key_keeps (λ _. Unit) st n was (legal-sound l past legal) (pinner_below l past s i n fit legal pin)) e.act tt
    step.answers s i (λ _. here) pin

pub pinned_keys_stay : PinnedKeysStay
pinned_keys_stay l n s i before later fit legal pin spared =
    (without_from l (λ e. is_by n e && unpins s.0 i e.act)
    (λ events. ((state_after events).pinned s.0 i n.0 ≡ true) × IsSameKey was ((state_after events).key s.0 i))
    (λ past e past_legal step kept here.
    subst (λ st. (st.pinned s.0 i n.0 ≡ true) × IsSameKey was (st.key s.0 i)) (sym (state_after-more past e)) (
      pin_stays (state_after past) e.caller n e.act s.0 i kept here.0,
      same_key_step l past e s.0 i n.0 was fit past_legal step here.0 here.1,
    ))
    before later legal (sym (has-mine (unpins s.0 i) n later) ∙ spared) (
      pin,
      record {
        claimed =
            pinned-claimed (state_after before) (legal-sound l before (legal_beginning l before later legal)) s.0 i n.0
            pin;
        serial = refl;
        channel = refl;
      },
    )).1
  where
    was : Stage
    was = (state_after before).key s.0 i

-- ---- an index is claimed again where nobody has a pin on it

pub claims_again_where_unpinned : ClaimsAgainWhereUnpinned
claims_again_where_unpinned l me s i c from found past later fit legal = (unpinned, claims)
  where
    st : State
    st = state_after past

    found_is : found ≡ is_pinned st s.0 i
    found_is = cc ((legal_next l past (event_of me (ClaimAgain s i c from found)) later legal).answers)

    unpinned : found ≡ false → (n : CallerNo) → st.pinned s.0 i n.0 ≡ false
    unpinned not_found n = by_pin (st.pinned s.0 i n.0) refl
      where
        by_pin : (b : Bool) → st.pinned s.0 i n.0 ≡ b → b ≡ false
        by_pin true pin =
            absurd (pinned_by st s.0 i n.0 (pinner_below l past s.0 i n.0 fit (legal_beginning l past _ legal) pin) pin
            (sym found_is ∙ not_found))
        by_pin false pin = refl

    claims : ((n : CallerNo) → st.pinned s.0 i n.0 ≡ false) → found ≡ false
    claims nobody = found_is ∙ pinned_by_nobody st s.0 i (λ n below. nobody (record { 0 = n }))

-- ---- the stage that a caller found of an index that it has taken

-- an index that a caller has taken before and after a step keeps its stage
taken_stage_stays : (st : State) (me n : CallerNo) (act : Act) (from : Stage) → Answers st me act → IsSound st
    → (s i : ℕ) → ((me.0 == n.0) && takes_free s i act) ≡ false
    → (is_held_by n (st.taker s i) ≡ true → st.key s i ≡ from) → is_held_by n ((effect st me act).taker s i) ≡ true
    → (effect st me act).key s i ≡ from
taken_stage_stays st me n (ClaimAgain s' i' c again true) from answers sound s i spared =
    put_at_both (λ _ _ k o. is_held_by n o ≡ true → k ≡ from) st.key st.taker s'.0 i' _ _ (λ old. old) s i
taken_stage_stays st me n (ClaimAgain s' i' c again false) from answers sound s i spared =
    put_at_both (λ _ _ k o. is_held_by n o ≡ true → k ≡ from) st.key st.taker s'.0 i' _ None (λ _ taken. absurd cc) s i
taken_stage_stays st me n (PutFree s' i') from answers sound s i spared =
    put_at_keeps (λ a b o. is_held_by n o ≡ true → st.key a b ≡ from) st.taker s'.0 i' None (λ _ taken. absurd cc) s i
taken_stage_stays st me n (TakeFree s' i' true) from answers sound s i spared = λ old taken.
    put_at_keeps (λ a b o. ((me.0 == n.0) && ((s'.0 == a) && (i' == b))) ≡ false → is_held_by n o ≡ true
    → st.key a b ≡ from) st.taker s'.0 i' (Some me)
    (λ _ spared' its. absurd
    (spares_not me n ((s'.0 == s'.0) && (i' == i')) (eqb-true me.0 n.0 its) (same_two s'.0 i') spared')) s i
    (λ _. old) spared taken
taken_stage_stays st me n (TakeFree s' i' false) from answers sound s i spared =
    put_at_keeps (λ a b o. is_held_by n o ≡ true → st.key a b ≡ from) st.taker s'.0 i' (st.taker s'.0 i')
    (λ old. old) s i
taken_stage_stays st me n act from answers sound s i spared =
    stages_keep IsNoClaimAgain st me (λ a b k. is_held_by n (st.taker a b) ≡ true → k ≡ from) (record {
      claimed = λ s' i' c unclaimed_yet old taken. absurd
          (back_not_unclaimed (st.key s'.0 i') (back s'.0 i' taken) unclaimed_yet);
      published = λ s' i' found may old taken.
          published_already (st.key s'.0 i') (back_parts (st.key s'.0 i') (back s'.0 i' taken)).published ∙ old taken;
      cancelled = λ s' i' found may old taken.
          cancelled_already (st.key s'.0 i') (back_parts (st.key s'.0 i') (back s'.0 i' taken)).cancelled ∙ old taken;
      removed = λ s' i' found may old taken.
          removed_already (st.key s'.0 i') (back_parts (st.key s'.0 i') (back s'.0 i' taken)).removed ∙ old taken;
      again = λ s' i' c from' may. absurd (may s' i' c from' refl);
    }) act (λ s' i' c from' is. cc) answers s i
  where
    back : (a b : ℕ) → is_held_by n (st.taker a b) ≡ true → can_come_back (st.key a b) ≡ true
    back a b taken = sound.taken_back a b (held_some n (st.taker a b) taken)

-- what a caller found of an index since it took it is its stage, while the caller has it
pub taken_stage_told : (l : Limits) (n : CallerNo) (s i : ℕ) (events : List Event) → IsLegal l events
    → (from : Stage) → is_held_by n ((state_after events).taker s i) ≡ true
    → last (stage_found s i) (since_taken s i (mine n events)) ≡ Some from → (state_after events).key s i ≡ from
taken_stage_told l n s i = legal_induction l
    (λ evs. (from : Stage) → is_held_by n ((state_after evs).taker s i) ≡ true
    → last (stage_found s i) (since_taken s i (mine n evs)) ≡ Some from → (state_after evs).key s i ≡ from)
    (λ from taken found. absurd cc) each
  where
    each : (past : List Event) (e : Event) → IsLegal l past → IsStep l past e
        → ((from : Stage) → is_held_by n ((state_after past).taker s i) ≡ true
        → last (stage_found s i) (since_taken s i (mine n past)) ≡ Some from → (state_after past).key s i ≡ from)
        → (from : Stage) → is_held_by n ((state_after (past ++ e ∷ [])).taker s i) ≡ true
        → last (stage_found s i) (since_taken s i (mine n (past ++ e ∷ []))) ≡ Some from
        → (state_after (past ++ e ∷ [])).key s i ≡ from
    each past e legal step before from taken found =
        subst (λ st. st.key s i ≡ from) (sym (state_after-more past e)) (by_caller (is_by n e) refl)
      where
        taken_then : is_held_by n ((effect (state_after past) e.caller e.act).taker s i) ≡ true
        taken_then = subst (λ st. is_held_by n (st.taker s i) ≡ true) (state_after-more past e) taken

        kept : (is_by n e && takes_free s i e.act) ≡ false
            → last (stage_found s i) (since_taken s i (mine n past)) ≡ Some from
            → (effect (state_after past) e.caller e.act).key s i ≡ from
        kept spared found_before =
            taken_stage_stays (state_after past) e.caller n e.act from step.answers
            (legal-sound l past legal) s i spared (λ taken_before. before from taken_before found_before) taken_then

        by_look : (x : Option Stage) → stage_found s i e.act ≡ x → takes_free s i e.act ≡ false
            → option_or x (last (stage_found s i) (since_taken s i (mine n past))) ≡ Some from
            → (effect (state_after past) e.caller e.act).key s i ≡ from
        by_look None looked other told = kept (ap (λ b. is_by n e && b) other ∙ and-false (is_by n e)) told
        by_look (Some k) looked other told =
            stage_told (state_after past) e.caller e.act s i from step.answers (looked ∙ told)

        by_span : (b : Bool) → takes_free s i e.act ≡ b → is_by n e ≡ true
            → (effect (state_after past) e.caller e.act).key s i ≡ from
        by_span true takes by =
            let span : since_taken s i (mine n (past ++ e ∷ [])) ≡ [] =
            ap (since_taken s i) (mine-own n past e by)
            ∙ (since_from-more (takes_free s i) (mine n past) e.act
            ∙ ap (λ b. if b then [] else since_taken s i (mine n past) ++ e.act ∷ []) takes) in
            let nothing_found : None ≡ Some from = sym (ap (last (stage_found s i)) span) ∙ found in
            absurd cc
        by_span false takes by =
            let span : since_taken s i (mine n (past ++ e ∷ [])) ≡ since_taken s i (mine n past) ++ e.act ∷ [] =
            ap (since_taken s i) (mine-own n past e by)
            ∙ (since_from-more (takes_free s i) (mine n past) e.act
            ∙ ap (λ b. if b then [] else since_taken s i (mine n past) ++ e.act ∷ []) takes) in
            by_look (stage_found s i e.act) refl takes
            (sym (last-more (stage_found s i) (since_taken s i (mine n past)) e.act)
            ∙ (sym (ap (last (stage_found s i)) span) ∙ found))

        by_caller : (b : Bool) → is_by n e ≡ b → (effect (state_after past) e.caller e.act).key s i ≡ from
        by_caller true by = by_span (takes_free s i e.act) refl by
        by_caller false by =
            kept (ap (λ b. b && takes_free s i e.act) by)
            (sym (ap (λ own. last (stage_found s i) (since_taken s i own)) (mine-other n past e by)) ∙ found)

pub claims_again_the_removed : ClaimsAgainTheRemoved
claims_again_the_removed l me s i c from found past later legal =
    let legal_past : IsLegal l past = legal_beginning l past (event_of me (ClaimAgain s i c from found) ∷ later)
    legal in
    let may = (legal_next l past (event_of me (ClaimAgain s i c from found)) later legal).condition in
    let stands : (state_after past).key s.0 i ≡ from = taken_stage_told l me s.0 i past legal_past from may.3 may.4 in (
      stands,
      subst (λ k. can_come_back k ≡ true) stands
          ((legal-sound l past legal_past).taken_back s.0 i (held_some me ((state_after past).taker s.0 i) may.3)),
    )

-- ---- a caller's own claim

-- a step by which a caller claims an index gives the index the key of the claim
claim_made : (l : Limits) (past : List Event) (me : CallerNo) (act : Act) (s i : ℕ) (claim : OwnClaim) → IsLegal l past
    → Condition l (mine me past) (state_after past) me act
    → claim_changed s i act ≡ Some (Some claim) → IsOfClaim claim ((effect (state_after past) me act).key s i)
claim_made l past me (Claim s' i' c false) s i claim legal may changed =
    let st : State = state_after past in
    let here = if_some ((s'.0 == s) && (i' == i)) (Some (record { channel = c; serial = 0 })) (Some claim) changed in
    let there : put_at st.key s'.0 i' (new_key c 0) s i ≡ new_key c 0 = put_at-there st.key s'.0 i'
    (new_key c 0) s i here.0 in
    subst (λ cl. IsOfClaim cl (put_at st.key s'.0 i' (new_key c 0) s i))
    (same_Some (record { channel = c; serial = 0 }) claim here.1)
    (record {
      claimed = ap (λ k. k.claimed) there;
      serial = ap (λ k. k.serial) there;
      channel = ap (λ k. k.chan) there;
    })
claim_made l past me (ClaimAgain s' i' c from false) s i claim legal may changed =
    let st : State = state_after past in
    let next : Stage = new_key c (suc (st.key s'.0 i').serial) in
    let here = if_some ((s'.0 == s) && (i' == i)) (Some (record { channel = c; serial = suc from.serial }))
    (Some claim) changed in
    let there : put_at st.key s'.0 i' next s i ≡ next = put_at-there st.key s'.0 i' next s i here.0 in
    let stands : st.key s'.0 i' ≡ from = taken_stage_told l me s'.0 i' past legal from may.3 may.4 in
    subst (λ cl. IsOfClaim cl (put_at st.key s'.0 i' next s i))
    (same_Some (record { channel = c; serial = suc from.serial }) claim here.1)
    (record {
      claimed = ap (λ k. k.claimed) there;
      serial =
          ap (λ k. k.serial) there ∙ ap (λ k. suc k.serial) stands;
      channel = ap (λ k. k.chan) there;
    })
claim_made l past me (Unpin s' i') s i claim legal may changed =
    let clash : None ≡ Some claim = (if_some ((s'.0 == s) && (i' == i)) None (Some claim) changed).1 in
    absurd cc
claim_made l past me act s i claim legal may changed = absurd (cc changed)

-- the key of a claim stays while its index keeps its key
claim_stays : (claim : OwnClaim) (was now : Stage) → IsOfClaim claim was → IsSameKey was now → IsOfClaim claim now
claim_stays claim was now its same =
    record { claimed = same.claimed; serial = same.serial ∙ its.serial; channel = same.channel ∙ its.channel }

pub own_claims_stand : OwnClaimsStand
own_claims_stand l n s i claim events fit legal =
    claim_told l n s.0 i (λ cl st. (st.pinned s.0 i n.0 ≡ true) × IsOfClaim cl (st.key s.0 i))
    (λ past e cl past_legal step by changed. (
      subst (λ (k : ℕ). (effect (state_after past) e.caller e.act).pinned s.0 i k ≡ true) (eqb-true e.caller.0 n.0 by)
          (claim_pins (state_after past) e.caller e.act s.0 i cl changed),
      claim_made l past e.caller e.act s.0 i cl past_legal step.condition changed,
    ))
    (λ past e cl past_legal step spared here. (
      pin_stays (state_after past) e.caller n e.act s.0 i spared here.0,
      claim_stays cl ((state_after past).key s.0 i) ((effect (state_after past) e.caller e.act).key s.0 i) here.1
          (same_key_step l past e s.0 i n.0 ((state_after past).key s.0 i) fit past_legal step here.0
          (record { claimed = here.1.claimed; serial = refl; channel = refl })),
    ))
    events legal claim

-- ---- enrolled keys

-- the index was claimed for this key, and while it has the key it is of the channel of this number
abbrev pub IsKeyOf : ℕ → ℕ → Stage → Type 0
IsKeyOf c serial k = (was_claimed k serial ≡ true) × (k.serial ≡ serial → k.chan.0 ≡ c)

not_below : (a b : ℕ) → a ≡ b → not (nat_lt a b) ≡ true
not_below a b same = not_from_false (nat_lt a b) (le-ltb a b (omega arith))

pub key_of_keeps : (May : Act → Type 0) (st : State) (c serial : ℕ) → KeepsStages May st (λ _ _ k. IsKeyOf c serial k)
key_of_keeps May st c serial = record {
  claimed = λ s i c' unclaimed_yet old. absurd
      (both_ways (st.key s.0 i).claimed
      (and_parts (st.key s.0 i).claimed (not (nat_lt (st.key s.0 i).serial serial)) old.0).0 unclaimed_yet);
  published = λ s i found may old. old;
  cancelled = λ s i found may old. old;
  removed = λ s i found may old. old;
  again = λ s i c' from may unpinned old. (
    not_below_next (st.key s.0 i).serial serial
        (and_parts (st.key s.0 i).claimed (not (nat_lt (st.key s.0 i).serial serial)) old.0).1,
    λ same. absurd
        (not_next (st.key s.0 i).serial
        (and_parts (st.key s.0 i).claimed (not (nat_lt (st.key s.0 i).serial serial)) old.0).1 same),
  );
}
  where
    not_next : (a : ℕ) → not (nat_lt a serial) ≡ true → suc a ≡ serial → ⊥
    not_next a above same =
        let upper : serial ≤ a = ltb-false a serial (not-true (nat_lt a serial) above) in
        omega arith

-- the enrolled key of a channel is a key of it
enrolled_step : (l : Limits) (past : List Event) (me : CallerNo) (act : Act) → IsFit l → IsLegal l past
    → Condition l (mine me past) (state_after past) me act → Answers (state_after past) me act
    → ((c s : ℕ) (k : KeyId) → (state_after past).enrolled c s ≡ Some k
    → IsKeyOf c k.serial ((state_after past).key s k.index))
    → (c s : ℕ) (k : KeyId) → (effect (state_after past) me act).enrolled c s ≡ Some k
    → IsKeyOf c k.serial ((effect (state_after past) me act).key s k.index)
enrolled_step l past me (Enrol c' s' i serial found) fit legal may answers before c s =
    put_at_keeps (λ a b o. (k : KeyId) → o ≡ Some k → IsKeyOf a k.serial ((state_after past).key b k.index))
    (state_after past).enrolled c'.0 s'.0 (Some (record { index = i; serial = serial }))
    (λ _ k e. subst (λ x. IsKeyOf c'.0 x.serial ((state_after past).key s'.0 x.index))
    (same_Some (record { index = i; serial = serial }) k e) of_claim) c s (before c s)
  where
    of_claim : IsKeyOf c'.0 serial ((state_after past).key s'.0 i)
    of_claim =
        let its = (own_claims_stand l me s' i (record { channel = c'; serial = serial }) past fit legal may.2).1 in
        let key : Stage = (state_after past).key s'.0 i in (
          and_from key.claimed (not (nat_lt key.serial serial)) its.claimed (not_below key.serial serial its.serial),
          λ _. ap (λ x. x.0) its.channel,
        )
enrolled_step l past me act fit legal may answers before c s = λ k enrolled.
    stages_keep (λ _. Unit) (state_after past) me (λ _ _ stage. IsKeyOf c k.serial stage)
    (key_of_keeps (λ _. Unit) (state_after past) c k.serial) act tt answers s k.index (before c s k enrolled)

enrolled_key_of : (l : Limits) → IsFit l → (events : List Event) → IsLegal l events
    → (c s : ℕ) (k : KeyId) → (state_after events).enrolled c s ≡ Some k
    → IsKeyOf c k.serial ((state_after events).key s k.index)
enrolled_key_of l fit =
    legal_induction l (λ evs. (c s : ℕ) (k : KeyId) → (state_after evs).enrolled c s ≡ Some k
    → IsKeyOf c k.serial ((state_after evs).key s k.index))
    (λ c s k enrolled. absurd cc)
    (λ past e legal step before. subst (λ st. (c s : ℕ) (k : KeyId) → st.enrolled c s ≡ Some k
    → IsKeyOf c k.serial (st.key s k.index)) (sym (state_after-more past e))
    (enrolled_step l past e.caller e.act fit legal step.condition step.answers before))

pub enrolled_keys_are_claimed : EnrolledKeysAreClaimed
enrolled_keys_are_claimed l c s k events fit legal enrolled =
    let its = enrolled_key_of l fit events legal c.0 s.0 k enrolled in
    (its.0, λ same. ap (λ (number : ℕ). channel number) (its.1 same))
  where
    channel : ℕ → ChanNo
    channel number = record { 0 = number }
