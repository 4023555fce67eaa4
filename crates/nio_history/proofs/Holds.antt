-- What stands while a caller holds a channel.
use Rattle.std.proofs.Common.{◌≡◌, ℕ, ◌==◌, Bool, true, false, not, ◌&&◌, ◌||◌, inl, inr, suc, Option, Some, None}
use Rattle.std.proofs.Common.{if◌then◌else◌, List, [], ◌∷◌, ◌++◌, refl, ap, sym, ◌∙◌, subst, eqb-true, eq-eqb}
use Rattle.std.proofs.lemmas.Bool.{and_from, and_parts, not-true, or_parts, or_cases}
use Rattle.std.specs.Option.{option_or, ForSome}
use Rattle.std.proofs.Math.Bool.{and-false}
use Rattle.nio_base.specs.Limits.{IsFit}
use Rattle.nio_base.specs.declared.limits.Limits.{Limits}
use Rattle.nio_base.specs.declared.numbers.CallerNo.{CallerNo}
use Rattle.nio_base.specs.declared.numbers.ChanNo.{ChanNo}
use Rattle.nio_base.specs.declared.numbers.KeyId.{KeyId}
use Rattle.nio_base.specs.declared.numbers.SelNo.{SelNo}
use Rattle.nio_history.proofs.ChannelChanges.{channels_keep}
use Rattle.nio_history.proofs.Claims.{if_some}
use Rattle.nio_history.proofs.Holder.{mode_itself, mode_kept, held_since}
use Rattle.nio_history.proofs.KeyChanges.{stages_keep}
use Rattle.nio_history.proofs.Keeping.{knows_while, stands_while}
use Rattle.nio_history.proofs.LastsAlone.{one_holder, spares_not, same_two}
use Rattle.nio_history.proofs.OneMore.{has-more, last-more, since_from-more}
use Rattle.nio_history.proofs.PinLaws.{own_claims_stand, enrolled_keys_are_claimed}
use Rattle.nio_history.proofs.Put.{same_pair, put_at_keeps, put_at-there}
use Rattle.nio_history.proofs.Soundness.{legal-sound, held_some, both_ways}
use Rattle.nio_history.proofs.Told.{stage_told}
use Rattle.nio_history.specs.Acts.{effect}
use Rattle.nio_history.specs.Answers.{Answers}
use Rattle.nio_history.specs.Conditions.{Condition, is_held_by, holds, may_publish}
use Rattle.nio_history.specs.Histories.{state_after, mine, IsStep, IsLegal}
use Rattle.nio_history.specs.Holders.{ChannelStays, KeepsMode, ModeStays, EnrolledStays, FoundEnrolledStays}
use Rattle.nio_history.specs.Holders.{OutsideStays, FoundClearStays, ClearIsTrue}
use Rattle.nio_history.specs.Permanent.{the_hold}
use Rattle.nio_history.specs.OwnEvents.{OwnClaim, has, last, under, own_claim, reopens, sets_mode, enrols_key}
use Rattle.nio_history.specs.OwnEvents.{publishes, stage_found, is_outside, finds_outside, finds_unblocked}
use Rattle.nio_history.specs.OwnEvents.{enrolled_found, since_key_enrolled, is_clear_by}
use Rattle.nio_history.specs.Sets.{is_in_key_set}
use Rattle.nio_history.specs.Sound.{IsSound}
use Rattle.nio_history.specs.State.{State}
use Rattle.nio_history.specs.declared.act.Act.{Act}
use Rattle.nio_history.specs.declared.act.Act.TheVariants.{LookReg, Enrol}
use Rattle.nio_history.specs.declared.event.Event.{Event}
use Rattle.nio_history.specs.declared.found.Stage.{Stage}
use Rattle.nio_history.proofs.Legal.{none_such}

-- ---- the channel that the number has, and its mode

serial_kept : (l : Limits) (own : List Act) (st : State) (me n : CallerNo) (act : Act) (c serial : ℕ) → IsSound st
    → Condition l own st me act → Answers st me act
    → is_held_by n (st.hold c) ≡ true → ((me.0 == n.0) && reopens c act) ≡ false → (st.chan c).serial ≡ serial
    → ((effect st me act).chan c).serial ≡ serial
serial_kept l own st me n act c serial sound may answers held spared now =
    channels_keep May st me (λ m x. m ≡ c → x.serial ≡ serial) (record {
      made = λ k kind _ unmade _ at.
          absurd (both_ways (st.chan k.0).made (sound.held_made k.0 (held_some n (st.hold k.0) (held_at k.0 at)))
          unmade);
      mode = λ k blocking found _ old. old;
      closed = λ k from found _ _ old. old;
      reopened = λ k may' _ at. absurd
          (spares_not me n (k.0 == c) (one_holder me n (st.hold k.0) may'.0.1 (held_at k.0 at)) (eq-eqb k.0 c at)
          may'.1);
    }) act (may, spared) answers c (λ _. now) refl
  where
    May : Act → Type 0
    May act' = Condition l own st me act' × (((me.0 == n.0) && reopens c act') ≡ false)

    held_at : (k : ℕ) → k ≡ c → is_held_by n (st.hold k) ≡ true
    held_at k at = subst (λ (m : ℕ). is_held_by n (st.hold m) ≡ true) (sym at) held

pub channel_stays : ChannelStays
channel_stays l n c before later keeps spared =
    stands_while l n (the_hold c) (reopens c.0)
    (λ st. (st.chan c.0).serial ≡ ((state_after before).chan c.0).serial)
    (λ past e legal step had spared'. serial_kept l (mine e.caller past) (state_after past) e.caller n e.act c.0 _
    (legal-sound l past legal) step.condition step.answers had spared')
    before later keeps spared refl

pub mode_stays : ModeStays
mode_stays l n c before later keeps spared =
    stands_while l n (the_hold c) (sets_mode c.0)
    (λ st. KeepsMode ((state_after before).chan c.0) (st.chan c.0))
    (λ past e legal step had spared'. mode_kept l (mine e.caller past) (state_after past) e.caller n e.act c.0
    ((state_after before).chan c.0) (legal-sound l past legal) step.condition step.answers had spared')
    before later keeps spared (mode_itself ((state_after before).chan c.0))

-- ---- which key is enrolled

enrolled_kept : (l : Limits) (own : List Act) (st : State) (me n : CallerNo) (act : Act) (c s : ℕ) (o : Option KeyId)
    → Condition l own st me act
    → is_held_by n (st.hold c) ≡ true → ((me.0 == n.0) && enrols_key c s act) ≡ false → st.enrolled c s ≡ o
    → (effect st me act).enrolled c s ≡ o
enrolled_kept l own st me n (Enrol k s' i serial found) c s o may held spared = λ now.
    put_at_keeps (λ m t x. is_held_by n (st.hold m) ≡ true → ((me.0 == n.0) && ((k.0 == m) && (s'.0 == t))) ≡ false
    → x ≡ o) st.enrolled k.0 s'.0 _
    (λ _ held' spared'. absurd
    (spares_not me n ((k.0 == k.0) && (s'.0 == s'.0)) (one_holder me n (st.hold k.0) may.3 held')
    (same_two k.0 s'.0) spared'))
    c s (λ _ _. now) held spared
enrolled_kept l own st me n act c s o may held spared = λ now. now

pub enrolled_stays : EnrolledStays
enrolled_stays l n c before later keeps s spared =
    stands_while l n (the_hold c) (enrols_key c.0 s.0) (λ st. st.enrolled c.0 s.0
    ≡ (state_after before).enrolled c.0 s.0)
    (λ past e legal step had spared'. enrolled_kept l (mine e.caller past) (state_after past) e.caller n e.act c.0 s.0 _
    step.condition had spared')
    before later keeps spared refl

none_if : {A : Type 0} (b : Bool) (x : A) → (if b then Some x else None) ≡ None → b ≡ false
none_if true x e = absurd cc
none_if false x e = refl

-- what tells nothing of the enrolled key enrols none
not_enrolled : (c s : ℕ) (act : Act) → enrolled_found c s act ≡ None → enrols_key c s act ≡ false
not_enrolled c s (Enrol c' s' i serial found) untold =
    none_if ((c'.0 == c) && (s'.0 == s)) (Some (record { index = i; serial = serial })) untold
not_enrolled c s act untold = refl

enrolled_told : (st : State) (me : CallerNo) (act : Act) (c s : ℕ) (o : Option KeyId) → Answers st me act
    → enrolled_found c s act ≡ Some o → (effect st me act).enrolled c s ≡ o
enrolled_told st me (LookReg c' s' found) c s o answers told =
    let parts = if_some ((c'.0 == c) && (s'.0 == s)) found o told in
    same_pair (λ a b. st.enrolled a b ≡ o) c'.0 s'.0 c s parts.0 (cc (parts.1))
enrolled_told st me (Enrol c' s' i serial found) c s o answers told =
    let parts = if_some ((c'.0 == c) && (s'.0 == s)) (Some (key i serial)) o told in
    put_at-there st.enrolled c'.0 s'.0 (Some (key i serial)) c s parts.0 ∙ parts.1
  where
    key : ℕ → ℕ → KeyId
    key i' serial' = record { index = i'; serial = serial' }
enrolled_told st me act c s o answers told = absurd (cc told)

pub found_enrolled_stays : FoundEnrolledStays
found_enrolled_stays l n c before later keeps s =
    knows_while l n (the_hold c) (λ _. false) (λ did st. (o : Option KeyId) → last (enrolled_found c.0 s.0) did ≡ Some o
    → st.enrolled c.0 s.0 ≡ o)
    (λ past e legal step had by _ did knew o told.
    own_step l (mine e.caller past) (state_after past) e.caller e.act step.condition step.answers had did knew o
    (enrolled_found c.0 s.0 e.act) refl (sym (last-more (enrolled_found c.0 s.0) did e.act) ∙ told))
    (λ past e legal step had by did knew o told. enrolled_kept l (mine e.caller past)
    (state_after past) e.caller n e.act c.0 s.0 o step.condition had (ap (λ b. b && enrols_key c.0 s.0 e.act) by)
    (knew o told))
    before later keeps (none_such (mine n later)) (λ o told. absurd cc)
  where
    own_step : (l : Limits) (own : List Act) (st : State) (me : CallerNo) (act : Act) → Condition l own st me act
        → Answers st me act → is_held_by n (st.hold c.0) ≡ true
        → (did : List Act) → ((o : Option KeyId) → last (enrolled_found c.0 s.0) did ≡ Some o → st.enrolled c.0 s.0 ≡ o)
        → (o : Option KeyId) (tells : Option (Option KeyId)) → enrolled_found c.0 s.0 act ≡ tells
        → option_or tells (last (enrolled_found c.0 s.0) did) ≡ Some o → (effect st me act).enrolled c.0 s.0 ≡ o
    own_step l own st me act may answers held did knew o None tells told =
        enrolled_kept l own st me n act c.0 s.0 o may held
        (ap (λ b. (me.0 == n.0) && b) (not_enrolled c.0 s.0 act tells) ∙ and-false (me.0 == n.0)) (knew o told)
    own_step l own st me act may answers held did knew o (Some x) tells told =
        enrolled_told st me act c.0 s.0 o answers (tells ∙ told)

-- ---- keys outside the key set

-- while it is of this channel, the key is outside the key set
abbrev IsOutsideFor : ChanNo → ℕ → Stage → Type 0
IsOutsideFor c serial k = k.chan ≡ c → is_in_key_set k serial ≡ false

-- whoever may publish holds the channel of the key
publisher_holds : (st : State) (own : List Act) (me : CallerNo) (claim : Option OwnClaim)
    → may_publish st own me claim ≡ true
    → (its : OwnClaim) × (claim ≡ Some its) × (holds st me its.channel ≡ true)
publisher_holds st own me None may = absurd cc
publisher_holds st own me (Some claim) may = (
  claim,
  refl,
  (and_parts (holds st me claim.channel) (has (finds_unblocked claim.channel.0) (under claim.channel.0 own))
      may).0,
)

outside_kept : (l : Limits) (past : List Event) (e : Event) (n : CallerNo) (c : ChanNo) (s : ℕ) (k : KeyId) → IsFit l
    → IsLegal l past → IsStep l past e
    → is_held_by n ((state_after past).hold c.0) ≡ true → ((e.caller.0 == n.0) && publishes s k.index e.act) ≡ false
    → IsOutsideFor c k.serial ((state_after past).key s k.index)
    → IsOutsideFor c k.serial ((effect (state_after past) e.caller e.act).key s k.index)
outside_kept l past e n c s k fit legal step held spared outside =
    stages_keep May st me (λ m t x. m ≡ s → t ≡ k.index → IsOutsideFor c k.serial x) (record {
      claimed = λ s' i' c' _ _ _ _ _. and-false (0 == k.serial);
      published = λ s' i' found may old at_s at_i its. absurd
          (spares_not me n ((s'.0 == s) && (i' == k.index)) (holds_too s' i' may.0.1 its)
          (and_from (s'.0 == s) (i' == k.index) (eq-eqb s'.0 s at_s) (eq-eqb i' k.index at_i)) may.1);
      cancelled = λ s' i' found may old. old;
      removed = λ s' i' found may old at_s at_i its.
          let x : Stage = st.key s'.0 i' in
          ap (λ b. (x.claimed && (x.serial == k.serial)) && b) (and-false x.published)
          ∙ and-false (x.claimed && (x.serial == k.serial));
      again = λ s' i' c' from _ _ _ _ _ _. and-false (suc (st.key s'.0 i').serial == k.serial);
    }) e.act (step.condition, spared) step.answers s k.index (λ _ _. outside) refl refl
  where
    st : State
    st = state_after past

    me : CallerNo
    me = e.caller

    May : Act → Type 0
    May act = Condition l (mine me past) st me act × (((me.0 == n.0) && publishes s k.index act) ≡ false)

    holds_too : (s' : SelNo) (i' : ℕ) → may_publish st (mine me past) me (own_claim s'.0 i' (mine me past)) ≡ true
        → (st.key s'.0 i').chan ≡ c → me.0 ≡ n.0
    holds_too s' i' may its =
        let claim = publisher_holds st (mine me past) me (own_claim s'.0 i' (mine me past)) may in
        let its_key = (own_claims_stand l me s' i' claim.0 past fit legal claim.1).1 in
        let of_channel : claim.0.channel ≡ c = sym its_key.channel ∙ its in
        one_holder me n (st.hold c.0)
        (subst (λ (x : ChanNo). is_held_by me (st.hold x.0) ≡ true) of_channel claim.2) held

pub outside_stays : OutsideStays
outside_stays l n c before later fit keeps s k spared outside its =
    stands_while l n (the_hold c) (publishes s.0 k.index) (λ st. IsOutsideFor c k.serial (st.key s.0 k.index))
    (λ past e legal step had spared'. outside_kept l past e n c s.0 k fit legal step had spared')
    before later keeps spared (λ _. outside) its

-- ---- what a caller found

pub outside_told : (st : State) (me : CallerNo) (act : Act) (s : ℕ) (k : KeyId) → Answers st me act
    → finds_outside s k act ≡ true → is_in_key_set ((effect st me act).key s k.index) k.serial ≡ false
outside_told st me act s k answers told = by_found (stage_found s k.index act) refl told
  where
    by_found : (o : Option Stage) → stage_found s k.index act ≡ o → is_outside k.serial o ≡ true
        → is_in_key_set ((effect st me act).key s k.index) k.serial ≡ false
    by_found None found outside = absurd cc
    by_found (Some stage) found outside =
        ap (λ x. is_in_key_set x k.serial) (stage_told st me act s k.index stage answers found)
        ∙ not-true (is_in_key_set stage k.serial) outside

pub found_clear_stays : FoundClearStays
found_clear_stays l n c before later fit keeps s clear =
    by_enrolled (last (enrolled_found c.0 s.0) (mine n later)) refl clear
  where
    after : State
    after = state_after (before ++ later)

    -- what it did since it last enrolled a key there or published that of the index
    span : KeyId → List Act → List Act
    span k did = since_key_enrolled c.0 s.0 k.index did

    opens : KeyId → Act → Bool
    opens k act = enrols_key c.0 s.0 act || publishes s.0 k.index act

    outside : (k : KeyId) → has (finds_outside s.0 k) (span k (mine n later)) ≡ true
        → IsOutsideFor c k.serial (after.key s.0 k.index)
    outside k =
        knows_while l n (the_hold c) (λ _. false) (λ did st. has (finds_outside s.0 k) (span k did) ≡ true
        → IsOutsideFor c k.serial (st.key s.0 k.index))
        (λ past e legal step had by _ did knew found.
        own_step past e legal step had did knew (opens k e.act) refl
        (sym (ap (has (finds_outside s.0 k)) (since_from-more (opens k) did e.act)) ∙ found))
        (λ past e legal step had by did knew found. outside_kept l past e n c s.0 k fit legal step had
        (ap (λ b. b && publishes s.0 k.index e.act) by) (knew found))
        before later keeps (none_such (mine n later)) (λ found. absurd cc)
      where
        own_step : (past : List Event) (e : Event) → IsLegal l past → IsStep l past e
            → is_held_by n ((state_after past).hold c.0) ≡ true
            → (did : List Act)
            → (has (finds_outside s.0 k) (span k did) ≡ true
            → IsOutsideFor c k.serial ((state_after past).key s.0 k.index))
            → (b : Bool) → opens k e.act ≡ b
            → has (finds_outside s.0 k) (if b then [] else span k did ++ e.act ∷ []) ≡ true
            → IsOutsideFor c k.serial ((effect (state_after past) e.caller e.act).key s.0 k.index)
        own_step past e legal step had did knew true opened found = absurd cc
        own_step past e legal step had did knew false opened found =
            let unpublished = (or_parts (enrols_key c.0 s.0 e.act) (publishes s.0 k.index e.act) opened).1 in
            elim (or_cases (has (finds_outside s.0 k) (span k did)) (finds_outside s.0 k e.act)
            (sym (has-more (finds_outside s.0 k) (span k did) e.act) ∙ found)) [
              | inl earlier ↦ outside_kept l past e n c s.0 k fit legal step had
                  (ap (λ b. (e.caller.0 == n.0) && b) unpublished ∙ and-false (e.caller.0 == n.0)) (knew earlier)
              | inr now ↦ λ _. outside_told (state_after past) e.caller e.act s.0 k step.answers now
            ]

    -- an enrolled key that the index doesn't have any more is outside the key set too
    by_serial : (k : KeyId) → after.enrolled c.0 s.0 ≡ Some k → IsOutsideFor c k.serial (after.key s.0 k.index)
        → (b : Bool) → ((after.key s.0 k.index).serial == k.serial) ≡ b
        → is_in_key_set (after.key s.0 k.index) k.serial ≡ false
    by_serial k enrolled its true same =
        its ((enrolled_keys_are_claimed l c s k (before ++ later) fit keeps.legal enrolled).1
        (eqb-true (after.key s.0 k.index).serial k.serial same))
    by_serial k enrolled its false same =
        ap (λ b. ((after.key s.0 k.index).claimed && b)
        && ((after.key s.0 k.index).published && not (after.key s.0 k.index).removed)) same
        ∙ ap (λ b. b && ((after.key s.0 k.index).published && not (after.key s.0 k.index).removed))
        (and-false (after.key s.0 k.index).claimed)

    by_enrolled : (told : Option (Option KeyId)) → last (enrolled_found c.0 s.0) (mine n later) ≡ told
        → is_clear_by c.0 s.0 (mine n later) told ≡ true
        → (k : KeyId) → after.enrolled c.0 s.0 ≡ Some k → is_in_key_set (after.key s.0 k.index) k.serial ≡ false
    by_enrolled None told clear' k enrolled = absurd cc
    by_enrolled (Some None) told clear' k enrolled =
        let none : after.enrolled c.0 s.0 ≡ None = found_enrolled_stays l n c before later keeps s None told in
        absurd cc
    by_enrolled (Some (Some j)) told clear' k enrolled =
        let its : after.enrolled c.0 s.0 ≡ Some j = found_enrolled_stays l n c before later keeps s (Some j) told in
        let same : j ≡ k = cc in
        by_serial k enrolled
        (outside k (subst (λ (x : KeyId). has (finds_outside s.0 x) (span x (mine n later)) ≡ true) same clear'))
        ((after.key s.0 k.index).serial == k.serial) refl

pub clear_is_true : ClearIsTrue
clear_is_true l n c events fit legal held s clear =
    let since = held_since l n c events legal held in
    let there = found_clear_stays l n c since.before since.later fit since.keeps s
    (subst (λ acts. is_clear_by c.0 s.0 acts (last (enrolled_found c.0 s.0) acts) ≡ true) since.own clear) in
    subst (λ evs. ForSome ((state_after evs).enrolled c.0 s.0)
    (λ k. is_in_key_set ((state_after evs).key s.0 k.index) k.serial ≡ false)) (sym since.whole) there
