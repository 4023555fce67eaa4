-- A legal history whose acts keep the rules looking back is careful.
use Rattle.std.proofs.Common.{◌≡◌, ℕ, ◌==◌, ◌+◌, Bool, true, false, cond, ◌||◌, Some, None, if◌then◌else◌, List, []}
use Rattle.std.proofs.Common.{◌∷◌, ◌++◌, append_assoc, refl, ap, sym, ◌∙◌, subst, eqb-true, eq-eqb}
use Rattle.std.proofs.Math.Bool.{or-false}
use Rattle.std.proofs.lemmas.Bool.{or_parts, or_right}
use Rattle.std.proofs.lemmas.List.{append-nil}
use Rattle.nio_base.specs.declared.limits.Limits.{Limits}
use Rattle.nio_base.specs.declared.numbers.CallerNo.{CallerNo}
use Rattle.nio_base.specs.declared.numbers.SelNo.{SelNo}
use Rattle.nio_history.proofs.LastsAlone.{had_stands}
use Rattle.nio_history.proofs.Legal.{legal_beginning, legal_next}
use Rattle.nio_history.proofs.OneMore.{since_from-more}
use Rattle.nio_history.proofs.Soundness.{both_ways}
use Rattle.nio_history.specs.Answers.{Answers}
use Rattle.nio_history.specs.Conditions.{is_held_by}
use Rattle.nio_history.specs.Histories.{state_after, event_of, mine, IsStep, IsLegal}
use Rattle.nio_history.specs.OwnEvents.{OwnClaim, has, count, under, takes_hold, sets_mode, releases, own_claim}
use Rattle.nio_history.specs.Permanent.{the_hold}
use Rattle.nio_history.specs.State.{State}
use Rattle.nio_history.specs.declared.act.Act.{Act}
use Rattle.nio_history.specs.declared.act.Act.TheVariants.{Publish, Enrol, TryHoldBit, SetMode, Reopen}
use Rattle.nio_history.specs.declared.event.Event.{Event}
use Rattle.nio_history.specs.declared.found.Stage.{Stage}
use Rattle.nio_orderly.proofs.ActLists.{has-append}
use Rattle.nio_orderly.proofs.LookingBack.{publishes_any, MayPublish, CarefulAct, AreCarefulActs}
use Rattle.nio_orderly.proofs.Published.{MayClaim, may_claim}
use Rattle.nio_orderly.specs.Careful.{enrols_for, until_released, IsCareful}
use Rattle.nio_steps.proofs.OwnActs.{Cut, cut_at, mine-own_first}
use Rattle.nio_steps.proofs.SelectionLaws.{count-append, count-none, none_of-append}

-- ---- a caller that has a hold doesn't take it

taken_free : (st : State) (n : CallerNo) (act : Act) (c : ℕ) → Answers st n act → takes_hold c act ≡ true
    → is_held_by n (st.hold c) ≡ true → ⊥
taken_free st n (TryHoldBit k None) c answers takes held =
    let found_is : None ≡ st.hold k.0 = cc in
    let free : None ≡ st.hold c = subst (λ (m : ℕ). None ≡ st.hold m) (eqb-true k.0 c takes) found_is in
    both_ways (is_held_by n (st.hold c)) held (ap (is_held_by n) (sym free))
taken_free st n act c answers takes held = cc takes

-- what a caller does under the hold under which it publishes takes no hold of the channel
no_take : (l : Limits) (n : CallerNo) (events : List Event) (b : List Act) (s : SelNo) (i : ℕ) (found : Stage)
    (done : List Act) (x : Act) (later : List Act) → IsLegal l events
    → mine n events ≡ b ++ Publish s i found ∷ (done ++ x ∷ later) → (claim : OwnClaim) → own_claim s.0 i b ≡ Some claim
    → has (releases claim.channel.0) done ≡ false → takes_hold claim.channel.0 x ≡ false
no_take l n events b s i found done x later legal own claim its kept = by_test (takes_hold claim.channel.0 x) refl
  where
    publish : Event
    publish = event_of n (Publish s i found)

    first : Cut n events b (Publish s i found) (done ++ x ∷ later)
    first = cut_at n events b (Publish s i found) (done ++ x ∷ later) own

    second : Cut n first.later done x later
    second = cut_at n first.later done x later first.mine_later

    st : State
    st = state_after first.past

    legal_first : IsLegal l (first.past ++ publish ∷ first.later)
    legal_first = subst (IsLegal l) first.parts legal

    parts : first.past ++ publish ∷ first.later ≡ (first.past ++ publish ∷ second.past) ++ event_of n x ∷ second.later
    parts = ap (λ evs. first.past ++ publish ∷ evs) second.parts
        ∙ sym (append_assoc first.past (publish ∷ second.past) (event_of n x ∷ second.later))

    legal_second : IsLegal l ((first.past ++ publish ∷ second.past) ++ event_of n x ∷ second.later)
    legal_second = subst (IsLegal l) parts legal_first

    publishing : IsStep l first.past publish
    publishing = legal_next l first.past publish first.later legal_first

    may : MayClaim st (mine n first.past) n (own_claim s.0 i (mine n first.past))
    may = may_claim st (mine n first.past) n (own_claim s.0 i (mine n first.past)) publishing.condition.1

    same : may.its_claim ≡ claim
    same =
        let both : Some may.its_claim ≡ Some claim = sym may.is ∙ (ap (own_claim s.0 i) first.mine_past ∙ its) in
        cc both

    held : is_held_by n (st.hold claim.channel.0) ≡ true
    held = subst (λ (cl : OwnClaim). is_held_by n (st.hold cl.channel.0) ≡ true) same may.held

    held_then : is_held_by n ((state_after (first.past ++ publish ∷ second.past)).hold claim.channel.0) ≡ true
    held_then =
        had_stands l n first.past (publish ∷ second.past)
        (legal_beginning l (first.past ++ publish ∷ second.past) (event_of n x ∷ second.later) legal_second)
        (the_hold claim.channel)
        (ap (has (releases claim.channel.0))
        (mine-own_first n publish second.past (eq-eqb n.0 n.0 refl)
        ∙ ap (λ acts. Publish s i found ∷ acts) second.mine_past) ∙ kept)
        held

    by_test : (t : Bool) → takes_hold claim.channel.0 x ≡ t → t ≡ false
    by_test true takes =
        absurd (taken_free (state_after (first.past ++ publish ∷ second.past)) n x claim.channel.0
        (legal_next l (first.past ++ publish ∷ second.past) (event_of n x) second.later legal_second).answers takes
        held_then)
    by_test false takes = refl

-- ---- what is done under the hold

-- what it did since it took the hold goes on where it takes none
under-append : (c : ℕ) (own done : List Act) → has (takes_hold c) done ≡ false
    → under c (own ++ done) ≡ under c own ++ done
under-append c own [] none = ap (under c) (append-nil own) ∙ sym (append-nil (under c own))
under-append c own (x ∷ done) none =
    let both = or_parts (takes_hold c x) (has (takes_hold c) done) none in
    ap (under c) (sym (append_assoc own (x ∷ []) done))
    ∙ (under-append c (own ++ x ∷ []) done both.1
    ∙ (ap (λ acts. acts ++ done)
    (since_from-more (takes_hold c) own x ∙ ap (λ b. cond {A = List Act} b [] (under c own ++ x ∷ [])) both.0)
    ∙ append_assoc (under c own) (x ∷ []) done))

-- an act by which a key is enrolled for the channel, or its mode set, or its number given to a new channel
abbrev spoils : ℕ → Act → Bool
spoils c act = enrols_for c act || sets_mode c act

-- such an act is done with care only where nothing was published under the hold
spoils_careful : (c : ℕ) (own : List Act) (act : Act) → CarefulAct own act → spoils c act ≡ true
    → has publishes_any (under c own) ≡ false
spoils_careful c own (Enrol c' s i serial found) careful spoilt =
    subst (λ (m : ℕ). has publishes_any (under m own) ≡ false)
    (eqb-true c'.0 c (sym (or-false (c'.0 == c)) ∙ spoilt)) careful
spoils_careful c own (SetMode c' blocking found) careful spoilt =
    subst (λ (m : ℕ). has publishes_any (under m own) ≡ false) (eqb-true c'.0 c spoilt) careful
spoils_careful c own (Reopen c' from false) careful spoilt =
    subst (λ (m : ℕ). has publishes_any (under m own) ≡ false) (eqb-true c'.0 c spoilt) careful
spoils_careful c own act careful spoilt = absurd (cc spoilt)

-- after a publish no such act is done until the hold is given back
none_spoils : (l : Limits) (n : CallerNo) (events : List Event) (b : List Act) (s : SelNo) (i : ℕ) (found : Stage)
    → IsLegal l events → AreCarefulActs (mine n events)
    → (claim : OwnClaim) → own_claim s.0 i b ≡ Some claim → (done later : List Act)
    → mine n events ≡ b ++ Publish s i found ∷ (done ++ later)
    → has (releases claim.channel.0) done ≡ false → has (takes_hold claim.channel.0) done ≡ false
    → has (spoils claim.channel.0) (until_released claim.channel.0 later) ≡ false
none_spoils l n events b s i found legal careful claim its done [] own kept none = refl
none_spoils l n events b s i found legal careful claim its done (x ∷ later) own kept none =
    by_release (releases c x) refl
    (λ not_released. none_spoils l n events b s i found legal careful claim its (done ++ x ∷ []) later
    (own ∙ ap (λ acts. b ++ Publish s i found ∷ acts) (sym (append_assoc done (x ∷ []) later)))
    (neither (releases c) kept not_released)
    (neither (takes_hold c) none (no_take l n events b s i found done x later legal own claim its kept)))
  where
    c : ℕ
    c = claim.channel.0

    neither : (p : Act → Bool) → has p done ≡ false → p x ≡ false → has p (done ++ x ∷ []) ≡ false
    neither p before now = none_of-append p done (x ∷ []) before (ap (λ t. t || false) now)

    before_x : List Act
    before_x = b ++ Publish s i found ∷ done

    careful_x : CarefulAct before_x x
    careful_x = careful before_x x later (own ∙ sym (append_assoc b (Publish s i found ∷ done) (x ∷ later)))

    has_published : has publishes_any (under c before_x) ≡ true
    has_published = ap (has publishes_any) (under-append c b (Publish s i found ∷ done) none)
        ∙ (has-append publishes_any (under c b) (Publish s i found ∷ done)
        ∙ or_right (has publishes_any (under c b)) true refl)

    not_spoilt : spoils c x ≡ false
    not_spoilt = by_test (spoils c x) refl
      where
        by_test : (t : Bool) → spoils c x ≡ t → t ≡ false
        by_test true spoilt =
            absurd (both_ways (has publishes_any (under c before_x)) has_published
            (spoils_careful c before_x x careful_x spoilt))
        by_test false spoilt = refl

    by_release : (t : Bool) → releases c x ≡ t
        → (releases c x ≡ false → has (spoils c) (until_released c later) ≡ false)
        → has (spoils c) (if t then [] else x ∷ until_released c later) ≡ false
    by_release true released rest = refl
    by_release false released rest = ap (λ t. t || has (spoils c) (until_released c later)) not_spoilt ∙ rest released

none_of_either : (p q : Act → Bool) (own : List Act) → has (λ act. p act || q act) own ≡ false
    → (has p own ≡ false) × (has q own ≡ false)
none_of_either p q [] none = (refl, refl)
none_of_either p q (x ∷ own) none =
    let both = or_parts (p x || q x) (has (λ act. p act || q act) own) none in
    let first = or_parts (p x) (q x) both.0 in
    let rest = none_of_either p q own both.1 in
    (ap (λ t. t || has p own) first.0 ∙ rest.0, ap (λ t. t || has q own) first.1 ∙ rest.1)

pub careful_from_acts : (l : Limits) (events : List Event) → IsLegal l events
    → ((n : CallerNo) → AreCarefulActs (mine n events)) → IsCareful events
careful_from_acts l events legal careful n before s i found later own claim its = record {
  enrolled = rules.enrolled;
  enrolled_alone = count-append (enrols_for c) (under c before) (until_released c later)
      ∙ (ap (λ (m : ℕ). m + count (enrols_for c) (until_released c later)) rules.enrolled_alone
      ∙ ap (λ (m : ℕ). 1 + m) (count-none (enrols_for c) (until_released c later) later_none.0));
  mode = has-append (sets_mode c) (under c before) (until_released c later)
      ∙ (ap (λ t. t || has (sets_mode c) (until_released c later)) rules.mode ∙ later_none.1);
  prepared = rules.prepared;
}
  where
    c : ℕ
    c = claim.channel.0

    rules : MayPublish s.0 i claim before
    rules = careful n before (Publish s i found) later own claim its

    later_none : (has (enrols_for c) (until_released c later) ≡ false)
        × (has (sets_mode c) (until_released c later) ≡ false)
    later_none =
        none_of_either (enrols_for c) (sets_mode c) (until_released c later)
        (none_spoils l n events before s i found legal (careful n) claim its [] later own refl refl)
