-- What is left once a closing has done all its steps, and where nobody owes anything.
use Rattle.std.proofs.Common.{◌≡◌, ℕ, ◌<◌, Bool, true, false, not, ◌||◌, ◌⊎◌, inl, inr, Option, Some, None, List, []}
use Rattle.std.proofs.Common.{◌∷◌, ◌++◌, append_assoc, refl, ap, sym, ◌∙◌, subst, eqb-true, eq-eqb}
use Rattle.std.proofs.Math.Bool.{or-false}
use Rattle.std.proofs.lemmas.Bool.{and_parts, or_right, false_from_ne_true}
use Rattle.nio_base.specs.Limits.{IsFit}
use Rattle.nio_base.specs.declared.limits.Limits.{Limits}
use Rattle.nio_base.specs.declared.numbers.CallerNo.{CallerNo}
use Rattle.nio_base.specs.declared.numbers.ChanId.{ChanId}
use Rattle.nio_base.specs.declared.numbers.ChanNo.{ChanNo}
use Rattle.nio_base.specs.declared.numbers.KeyId.{KeyId}
use Rattle.nio_base.specs.declared.numbers.SelNo.{SelNo}
use Rattle.nio_history.proofs.LastsOnceSound.{permanent_stands}
use Rattle.nio_history.proofs.Legal.{legal_beginning, legal_next, legal_more, legal_induction}
use Rattle.nio_history.proofs.OneMore.{state_after-more, mine-own, mine-other, has-more, mine-append}
use Rattle.nio_history.proofs.OneMore.{since_first-append}
use Rattle.nio_history.proofs.PinLaws.{own_claims_stand}
use Rattle.nio_history.proofs.Put.{put_keeps}
use Rattle.nio_history.proofs.Soundness.{legal-sound, both_ways}
use Rattle.nio_history.proofs.Within.{legal-within}
use Rattle.nio_history.specs.Acts.{effect}
use Rattle.nio_history.specs.Answers.{Answers}
use Rattle.nio_history.specs.Conditions.{Condition, is_held_by}
use Rattle.nio_history.specs.Histories.{state_after, event_of, is_by, mine, IsStep, IsLegal}
use Rattle.nio_history.specs.OwnEvents.{has, enters, since_entered, own_claim}
use Rattle.nio_history.specs.Permanent.{selector_closed_by}
use Rattle.nio_history.specs.Pins.{IsOfClaim}
use Rattle.nio_history.specs.Sets.{in_key_set, is_valid}
use Rattle.nio_history.specs.State.{State}
use Rattle.nio_history.specs.declared.act.Act.{Act}
use Rattle.nio_history.specs.declared.act.Act.TheVariants.{Publish, Enter}
use Rattle.nio_history.specs.declared.event.Event.{Event}
use Rattle.nio_history.specs.declared.found.Stage.{Stage}
use Rattle.nio_orderly.proofs.ActLists.{owes-settled}
use Rattle.nio_orderly.proofs.Cancelling.{ClosedBy, IsClosing, is_closing, closed_by, owed_by}
use Rattle.nio_orderly.proofs.Clearing.{clearing_owed}
use Rattle.nio_orderly.proofs.KeysStand.{set_claimed}
use Rattle.nio_orderly.proofs.Owed.{valid_coming}
use Rattle.nio_orderly.proofs.Published.{IsPublish, is_publish, MayClaim, may_claim}
use Rattle.nio_orderly.specs.AfterClosing.{OnlyPublishersOwe, ClosedSelectorsHaveNoKey}
use Rattle.nio_orderly.specs.Careful.{IsCareful}
use Rattle.nio_history.specs.OwnEvents.{closes}
use Rattle.nio_orderly.specs.Owed.{publishes_key, owes, publisher_duty, closing_duty, clearing_duty, OwesSince}
use Rattle.nio_orderly.specs.Owed.{key_of, channel_of_key}
use Rattle.nio_orderly.specs.Settled.{IsSettled, SettledLosesNoKey}
use Rattle.nio_steps.proofs.OwnActs.{Cut, cut_at}
use Rattle.nio_steps.specs.Names.{channel_of}

-- the selector of an index that has a key is below the limit
valid_within : (l : Limits) (events : List Event) (s i : ℕ) → IsLegal l events
    → is_valid ((state_after events).key s i) ≡ true → s < l.selectors
valid_within l events s i legal valid =
    let k : Stage = (state_after events).key s i in
    ((legal-within l events legal).keys s i
    (set_claimed (state_after events) (legal-sound l events legal) s i
    (and_parts (in_key_set k) (not k.cancelled) valid).0)).0

-- ---- a closed channel

-- where who closed the channel has settled, the publisher of a valid key owes
publisher_left : (l : Limits) (n : CallerNo) (c : ChanId) (events : List Event) (before : List Act) (act : Act)
    (since : List Act) → IsFit l
    → IsLegal l events → IsCareful events
    → mine n events ≡ before ++ act ∷ since → closes c act ≡ true
    → ((s : ℕ) → s < l.selectors → (k : KeyId) → owes (closing_duty c s k) since ≡ false)
    → (s i : ℕ) → is_valid ((state_after events).key s i) ≡ true → channel_of_key (state_after events) s i ≡ c
    → OwesSince events (publishes_key c.number.0 s (key_of (state_after events) s i))
    (publisher_duty c.number.0 s (key_of (state_after events) s i))
publisher_left l n c events before act since fit legal careful did told settled s i valid of_channel =
    elim (owed_by l fit events legal careful s i valid n before c act since did told of_channel) [
      | inl debt ↦ debt
      | inr owing ↦
          absurd (both_ways (owes (closing_duty c s (key_of (state_after events) s i)) since) owing
          (settled s (valid_within l events s i legal valid) (key_of (state_after events) s i)))
    ]

pub only_publishers_owe : OnlyPublishersOwe
only_publishers_owe l n c before after fit goes_on legal careful closed =
    publisher_left l n c after closed.before closed.act (closed.since ++ mine n goes_on.0) fit legal careful
    (ap (mine n) (sym goes_on.1)
    ∙ (mine-append n before goes_on.0
    ∙ (ap (λ acts. acts ++ mine n goes_on.0) closed.did
    ∙ append_assoc closed.before (closed.act ∷ closed.since) (mine n goes_on.0))))
    closed.closed
    (λ s below k. owes-settled (closing_duty c s k) closed.since (mine n goes_on.0) (closed.settled s below k))

-- ---- a closed selector

-- whoever is the closer of two is one
closer_is : (n : CallerNo) (o : Option CallerNo) → is_held_by n o ≡ true → o ≡ Some n
closer_is n None held = absurd cc
closer_is n (Some x) held = ap (λ (m : ℕ). Some (caller m)) (eqb-true x.0 n.0 held)
  where
    caller : ℕ → CallerNo
    caller m = record { 0 = m }

pub closed_selectors_have_no_key : ClosedSelectorsHaveNoKey
closed_selectors_have_no_key l n s before after fit goes_on legal careful closed i =
    false_from_ne_true (is_valid ((state_after after).key s.0 i)) (λ valid.
    both_ways (owes (clearing_duty s.0 i) (since_entered s.0 (mine n after)))
    (clearing_owed l fit after legal careful s.0 i n closer_now (valid_coming after s.0 i valid)) settled_now)
  where
    whole : mine n after ≡ mine n before ++ mine n goes_on.0
    whole = ap (mine n) (sym goes_on.1) ∙ mine-append n before goes_on.0

    closer_now : (state_after after).closer s.0 ≡ Some n
    closer_now = closer_is n ((state_after after).closer s.0)
        (subst (λ evs. is_held_by n ((state_after evs).closer s.0) ≡ true) goes_on.1
        (permanent_stands l before goes_on.0 (subst (IsLegal l) (sym goes_on.1) legal)
        (selector_closed_by s n) closed.closer))

    settled_now : owes (clearing_duty s.0 i) (since_entered s.0 (mine n after)) ≡ false
    settled_now =
        ap (λ own. owes (clearing_duty s.0 i) (since_entered s.0 own)) whole
        ∙ (ap (owes (clearing_duty s.0 i))
        (since_first-append (enters s.0) (mine n before) (mine n goes_on.0) closed.entered)
        ∙ owes-settled (clearing_duty s.0 i) (since_entered s.0 (mine n before)) (mine n goes_on.0) (closed.settled i))

-- ---- where nobody owes anything

-- a selector that was entered was entered by its closer
came_entered : (st : State) (me : CallerNo) (act : Act) (s : ℕ) → (effect st me act).entered s ≡ true
    → (st.entered s ≡ true) ⊎ (enters s act ≡ true)
came_entered st me (Enter k None) s =
    put_keeps (λ m b. b ≡ true → (st.entered m ≡ true) ⊎ (enters m (Enter k None) ≡ true)) st.entered k.0 _
    (λ old e. inr (eq-eqb k.0 k.0 refl)) s (λ e. inl e)
came_entered st me (Enter k (Some n)) s =
    put_keeps (λ m b. b ≡ true → (st.entered m ≡ true) ⊎ (enters m (Enter k (Some n)) ≡ true)) st.entered k.0 _
    (λ old e. inl (sym (or-false (st.entered k.0)) ∙ e)) s (λ e. inl e)
came_entered st me act s = λ e. inl e

entering_closer : (l : Limits) (own : List Act) (st : State) (me : CallerNo) (act : Act) (s : ℕ)
    → Condition l own st me act → enters s act ≡ true → is_held_by me (st.closer s) ≡ true
entering_closer l own st me (Enter k None) s may told =
    subst (λ (m : ℕ). is_held_by me (st.closer m) ≡ true) (eqb-true k.0 s told) may.1
entering_closer l own st me act s may told = absurd (cc told)

-- who entered a selector, which its closer did
record EnteredBy (events : List Event) (s : ℕ) : Type 0 where
  caller : CallerNo
  closer : is_held_by caller ((state_after events).closer s) ≡ true
  had : has (enters s) (mine caller events) ≡ true

entered_by : (l : Limits) (s : SelNo) (events : List Event) → IsLegal l events → (state_after events).entered s.0 ≡ true
    → EnteredBy events s.0
entered_by l s =
    legal_induction l (λ evs. (state_after evs).entered s.0 ≡ true → EnteredBy evs s.0) (λ entered. absurd cc) each
  where
    each : (past : List Event) (e : Event) → IsLegal l past → IsStep l past e
        → ((state_after past).entered s.0 ≡ true → EnteredBy past s.0)
        → (state_after (past ++ e ∷ [])).entered s.0 ≡ true → EnteredBy (past ++ e ∷ []) s.0
    each past e legal step before entered =
        elim (came_entered (state_after past) e.caller e.act s.0
        (subst (λ st. st.entered s.0 ≡ true) (state_after-more past e) entered)) [
          | inl entered_before ↦ on (before entered_before)
          | inr told ↦
              record {
                caller = e.caller;
                closer = still e.caller
                    (entering_closer l (mine e.caller past) (state_after past) e.caller e.act s.0 step.condition told);
                had = ap (has (enters s.0)) (mine-own e.caller past e (eq-eqb e.caller.0 e.caller.0 refl))
                    ∙ (has-more (enters s.0) (mine e.caller past) e.act
                    ∙ or_right (has (enters s.0) (mine e.caller past)) (enters s.0 e.act) told);
              }
        ]
      where
        still : (n : CallerNo) → is_held_by n ((state_after past).closer s.0) ≡ true
            → is_held_by n ((state_after (past ++ e ∷ [])).closer s.0) ≡ true
        still n closer =
            permanent_stands l past (e ∷ []) (legal_more l past e legal step) (selector_closed_by s n) closer

        on : EnteredBy past s.0 → EnteredBy (past ++ e ∷ []) s.0
        on by = record {
          caller = by.caller;
          closer = still by.caller by.closer;
          had = by_test (is_by by.caller e) refl;
        }
          where
            by_test : (b : Bool) → is_by by.caller e ≡ b → has (enters s.0) (mine by.caller (past ++ e ∷ [])) ≡ true
            by_test true its =
                ap (has (enters s.0)) (mine-own by.caller past e its)
                ∙ (has-more (enters s.0) (mine by.caller past) e.act ∙ ap (λ b. b || enters s.0 e.act) by.had)
            by_test false its = ap (has (enters s.0)) (mine-other by.caller past e its) ∙ by.had

-- a publisher that has settled owes nothing
pub publisher_settled : (l : Limits) (events : List Event) (c s : ℕ) (k : KeyId) → IsFit l → IsLegal l events
    → ((n : CallerNo) → IsSettled l (mine n events))
    → OwesSince events (publishes_key c s k) (publisher_duty c s k) → ⊥
publisher_settled l events c s k fit legal settled debt =
    both_ways (owes (publisher_duty c s k) debt.since) debt.owing
    (subst (λ (m : ℕ). owes (publisher_duty m s k) debt.since ≡ false) channel
    (subst (λ (q : ℕ). owes (publisher_duty may.its_claim.channel.0 s (key k.index q)) debt.since ≡ false) serial
    ((settled n).published debt.before sel k.index publish.found debt.since did publish.unremoved may.its_claim its)))
  where
    n : CallerNo
    n = debt.caller

    sel : SelNo
    sel = record { 0 = s }

    key : ℕ → ℕ → KeyId
    key j q = record { index = j; serial = q }

    publish : IsPublish c s k debt.act
    publish = is_publish c s k debt.act debt.made

    did : mine n events ≡ debt.before ++ Publish sel k.index publish.found ∷ debt.since
    did = debt.did ∙ ap (λ act. debt.before ++ act ∷ debt.since) publish.is

    cut : Cut n events debt.before (Publish sel k.index publish.found) debt.since
    cut = cut_at n events debt.before (Publish sel k.index publish.found) debt.since did

    st : State
    st = state_after cut.past

    legal_parts : IsLegal l (cut.past ++ event_of n (Publish sel k.index publish.found) ∷ cut.later)
    legal_parts = subst (IsLegal l) cut.parts legal

    legal_past : IsLegal l cut.past
    legal_past = legal_beginning l cut.past (event_of n (Publish sel k.index publish.found) ∷ cut.later) legal_parts

    step : IsStep l cut.past (event_of n (Publish sel k.index publish.found))
    step = legal_next l cut.past (event_of n (Publish sel k.index publish.found)) cut.later legal_parts

    may : MayClaim st (mine n cut.past) n (own_claim s k.index (mine n cut.past))
    may = may_claim st (mine n cut.past) n (own_claim s k.index (mine n cut.past)) step.condition.1

    its : own_claim s k.index debt.before ≡ Some may.its_claim
    its = ap (own_claim s k.index) (sym cut.mine_past) ∙ may.is

    of_claim : IsOfClaim may.its_claim (st.key s k.index)
    of_claim = (own_claims_stand l n sel k.index may.its_claim cut.past fit legal_past may.is).1

    found_is : publish.found ≡ st.key s k.index
    found_is =
        let answers : Answers st n (Publish sel k.index publish.found) = step.answers in
        cc answers

    channel : may.its_claim.channel.0 ≡ c
    channel = sym (ap (λ (x : ChanNo). x.0) of_claim.channel) ∙ (ap (λ x. x.chan.0) (sym found_is) ∙ publish.channel)

    serial : may.its_claim.serial ≡ k.serial
    serial = sym of_claim.serial ∙ (ap (λ x. x.serial) (sym found_is) ∙ publish.serial)

pub settled_loses_no_key : SettledLosesNoKey
settled_loses_no_key l events fit legal careful settled = record {
  channels = λ s i valid. false_from_ne_true (st.chan (st.key s i).chan.0).closed
      (λ closed. by_publisher s i valid (closed_by l (st.key s i).chan events legal closed));
  selectors = λ s i valid. false_from_ne_true (st.entered s)
      (λ entered. by_closer s i valid (entered_by l (selector s) events legal entered));
}
  where
    st : State
    st = state_after events

    selector : ℕ → SelNo
    selector s = record { 0 = s }

    by_publisher : (s i : ℕ) → is_valid (st.key s i) ≡ true → ClosedBy events (channel_of_key st s i) → ⊥
    by_publisher s i valid by = publisher_settled l events (st.key s i).chan.0 s (key_of st s i) fit legal settled
        (publisher_left l by.caller c events by.before by.act by.since fit legal careful by.did by.closed
        (λ t below k. subst (λ (q : ℕ). owes (closing_duty (channel_of c.number q) t k) by.since ≡ false) its.serial
        ((settled by.caller).closed by.before c.number its.from its.found by.since
        (by.did ∙ ap (λ act. by.before ++ act ∷ by.since) its.is) its.takes t below k)) s i valid refl)
      where
        c : ChanId
        c = channel_of_key st s i

        its : IsClosing c by.act
        its = is_closing c by.act by.closed

    by_closer : (s i : ℕ) → is_valid (st.key s i) ≡ true → EnteredBy events s → ⊥
    by_closer s i valid by =
        both_ways (owes (clearing_duty s i) (since_entered s (mine by.caller events)))
        (clearing_owed l fit events legal careful s i by.caller (closer_is by.caller (st.closer s) by.closer)
        (valid_coming events s i valid))
        ((settled by.caller).entered s i by.had)
