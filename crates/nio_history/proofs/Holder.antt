-- Since when a holder has its channel, and what it knows of the channel's mode.
use Rattle.std.proofs.Common.{◌≡◌, ℕ, ◌==◌, Bool, true, false, ◌&&◌, ◌||◌, not, inl, inr, Some, None, List, [], ◌∷◌}
use Rattle.std.proofs.Common.{◌++◌, append_assoc, if◌then◌else◌, refl, ap, sym, ◌∙◌, subst, eqb-true, eq-eqb}
use Rattle.std.proofs.lemmas.Bool.{and_parts, and_from, or_cases, not-true}
use Rattle.std.proofs.lemmas.List.{append-nil}
use Rattle.std.proofs.Math.Bool.{and-false}
use Rattle.nio_base.specs.declared.limits.Limits.{Limits}
use Rattle.nio_base.specs.declared.numbers.CallerNo.{CallerNo}
use Rattle.nio_base.specs.declared.numbers.ChanNo.{ChanNo}
use Rattle.nio_history.proofs.ChannelChanges.{channels_keep}
use Rattle.nio_history.proofs.Keeping.{knows_while}
use Rattle.nio_history.proofs.LastsAlone.{one_holder, spares_not}
use Rattle.nio_history.proofs.Legal.{legal_more, legal_induction}
use Rattle.nio_history.proofs.OneMore.{state_after-more, mine-own, mine-other, has-more, since_from-more}
use Rattle.nio_history.proofs.Put.{put_gave, put-same}
use Rattle.nio_history.proofs.Soundness.{legal-sound, held_some, both_ways}
use Rattle.nio_history.specs.Acts.{effect}
use Rattle.nio_history.specs.Answers.{Answers}
use Rattle.nio_history.specs.Conditions.{Condition, is_held_by}
use Rattle.nio_history.specs.Histories.{state_after, is_by, mine, IsStep, IsLegal}
use Rattle.nio_history.specs.Holders.{Keeps, KeepsMode}
use Rattle.nio_history.specs.Permanent.{the_hold}
use Rattle.nio_history.specs.OwnEvents.{has, under, takes_hold, finds_unblocked, sets_mode, releases}
use Rattle.nio_history.specs.Sound.{IsSound}
use Rattle.nio_history.specs.State.{State, put}
use Rattle.nio_history.specs.Turns.{HolderKnowsMode}
use Rattle.nio_history.specs.declared.act.Act.{Act}
use Rattle.nio_history.specs.declared.act.Act.TheVariants.{LookChannel, TryHoldBit, Release}
use Rattle.nio_history.specs.declared.event.Event.{Event}
use Rattle.nio_history.specs.declared.found.Chan.{Chan}

-- who holds a channel after a step that didn't give it the hold held it before
held_before : (st : State) (me n : CallerNo) (act : Act) → Answers st me act → (c : ℕ)
    → ((me.0 == n.0) && takes_hold c act) ≡ false
    → is_held_by n ((effect st me act).hold c) ≡ true → is_held_by n (st.hold c) ≡ true
held_before st me n (TryHoldBit k None) answers c spared = λ now.
    put_gave (λ m o. ((me.0 == n.0) && (k.0 == m)) ≡ false → is_held_by n o ≡ true) st.hold k.0 (Some me)
    (λ new spared'. absurd
    (both_ways ((me.0 == n.0) && (k.0 == k.0))
    (and_from (me.0 == n.0) (k.0 == k.0) (new spared') (eq-eqb k.0 k.0 refl)) spared'))
    c (λ _. now) spared
held_before st me n (TryHoldBit k (Some x)) answers c spared =
    put_gave (λ _ o. is_held_by n o ≡ true) st.hold k.0 (Some x)
    (λ new. let found_is : Some x ≡ st.hold k.0 = cc in subst (λ o. is_held_by n o ≡ true) found_is new) c
held_before st me n (Release k) answers c spared =
    put_gave (λ _ o. is_held_by n o ≡ true) st.hold k.0 None (λ new. absurd cc) c
held_before st me n act answers c spared = λ now. now

-- after a release nobody holds the channel
released_free : (st : State) (me n : CallerNo) (act : Act) (c : ℕ) → releases c act ≡ true
    → is_held_by n ((effect st me act).hold c) ≡ true → ⊥
released_free st me n (Release k) c released held =
    let same : k.0 ≡ c = eqb-true k.0 c released in
    let free : (put st.hold k.0 None) c ≡ None = subst (λ (m : ℕ). (put st.hold k.0 None) m ≡ None) same
    (put-same st.hold k.0 None) in
    both_ways (is_held_by n ((put st.hold k.0 None) c)) held (ap (is_held_by n) free)
released_free st me n act c released held = cc released

-- since when a holder has its channel: what it did since then is what it did under its hold
pub record HeldSince (l : Limits) (n : CallerNo) (c : ChanNo) (events : List Event) : Type 0 where
  pub before : List Event
  pub later : List Event
  pub whole : events ≡ before ++ later
  pub keeps : Keeps l n (the_hold c) before later
  pub own : under c.0 (mine n events) ≡ mine n later

pub held_since : (l : Limits) (n : CallerNo) (c : ChanNo) (events : List Event) → IsLegal l events
    → is_held_by n ((state_after events).hold c.0) ≡ true → HeldSince l n c events
held_since l n c =
    legal_induction l (λ evs. is_held_by n ((state_after evs).hold c.0) ≡ true → HeldSince l n c evs)
    (λ held. absurd cc) each
  where
    each : (past : List Event) (e : Event) → IsLegal l past → IsStep l past e
        → (is_held_by n ((state_after past).hold c.0) ≡ true → HeldSince l n c past)
        → is_held_by n ((state_after (past ++ e ∷ [])).hold c.0) ≡ true → HeldSince l n c (past ++ e ∷ [])
    each past e legal step before held = by_caller (is_by n e) (takes_hold c.0 e.act) refl refl
      where
        next : List Event
        next = past ++ e ∷ []

        legal_next_one : IsLegal l next
        legal_next_one = legal_more l past e legal step

        held_then : is_held_by n ((effect (state_after past) e.caller e.act).hold c.0) ≡ true
        held_then = subst (λ st. is_held_by n (st.hold c.0) ≡ true) (state_after-more past e) held

        not_released : releases c.0 e.act ≡ false
        not_released = by_test (releases c.0 e.act) refl
          where
            by_test : (b : Bool) → releases c.0 e.act ≡ b → b ≡ false
            by_test true released = absurd (released_free (state_after past) e.caller n e.act c.0 released held_then)
            by_test false released = refl

        -- where it held the channel before the step, it has it since the same moment
        going_on : (earlier : HeldSince l n c past) → under c.0 (mine n next) ≡ mine n (earlier.later ++ e ∷ [])
            → has (releases c.0) (mine n (earlier.later ++ e ∷ [])) ≡ false → HeldSince l n c next
        going_on earlier own kept =
            let whole : next ≡ earlier.before ++ (earlier.later ++ e ∷ []) = ap
            (λ events. events ++ e ∷ []) earlier.whole ∙ append_assoc earlier.before earlier.later (e ∷ []) in
            record {
              before = earlier.before;
              later = earlier.later ++ e ∷ [];
              whole = whole;
              keeps = record {
                legal = subst (IsLegal l) whole legal_next_one;
                has_it = earlier.keeps.has_it;
                kept = kept;
              };
              own = own;
            }

        by_caller : (b t : Bool) → is_by n e ≡ b → takes_hold c.0 e.act ≡ t → HeldSince l n c next
        by_caller true true by takes = record {
          before = next;
          later = [];
          whole = sym (append-nil next);
          keeps = record {
            legal = subst (IsLegal l) (sym (append-nil next)) legal_next_one;
            has_it = held;
            kept = refl;
          };
          own = ap (under c.0) (mine-own n past e by)
              ∙ (since_from-more (takes_hold c.0) (mine n past) e.act
              ∙ ap (λ b. if b then [] else under c.0 (mine n past) ++ e.act ∷ []) takes);
        }
        by_caller true false by takes =
            let earlier = before
            (held_before (state_after past) e.caller n e.act step.answers c.0
            (ap (λ b. is_by n e && b) takes ∙ and-false (is_by n e)) held_then) in
            let more : mine n (earlier.later ++ e ∷ []) ≡ mine n earlier.later ++ e.act
            ∷ [] = mine-own n earlier.later e by in
            going_on earlier
            (ap (under c.0) (mine-own n past e by) ∙ (since_from-more (takes_hold c.0) (mine n past) e.act
            ∙ (ap (λ b. if b then [] else under c.0 (mine n past) ++ e.act ∷ []) takes
            ∙ (ap (λ acts. acts ++ e.act ∷ []) earlier.own ∙ sym more))))
            (ap (has (releases c.0)) more
            ∙ (has-more (releases c.0) (mine n earlier.later) e.act
            ∙ (ap (λ b. b || releases c.0 e.act) earlier.keeps.kept ∙ not_released)))
        by_caller false t by takes =
            let earlier = before
            (held_before (state_after past) e.caller n e.act step.answers c.0
            (ap (λ b. b && takes_hold c.0 e.act) by) held_then) in
            let more : mine n (earlier.later ++ e ∷ []) ≡ mine n earlier.later = mine-other n earlier.later e by in
            going_on earlier (ap (under c.0) (mine-other n past e by) ∙ (earlier.own ∙ sym more))
            (ap (has (releases c.0)) more ∙ earlier.keeps.kept)

-- ---- the mode of the channel

-- a channel as it is keeps its mode
pub mode_itself : (x : Chan) → KeepsMode x x
mode_itself x = record { non_blocking = λ e. e; while_open = λ _. refl }

-- no step but some of the holder's sets the mode of an open channel, or makes a non-blocking one blocking
pub mode_kept : (l : Limits) (own : List Act) (st : State) (me n : CallerNo) (act : Act) (c : ℕ) (was : Chan)
    → IsSound st → Condition l own st me act → Answers st me act
    → is_held_by n (st.hold c) ≡ true → ((me.0 == n.0) && sets_mode c act) ≡ false → KeepsMode was (st.chan c)
    → KeepsMode was ((effect st me act).chan c)
mode_kept l own st me n act c was sound may answers held spared now =
    channels_keep May st me (λ m x. m ≡ c → KeepsMode was x) (record {
      made = λ k kind _ unmade _ at.
          absurd (both_ways (st.chan k.0).made (sound.held_made k.0 (held_some n (st.hold k.0) (held_at k.0 at)))
          unmade);
      mode = λ k blocking found may' _ at. absurd (not_its k may'.0.1 may'.1 at);
      closed = λ k from found _ closes old at. record {
        non_blocking = λ e.
            let x : Chan = st.chan k.0 in
            let both = and_parts (x.serial == from.serial) (x.blocking || not from.blocking) closes in
            let non_blocking' : x.blocking ≡ false = (old at).non_blocking e in
            not-true from.blocking (sym (ap (λ b. b || not from.blocking) non_blocking') ∙ both.1);
        while_open = λ e. absurd cc;
      };
      reopened = λ k may' _ at. absurd (not_its k may'.0.1 may'.1 at);
    }) act (may, spared) answers c (λ _. now) refl
  where
    May : Act → Type 0
    May act' = Condition l own st me act' × (((me.0 == n.0) && sets_mode c act') ≡ false)

    held_at : (k : ℕ) → k ≡ c → is_held_by n (st.hold k) ≡ true
    held_at k at = subst (λ (m : ℕ). is_held_by n (st.hold m) ≡ true) (sym at) held

    not_its : (k : ChanNo) → is_held_by me (st.hold k.0) ≡ true → ((me.0 == n.0) && (k.0 == c)) ≡ false → k.0 ≡ c → ⊥
    not_its k its spared' at =
        spares_not me n (k.0 == c) (one_holder me n (st.hold k.0) its (held_at k.0 at)) (eq-eqb k.0 c at) spared'

unblocked_told : (st : State) (me : CallerNo) (act : Act) (c : ℕ) → Answers st me act → finds_unblocked c act ≡ true
    → ((effect st me act).chan c).blocking ≡ false
unblocked_told st me (LookChannel k found) c answers told =
    let both = and_parts (k.0 == c) (not found.blocking) told in
    let same : k.0 ≡ c = eqb-true k.0 c both.0 in
    let found_is : found ≡ st.chan k.0 = cc in
    subst (λ (m : ℕ). (st.chan m).blocking ≡ false) same
    (subst (λ x. x.blocking ≡ false) found_is (not-true found.blocking both.1))
unblocked_told st me act c answers told = absurd (cc told)

pub holder_knows_mode : HolderKnowsMode
holder_knows_mode l n c events legal held had spared =
    let since = held_since l n c events legal held in
    let known =
    knows_while l n (the_hold c) (sets_mode c.0)
    (λ did st. has (finds_unblocked c.0) did ≡ true → (st.chan c.0).blocking ≡ false)
    (λ past e legal' step had' by spared' did knew found.
    elim (or_cases (has (finds_unblocked c.0) did) (finds_unblocked c.0 e.act)
    (sym (has-more (finds_unblocked c.0) did e.act) ∙ found)) [
      | inl earlier ↦ non_blocking_still past e legal' step had'
          (ap (λ b. is_by n e && b) spared' ∙ and-false (is_by n e)) (knew earlier)
      | inr now ↦ unblocked_told (state_after past) e.caller e.act c.0 step.answers now
    ])
    (λ past e legal' step had' by did knew found.
    non_blocking_still past e legal' step had' (ap (λ b. b && sets_mode c.0 e.act) by) (knew found))
    since.before since.later since.keeps (sym (ap (has (sets_mode c.0)) since.own) ∙ spared) (λ found. absurd cc)
    (sym (ap (has (finds_unblocked c.0)) since.own) ∙ had) in
    subst (λ evs. ((state_after evs).chan c.0).blocking ≡ false) (sym since.whole) known
  where
    non_blocking_still : (past : List Event) (e : Event) → IsLegal l past → IsStep l past e
        → is_held_by n ((state_after past).hold c.0) ≡ true → (is_by n e && sets_mode c.0 e.act) ≡ false
        → ((state_after past).chan c.0).blocking ≡ false
        → ((effect (state_after past) e.caller e.act).chan c.0).blocking ≡ false
    non_blocking_still past e legal' step had' spared' =
        (mode_kept l (mine e.caller past) (state_after past) e.caller n e.act c.0 ((state_after past).chan c.0)
        (legal-sound l past legal') step.condition step.answers had' spared'
        (mode_itself ((state_after past).chan c.0))).non_blocking
