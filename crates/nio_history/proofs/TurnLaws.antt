-- The laws of turns: each turn and each hold has one holder, and one selection is in progress at a time.
use Rattle.std.proofs.Common.{◌≡◌, ℕ, ◌==◌, Bool, true, false, ◌&&◌, ◌||◌, not, inl, inr, Option, Some, None, List, []}
use Rattle.std.proofs.Common.{◌∷◌, ◌++◌, append_assoc, refl, ap, sym, ◌∙◌, subst, eqb-true, eq-eqb}
use Rattle.std.proofs.lemmas.Bool.{and_parts, and_from, or_cases, or_right, true_from_ne_false}
use Rattle.std.proofs.Math.Bool.{or-false}
use Rattle.nio_base.specs.declared.limits.Limits.{Limits}
use Rattle.nio_base.specs.declared.numbers.CallerNo.{CallerNo}
use Rattle.nio_base.specs.declared.numbers.SelNo.{SelNo}
use Rattle.nio_history.proofs.LastsAlone.{had_stands, one_holder}
use Rattle.nio_history.proofs.Legal.{legal_beginning, legal_next}
use Rattle.nio_history.proofs.OneMore.{state_after-more}
use Rattle.nio_history.proofs.Put.{put-same}
use Rattle.nio_history.proofs.Soundness.{legal-sound}
use Rattle.nio_history.specs.Acts.{effect}
use Rattle.nio_history.specs.Conditions.{Condition, is_held_by, has_turn, has_begun, has_list, is_closer, has_entered}
use Rattle.nio_history.specs.Conditions.{may_remove_cancelled, may_clear_out}
use Rattle.nio_history.specs.Histories.{state_after, event_of, mine, IsStep, IsLegal}
use Rattle.nio_history.specs.Permanent.{OwnFact, the_turn, a_selection, the_hold, is_had_by, gives_back}
use Rattle.nio_history.specs.OwnEvents.{has, finds_below, since_entered, gives_turn, releases}
use Rattle.nio_history.specs.Sets.{in_cancelled_set}
use Rattle.nio_history.specs.Sound.{IsSound}
use Rattle.nio_history.specs.State.{State}
use Rattle.nio_history.specs.Turns.{selects_on, removes_on, TurnHasOneHolder, HoldHasOneHolder, OneSelectionAtATime}
use Rattle.nio_history.specs.Turns.{takes_touched_on, OnlyWhoMaySelects, TakersHaveList}
use Rattle.nio_history.specs.declared.act.Act.{Act}
use Rattle.nio_history.specs.declared.act.Act.TheVariants.{TakeTurn, BeginLook, Remove, Mark, EndWake, TryHoldBit}
use Rattle.nio_history.specs.declared.act.Act.TheVariants.{TakeTouched}
use Rattle.nio_history.specs.declared.event.Event.{Event}

-- what a caller has after an event it still has at a later step, where it didn't give it back in between
until_given_back : (l : Limits) (n : CallerNo) (f : OwnFact) (past : List Event) (first : Event) (between : List Event)
    (e : Event)
    → IsLegal l (past ++ first ∷ (between ++ e ∷ []))
    → (IsStep l past first → is_had_by n f (effect (state_after past) first.caller first.act) ≡ true)
    → has (gives_back f) (mine n between) ≡ false
    → (seen : List Event) × IsLegal l seen × IsStep l seen e × (is_had_by n f (state_after seen) ≡ true)
until_given_back l n f past first between e legal begins kept =
    let start : List Event = past ++ first ∷ [] in
    let seen : List Event = start ++ between in
    let joined : start ++ (between ++ e ∷ []) ≡ past ++ first ∷ (between ++ e ∷ []) = append_assoc past (first ∷ [])
    (between ++ e ∷ []) in
    let whole : seen ++ e ∷ [] ≡ start ++ (between ++ e ∷ []) = append_assoc start between (e ∷ []) in
    let legal' : IsLegal l (seen ++ e ∷ []) = subst (IsLegal l) (sym (whole ∙ joined)) legal in
    let legal_seen : IsLegal l seen = legal_beginning l seen (e ∷ []) legal' in
    let had : is_had_by n f (state_after start) ≡ true =
    subst (λ st. is_had_by n f st ≡ true) (sym (state_after-more past first))
    (begins (legal_next l past first (between ++ e ∷ []) legal)) in
    (seen, legal_seen, legal_next l seen e [] legal', had_stands l n start between legal_seen f kept had)

held_by_self : (n : CallerNo) → is_held_by n (Some n) ≡ true
held_by_self n = eq-eqb n.0 n.0 refl

-- a place that is free has no holder
pub not_free : (n : CallerNo) (o : Option CallerNo) → is_held_by n o ≡ true → None ≡ o → ⊥
not_free n None held free = absurd cc
not_free n (Some m) held free = absurd cc

pub turn_has_one_holder : TurnHasOneHolder
turn_has_one_holder l s m n past between legal = true_from_ne_false (has (gives_turn s.0) (mine m between)) again
  where
    again : has (gives_turn s.0) (mine m between) ≡ false → ⊥
    again kept =
        let then =
        until_given_back l m (the_turn s) past (event_of m (TakeTurn s None)) between
        (event_of n (TakeTurn s None)) legal
        (λ step. ap (is_held_by m) (put-same (state_after past).turn s.0 (Some m)) ∙ held_by_self m) kept in
        let free : None ≡ (state_after then.0).turn s.0 = cc (then.2.answers) in
        not_free m ((state_after then.0).turn s.0) then.3 free

pub hold_has_one_holder : HoldHasOneHolder
hold_has_one_holder l c m n past between legal = true_from_ne_false (has (releases c.0) (mine m between)) again
  where
    again : has (releases c.0) (mine m between) ≡ false → ⊥
    again kept =
        let then =
        until_given_back l m (the_hold c) past (event_of m (TryHoldBit c None)) between
        (event_of n (TryHoldBit c None)) legal
        (λ step. ap (is_held_by m) (put-same (state_after past).hold c.0 (Some m)) ∙ held_by_self m) kept in
        let free : None ≡ (state_after then.0).hold c.0 = cc (then.2.answers) in
        not_free m ((state_after then.0).hold c.0) then.3 free

-- two callers that have begun on one selector are one caller
begun_is : (st : State) (me n : CallerNo) (s s' : SelNo) → has_begun st n s ≡ true → s'.0 ≡ s.0
    → has_begun st me s' ≡ true → me.0 ≡ n.0
begun_is st me n s s' has_it same begun =
    let mine' : is_held_by me (st.turn s'.0) ≡ true = (and_parts (has_turn st me s') (st.begun s'.0) begun).0 in
    let its : is_held_by n (st.turn s.0) ≡ true = (and_parts (has_turn st n s) (st.begun s.0) has_it).0 in
    one_holder me n (st.turn s.0) (subst (λ (k : ℕ). is_held_by me (st.turn k) ≡ true) same mine') its

-- what is one, two or three other things or not is it where it is neither of those
pub of_one : (b : Bool) → (b || false) ≡ true → b ≡ true
of_one b e = sym (or-false b) ∙ e

pub of_two : (b : Bool) → (b || false || false) ≡ true → b ≡ true
of_two b e = of_one b (of_one (b || false) e)

of_three : (b : Bool) → (b || false || false || false) ≡ true → b ≡ true
of_three b e = of_two b (of_one (b || false || false) e)

-- while caller n selects, whoever does what only the selecting caller does is n
pub selecting_is : (l : Limits) (own : List Act) (st : State) (me n : CallerNo) (s : SelNo) (act : Act) → IsSound st
    → has_begun st n s ≡ true
    → Condition l own st me act → selects_on s.0 act ≡ true → me.0 ≡ n.0
selecting_is l own st me n s (Remove s' i found) sound has_it may on =
    let same : s'.0 ≡ s.0 = eqb-true s'.0 s.0 (of_two (s'.0 == s.0) on) in
    elim (or_cases (may_remove_cancelled st me s' i) (may_clear_out st own me s' i) may.1) [
      | inl sweep ↦ begun_is st me n s s' has_it same
          (and_parts (has_begun st me s') (in_cancelled_set (st.key s'.0 i)) sweep).0
      | inr clear ↦
          let entered : st.entered s'.0
          ≡ true = (and_parts (is_closer st me s') (st.entered s'.0)
          (and_parts (has_entered st me s') (has (finds_below s'.0 i) (since_entered s'.0 own)) clear).0).1 in
          let not_entered : st.entered s.0 ≡ false = sound.begun_open s.0
          (and_parts (has_turn st n s) (st.begun s.0) has_it).1 in
          let clash : true ≡ false = sym entered ∙ (ap st.entered same ∙ not_entered) in
          absurd cc
    ]
selecting_is l own st me n s (Mark s' i from told found) sound has_it may on =
    begun_is st me n s s' has_it (eqb-true s'.0 s.0 (of_one (s'.0 == s.0) on)) may.1
selecting_is l own st me n s (EndWake s' found) sound has_it may on =
    begun_is st me n s s' has_it (eqb-true s'.0 s.0 on) may.1
selecting_is l own st me n s (TakeTouched s' j found) sound has_it may on =
    begun_is st me n s s' has_it (eqb-true s'.0 s.0 (of_three (s'.0 == s.0) on)) may.2
selecting_is l own st me n s act sound has_it may on = absurd (cc on)

pub one_selection_at_a_time : OneSelectionAtATime
one_selection_at_a_time l s n found past between e legal open_gate kept on =
    let then = until_given_back l n (a_selection s) past (event_of n (BeginLook s found)) between e legal begins kept in
    let same : e.caller.0 ≡ n.0 =
    selecting_is l (mine e.caller then.0) (state_after then.0) e.caller n s e.act
    (legal-sound l then.0 then.1) then.3 then.2.condition on in
    ap (λ (k : ℕ). caller k) same
  where
    caller : ℕ → CallerNo
    caller k = record { 0 = k }

    begins : IsStep l past (event_of n (BeginLook s found))
        → is_had_by n (a_selection s) (effect (state_after past) n (BeginLook s found)) ≡ true
    begins step =
        and_from (has_turn (state_after past) n s) ((effect (state_after past) n (BeginLook s found)).begun s.0)
        step.condition.1
        (put-same (state_after past).begun s.0 ((state_after past).begun s.0 || not found.shut)
        ∙ now_begun ((state_after past).begun s.0))
      where
        now_begun : (b : Bool) → (b || not found.shut) ≡ true
        now_begun true = refl
        now_begun false = ap not open_gate

-- what is true of a selector is true of a selector with the same number
moved : (P : SelNo → Bool) (s' s : SelNo) → s'.0 ≡ s.0 → P s' ≡ true → P s ≡ true
moved P s' s same h =
    let whole : s' ≡ s = ap (λ (k : ℕ). selector k) same in
    subst (λ k. P k ≡ true) whole h
  where
    selector : ℕ → SelNo
    selector k = record { 0 = k }

may_select_by : (l : Limits) (own : List Act) (st : State) (me : CallerNo) (s : SelNo) (act : Act)
    → Condition l own st me act → selects_on s.0 act ≡ true
    → (has_begun st me s || (removes_on s.0 act && has_entered st me s)) ≡ true
may_select_by l own st me s (Remove s' i found) may on =
    let same : s'.0 ≡ s.0 = eqb-true s'.0 s.0 (of_two (s'.0 == s.0) on) in
    elim (or_cases (may_remove_cancelled st me s' i) (may_clear_out st own me s' i) may.1) [
      | inl sweep ↦
          ap (λ b. b || ((s'.0 == s.0) && has_entered st me s))
          (moved (has_begun st me) s' s same
          (and_parts (has_begun st me s') (in_cancelled_set (st.key s'.0 i)) sweep).0)
      | inr clear ↦
          let entered =
          (and_parts (has_entered st me s') (has (finds_below s'.0 i) (since_entered s'.0 own)) clear).0 in
          or_right (has_begun st me s) ((s'.0 == s.0) && has_entered st me s)
          (and_from (s'.0 == s.0) (has_entered st me s) (of_two (s'.0 == s.0) on) (moved (has_entered st me) s' s same entered))
    ]
may_select_by l own st me s (Mark s' i from told found) may on =
    ap (λ b. b || false) (moved (has_begun st me) s' s (eqb-true s'.0 s.0 (of_one (s'.0 == s.0) on)) may.1)
may_select_by l own st me s (EndWake s' found) may on =
    ap (λ b. b || false) (moved (has_begun st me) s' s (eqb-true s'.0 s.0 on) may.1)
may_select_by l own st me s (TakeTouched s' j found) may on =
    ap (λ b. b || false)
    (moved (has_begun st me) s' s (eqb-true s'.0 s.0 (of_three (s'.0 == s.0) on)) may.2)
may_select_by l own st me s act may on = absurd (cc on)

pub only_who_may_selects : OnlyWhoMaySelects
only_who_may_selects l s past e later legal on =
    may_select_by l (mine e.caller past) (state_after past) e.caller s e.act (legal_next l past e later legal).condition
    on

takes_with_list : (l : Limits) (own : List Act) (st : State) (me : CallerNo) (s : SelNo) (act : Act)
    → Condition l own st me act → takes_touched_on s.0 act ≡ true → has_list st me s ≡ true
takes_with_list l own st me s (TakeTouched s' j found) may on =
    moved (has_list st me) s' s (eqb-true s'.0 s.0 on) may.3
takes_with_list l own st me s act may on = absurd (cc on)

pub takers_have_list : TakersHaveList
takers_have_list l s past e later legal on =
    takes_with_list l (mine e.caller past) (state_after past) e.caller s e.act
    (legal_next l past e later legal).condition on
