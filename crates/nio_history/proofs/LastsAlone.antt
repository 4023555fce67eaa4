-- What only the caller's own acts end: its turn, its selection, its hold, its pin, the index that it took.
use Rattle.std.proofs.Common.{◌≡◌, ℕ, ◌==◌, Bool, true, false, ◌&&◌, ◌||◌, inl, inr, Option, Some, None, is_some, List}
use Rattle.std.proofs.Common.{[], ◌∷◌, ◌++◌, map, if◌then◌else◌, not, refl, ap, sym, ◌∙◌, subst, eqb-true, eq-eqb}
use Rattle.std.proofs.lemmas.Bool.{and_parts, and_from, or_cases}
use Rattle.std.proofs.lemmas.List.{append-nil, append_cancel_left}
use Rattle.std.specs.List.{filter, list_any}
use Rattle.nio_base.specs.declared.limits.Limits.{Limits}
use Rattle.nio_base.specs.declared.numbers.CallerNo.{CallerNo}
use Rattle.nio_history.proofs.Claims.{pin_stays}
use Rattle.nio_history.proofs.Legal.{without_from}
use Rattle.nio_history.proofs.OneMore.{state_after-more, mine-append}
use Rattle.nio_history.proofs.Put.{put_keeps, put_at_keeps, put_pin_keeps}
use Rattle.nio_history.proofs.Soundness.{legal-sound, held_some, both_ways}
use Rattle.nio_history.specs.Acts.{effect, taken_by}
use Rattle.nio_history.specs.Answers.{Answers}
use Rattle.nio_history.specs.Conditions.{Condition, is_held_by, has_turn, has_begun, has_taken, may_put_due}
use Rattle.nio_history.specs.Histories.{state_after, is_by, mine, IsLegal}
use Rattle.nio_history.specs.Permanent.{OwnFact, the_turn, a_selection, the_hold, a_pin, a_taken_index, a_change, is_had_by}
use Rattle.nio_history.specs.Permanent.{gives_back}
use Rattle.nio_history.specs.OwnEvents.{has, gives_turn, releases, gives_index, unpins}
use Rattle.nio_history.specs.Sound.{IsSound}
use Rattle.nio_history.specs.State.{State, put}
use Rattle.nio_history.specs.declared.act.Act.{Act}
use Rattle.nio_history.specs.declared.act.Act.TheVariants.{TakeTurn, BeginLook, GiveTurn, TryHoldBit, Release}
use Rattle.nio_history.specs.declared.act.Act.TheVariants.{ClaimAgain}
use Rattle.nio_history.specs.declared.act.Act.TheVariants.{PutFree, TakeFree, Unpin, Touch}
use Rattle.nio_history.specs.declared.event.Event.{Event}

-- a place has one holder: two that hold it are one caller
pub one_holder : (m n : CallerNo) (o : Option CallerNo) → is_held_by m o ≡ true → is_held_by n o ≡ true → m.0 ≡ n.0
one_holder m n None h k = absurd cc
one_holder m n (Some x) h k = sym (eqb-true x.0 m.0 h) ∙ eqb-true x.0 n.0 k

-- trying to take what another has changes nothing
taken_keeps : (me n : CallerNo) (o : Option CallerNo) → is_held_by n o ≡ true → is_held_by n (taken_by me o) ≡ true
taken_keeps me n None h = absurd cc
taken_keeps me n (Some x) h = h

-- an act of the caller's own isn't one of another caller or of another kind
pub spares_not : (me n : CallerNo) (b : Bool) → me.0 ≡ n.0 → b ≡ true → ((me.0 == n.0) && b) ≡ false → ⊥
spares_not me n b same such spared =
    both_ways ((me.0 == n.0) && b) (and_from (me.0 == n.0) b (eq-eqb me.0 n.0 same) such) spared

pub same_two : (a b : ℕ) → ((a == a) && (b == b)) ≡ true
same_two a b = and_from (a == a) (b == b) (eq-eqb a a refl) (eq-eqb b b refl)

-- a step of the holder that gives the place back isn't one of another caller or of another kind
not_spared : (me n : CallerNo) (o : Option CallerNo) (there : Bool) → there ≡ true → is_held_by me o ≡ true
    → is_held_by n o ≡ true → ((me.0 == n.0) && there) ≡ false → ⊥
not_spared me n o there is_there mine' has_it spared =
    spares_not me n there (one_holder me n o mine' has_it) is_there spared

-- who holds a place holds it still when another tries to take it
pub take_keeps : (f : ℕ → Option CallerNo) (me n : CallerNo) (k i : ℕ) (found : Option CallerNo) → found ≡ f k
    → is_held_by n (f i) ≡ true → is_held_by n (put f k (taken_by me found) i) ≡ true
take_keeps f me n k i found is =
    put_keeps (λ _ o. is_held_by n o ≡ true) f k _
    (λ h. taken_keeps me n found (subst (λ o. is_held_by n o ≡ true) (sym is) h)) i

-- and when its holder, another caller, gives back a place
give_keeps : (f : ℕ → Option CallerNo) (me n : CallerNo) (k i : ℕ) → is_held_by me (f k) ≡ true
    → ((me.0 == n.0) && (k == i)) ≡ false → is_held_by n (f i) ≡ true → is_held_by n (put f k None i) ≡ true
give_keeps f me n k i its spared held =
    put_keeps (λ m o. ((me.0 == n.0) && (k == m)) ≡ false → is_held_by n o ≡ true) f k None
    (λ old spared'. absurd (not_spared me n (f k) (k == k) (eq-eqb k k refl) its (old spared') spared')) i
    (λ _. held) spared

turn_stays : (l : Limits) (own : List Act) (st : State) (me n : CallerNo) (act : Act) → Condition l own st me act
    → Answers st me act
    → (s : ℕ) → ((me.0 == n.0) && gives_turn s act) ≡ false → is_held_by n (st.turn s) ≡ true
    → is_held_by n ((effect st me act).turn s) ≡ true
turn_stays l own st me n (TakeTurn k found) may answers s spared = take_keeps st.turn me n k.0 s found (cc)
turn_stays l own st me n (GiveTurn k) may answers s spared = give_keeps st.turn me n k.0 s may.1 spared
turn_stays l own st me n act may answers s spared = λ h. h

hold_stays : (l : Limits) (own : List Act) (st : State) (me n : CallerNo) (act : Act) → Condition l own st me act
    → Answers st me act
    → (c : ℕ) → ((me.0 == n.0) && releases c act) ≡ false → is_held_by n (st.hold c) ≡ true
    → is_held_by n ((effect st me act).hold c) ≡ true
hold_stays l own st me n (TryHoldBit k found) may answers c spared = take_keeps st.hold me n k.0 c found (cc)
hold_stays l own st me n (Release k) may answers c spared = give_keeps st.hold me n k.0 c may.1 spared
hold_stays l own st me n act may answers c spared = λ h. h

begun_stays : (l : Limits) (own : List Act) (st : State) (me n : CallerNo) (act : Act) → Condition l own st me act
    → Answers st me act
    → (s : ℕ) → ((me.0 == n.0) && gives_turn s act) ≡ false → is_held_by n (st.turn s) ≡ true → st.begun s ≡ true
    → (effect st me act).begun s ≡ true
begun_stays l own st me n (TakeTurn k found) may answers s spared turn begun =
    put_keeps (λ m b. is_held_by n (st.turn m) ≡ true → b ≡ true) st.begun k.0 _ still s (λ _. begun) turn
  where
    still : (is_held_by n (st.turn k.0) ≡ true → st.begun k.0 ≡ true) → is_held_by n (st.turn k.0) ≡ true
        → (is_some found && st.begun k.0) ≡ true
    still old h =
        let found_is : found ≡ st.turn k.0 = cc in
        and_from (is_some found) (st.begun k.0) (ap is_some found_is ∙ held_some n (st.turn k.0) h) (old h)
begun_stays l own st me n (BeginLook k found) may answers s spared turn begun =
    put_keeps (λ _ b. b ≡ true) st.begun k.0 _ (λ e. ap (λ b. b || not found.shut) e) s begun
begun_stays l own st me n (GiveTurn k) may answers s spared turn begun =
    put_keeps (λ m b. is_held_by n (st.turn m) ≡ true → ((me.0 == n.0) && (k.0 == m)) ≡ false → b ≡ true) st.begun k.0
    false
    (λ old h spared'. absurd (not_spared me n (st.turn k.0) (k.0 == k.0) (eq-eqb k.0 k.0 refl) may.1 h spared')) s
    (λ _ _. begun) turn spared
begun_stays l own st me n act may answers s spared turn begun = begun

-- a caller that has taken an index stands as its taker
not_taken : (n : CallerNo) (o : Option CallerNo) → is_held_by n o ≡ true → o ≡ None → ⊥
not_taken n o held none' = both_ways (is_held_by n o) held (ap (is_held_by n) none')

taken_stays : (l : Limits) (own : List Act) (st : State) (me n : CallerNo) (act : Act) → IsSound st
    → Condition l own st me act → Answers st me act
    → (s i : ℕ) → ((me.0 == n.0) && gives_index s i act) ≡ false → is_held_by n (st.taker s i) ≡ true
    → is_held_by n ((effect st me act).taker s i) ≡ true
taken_stays l own st me n (ClaimAgain k j c from true) sound may answers s i spared =
    put_at_keeps (λ _ _ o. is_held_by n o ≡ true) st.taker k.0 j (st.taker k.0 j) (λ h. h) s i
taken_stays l own st me n (ClaimAgain k j c from false) sound may answers s i spared = λ h.
    put_at_keeps (λ s' i' o. ((me.0 == n.0) && ((k.0 == s') && (j == i'))) ≡ false → is_held_by n o ≡ true) st.taker k.0
    j None
    (λ old spared'. absurd
    (not_spared me n (st.taker k.0 j) ((k.0 == k.0) && (j == j)) (same_two k.0 j) may.3 (old spared') spared')) s i
    (λ _. h) spared
taken_stays l own st me n (PutFree k j) sound may answers s i spared = λ h.
    put_at_keeps (λ s' i' o. ((me.0 == n.0) && ((k.0 == s') && (j == i'))) ≡ false → is_held_by n o ≡ true) st.taker k.0
    j None
    (λ old spared'. absurd (given (old spared') spared')) s i (λ _. h) spared
  where
    given : is_held_by n (st.taker k.0 j) ≡ true → ((me.0 == n.0) && ((k.0 == k.0) && (j == j))) ≡ false → ⊥
    given held spared' =
        elim (or_cases (has_taken st me k j) (may_put_due st me k j) may.1) [
          | inl taken ↦ not_spared me n (st.taker k.0 j) ((k.0 == k.0) && (j == j)) (same_two k.0 j) taken held spared'
          | inr dropped ↦ both_ways (st.put_due k.0 j) (and_parts (has_begun st me k) (st.put_due k.0 j) dropped).1
              (sound.taken_not_due k.0 j (held_some n (st.taker k.0 j) held))
        ]
taken_stays l own st me n (TakeFree k j true) sound may answers s i spared =
    put_at_keeps (λ _ _ o. is_held_by n o ≡ true) st.taker k.0 j (Some me)
    (λ held. let is_free : st.free k.0 j ≡ true = cc in
    absurd (not_taken n (st.taker k.0 j) held (sound.free_untaken k.0 j is_free))) s i
taken_stays l own st me n (TakeFree k j false) sound may answers s i spared =
    put_at_keeps (λ _ _ o. is_held_by n o ≡ true) st.taker k.0 j (st.taker k.0 j) (λ h. h) s i
taken_stays l own st me n act sound may answers s i spared = λ h. h

change_stays : (st : State) (me n : CallerNo) (act : Act) → IsSound st → (s i : ℕ)
    → ((me.0 == n.0) && unpins s i act) ≡ false → st.amid s i n.0 ≡ true → (effect st me act).amid s i n.0 ≡ true
change_stays st me n (Touch s' i' found) sound s i spared amid =
    put_pin_keeps (λ a b m x. st.pinned a b m ≡ true → x ≡ true) st.amid s'.0 i' me.0 (st.pinned s'.0 i' me.0)
    (λ _ pin. pin) s i n.0 (λ _. amid) (sound.amid_pinned s i n.0 amid)
change_stays st me n (Unpin s' i') sound s i spared amid =
    put_pin_keeps (λ a b m x. ((me.0 == m) && ((s'.0 == a) && (i' == b))) ≡ false → x ≡ true) st.amid s'.0 i' me.0 false
    (λ _ spared'. absurd (spares_not me me ((s'.0 == s'.0) && (i' == i')) refl (same_two s'.0 i') spared')) s i n.0
    (λ _. amid) spared
change_stays st me n act sound s i spared amid = amid

-- what a caller has stays but where it gives it back itself
pub lasts_alone : (l : Limits) (own : List Act) (st : State) (me n : CallerNo) (act : Act) → IsSound st
    → Condition l own st me act → Answers st me act
    → (f : OwnFact) → ((me.0 == n.0) && gives_back f act) ≡ false → is_had_by n f st ≡ true
    → is_had_by n f (effect st me act) ≡ true
lasts_alone l own st me n act sound may answers (the_turn s) spared h =
    turn_stays l own st me n act may answers s.0 spared h
lasts_alone l own st me n act sound may answers (a_selection s) spared h =
    let both = and_parts (has_turn st n s) (st.begun s.0) h in
    and_from (has_turn (effect st me act) n s) ((effect st me act).begun s.0)
    (turn_stays l own st me n act may answers s.0 spared both.0)
    (begun_stays l own st me n act may answers s.0 spared both.0 both.1)
lasts_alone l own st me n act sound may answers (the_hold c) spared h =
    hold_stays l own st me n act may answers c.0 spared h
lasts_alone l own st me n act sound may answers (a_pin s i) spared h = pin_stays st me n act s.0 i spared h
lasts_alone l own st me n act sound may answers (a_taken_index s i) spared h =
    taken_stays l own st me n act sound may answers s.0 i spared h
lasts_alone l own st me n act sound may answers (a_change s i) spared h =
    change_stays st me n act sound s.0 i spared h

-- ---- over histories

-- whether a caller did such an act is whether there is such an event by it
pub has-mine : (p : Act → Bool) (n : CallerNo) (events : List Event)
    → has p (mine n events) ≡ list_any (λ e. is_by n e && p e.act) events
has-mine p n [] = refl
has-mine p n (e ∷ events) = by_test (is_by n e) (has-mine p n events)
  where
    by_test : (b : Bool) → has p (mine n events) ≡ list_any (λ e'. is_by n e' && p e'.act) events
        → has p (map (λ x. x.act) (if b then e ∷ filter (is_by n) events else filter (is_by n) events))
        ≡ ((b && p e.act) || list_any (λ e'. is_by n e' && p e'.act) events)
    by_test true rest = ap (λ b. p e.act || b) rest
    by_test false rest = rest

-- a caller that did nothing did no such act
has-nothing : (p : Act → Bool) (own : List Act) → own ≡ [] → has p own ≡ false
has-nothing p own nothing = ap (has p) nothing

-- what a caller has stands while it doesn't give it back
pub had_stands : (l : Limits) (n : CallerNo) (past later : List Event) → IsLegal l (past ++ later)
    → (f : OwnFact) → has (gives_back f) (mine n later) ≡ false → is_had_by n f (state_after past) ≡ true
    → is_had_by n f (state_after (past ++ later)) ≡ true
had_stands l n past later legal f kept =
    without_from l (λ e. is_by n e && gives_back f e.act) (λ events. is_had_by n f (state_after events) ≡ true)
    (λ before e legal' step spared here. subst (λ st. is_had_by n f st ≡ true) (sym (state_after-more before e))
    (lasts_alone l (mine e.caller before) (state_after before) e.caller n e.act
    (legal-sound l before legal') step.condition step.answers f spared here))
    past later legal (sym (has-mine (gives_back f) n later) ∙ kept)

pub own_stands : (l : Limits) (n : CallerNo) (past later : List Event) → IsLegal l (past ++ later) → mine n later ≡ []
    → (f : OwnFact) → is_had_by n f (state_after past) ≡ true → is_had_by n f (state_after (past ++ later)) ≡ true
own_stands l n past later legal nothing f =
    had_stands l n past later legal f (has-nothing (gives_back f) (mine n later) nothing)

-- a longer history in which n has as many events has no further one
pub none_further : (n : CallerNo) (past later : List Event) → mine n (past ++ later) ≡ mine n past → mine n later ≡ []
none_further n past later same =
    append_cancel_left (mine n past) (mine n later) []
    (sym (mine-append n past later) ∙ (same ∙ sym (append-nil (mine n past))))
