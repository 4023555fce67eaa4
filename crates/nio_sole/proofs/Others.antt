-- What a line leaves of what the other callers have in progress, in a legal history; and what each caller made after
-- it.
use Rattle.std.proofs.Common.{◌≡◌, ℕ, ◌==◌, Bool, true, false, if◌then◌else◌, Option, Some, None, option_map}
use Rattle.std.proofs.Common.{List, [], ◌∷◌, ◌++◌, map, refl, ap, sym, ◌∙◌, subst, append_assoc, eqb-true, eq-eqb, ◌⊎◌}
use Rattle.std.proofs.Common.{inl, inr}
use Rattle.std.specs.Prelude.{◌≢◌}
use Rattle.std.proofs.lemmas.List.{append-nil, map-append}
use Rattle.nio_base.specs.declared.limits.Limits.{Limits}
use Rattle.nio_base.specs.declared.numbers.CallerNo.{CallerNo}
use Rattle.nio_history.proofs.Legal.{legal_beginning, legal_next}
use Rattle.nio_history.proofs.OneMore.{mine-append}
use Rattle.nio_history.proofs.Soundness.{legal-sound, held_some, both_ways}
use Rattle.nio_history.proofs.Stays.{facts_are_permanent, only_itself_gives_back}
use Rattle.nio_history.proofs.TurnLaws.{not_free}
use Rattle.nio_history.specs.Conditions.{is_held_by, has_turn, is_closer}
use Rattle.nio_history.specs.Histories.{state_after, mine, event_of, IsStep, IsLegal}
use Rattle.nio_history.specs.OwnEvents.{has, since_first}
use Rattle.nio_history.specs.PassViews.{PassView, known, done_between}
use Rattle.nio_history.specs.Permanent.{the_turn, gives_back, selector_shut}
use Rattle.nio_history.specs.State.{State}
use Rattle.nio_history.specs.declared.act.Act.{Act}
use Rattle.nio_history.specs.declared.act.Act.TheVariants.{TakeTurn, ShutBit}
use Rattle.nio_history.specs.declared.event.Event.{Event}
use Rattle.nio_language.specs.declared.call.Call.{Call}
use Rattle.nio_orderly.proofs.OrderlyCare.{first_opened}
use Rattle.nio_orderly.proofs.CallLists.{mine-by}
use Rattle.nio_plain.specs.Seq.Selections.{is_caller}
use Rattle.nio_serial.proofs.Showing.{own-is}
use Rattle.nio_serial.specs.Between.{IsBetween}
use Rattle.nio_serial.specs.Documented.{Progress}
use Rattle.nio_serial.specs.Lines.{Said, own_selection, line_plan}
use Rattle.nio_sole.proofs.Calls.{takes_turn, shuts, IsTakenFrom, IsShutFrom, LeavesTo, Leads, leads_line, made_along}
use Rattle.nio_sole.proofs.Calls.{leaves_along, between_on}
use Rattle.nio_sole.specs.Made.{HasMade}
use Rattle.nio_steps.specs.Calls.{CallClause}
use Rattle.nio_steps.specs.Names.{selector}
use Rattle.nio_steps.specs.Plan.{Plan}
use Rattle.nio_steps.specs.Runs.{Completes}
use Rattle.nio_steps.specs.SelectCalls.{Selection}

-- ---- what a caller did among the events of one

other-by : (n m : CallerNo) → n ≢ m → (m.0 == n.0) ≡ false
other-by n m other = by_test (m.0 == n.0) refl
  where
    by_test : (b : Bool) → (m.0 == n.0) ≡ b → b ≡ false
    by_test true same = absurd (other (ap (λ (k : ℕ). record { 0 = k }) (sym (eqb-true m.0 n.0 same))))
    by_test false same = refl

mine-of_other : (n m : CallerNo) → n ≢ m → (acts : List Act) → mine n (map (event_of m) acts) ≡ []
mine-of_other n m other acts = mine-by n m acts false (other-by n m other)

-- ---- steps that another caller's turn or closing rules out

-- where the acts of one caller stand in a history
record OneOf (l : Limits) (me : CallerNo) (before : List Event) (p : Act → Bool) (acts : List Act) : Type 0 where
  act : Act
  is : p act ≡ true
  earlier : List Act
  legal : IsLegal l (before ++ map (event_of me) earlier)
  step : IsStep l (before ++ map (event_of me) earlier) (event_of me act)

one_of : (l : Limits) (me : CallerNo) (before : List Event) (p : Act → Bool) (acts : List Act)
    → IsLegal l (before ++ map (event_of me) acts) → has p acts ≡ true → OneOf l me before p acts
one_of l me before p acts legal there =
    let first = first_opened p acts there in
    let past = before ++ map (event_of me) first.before in
    let rest = event_of me first.act ∷ map (event_of me) (since_first p acts) in
    let parts : before ++ map (event_of me) acts ≡ past ++ rest
    = ap (λ xs. before ++ map (event_of me) xs) first.parts
    ∙ (ap (λ es. before ++ es) (map-append (event_of me) first.before (first.act ∷ since_first p acts))
    ∙ sym (append_assoc before (map (event_of me) first.before) rest)) in
    let legal' = subst (IsLegal l) parts legal in
    record {
      act = first.act;
      is = first.opening;
      earlier = first.before;
      legal = legal_beginning l past rest legal';
      step = legal_next l past (event_of me first.act) (map (event_of me) (since_first p acts)) legal';
    }

-- while another caller has the turn of a selector, nobody takes it
pub turn_not_taken : (l : Limits) (me n : CallerNo) (before : List Event) (acts : List Act) (s : ℕ) → n ≢ me
    → IsLegal l (before ++ map (event_of me) acts)
    → has_turn (state_after before) n (selector s) ≡ true → has (takes_turn s) acts ≡ true → ⊥
turn_not_taken l me n before acts s other legal turn taken = by_act at.act at.is at.step
  where
    at : OneOf l me before (takes_turn s) acts
    at = one_of l me before (takes_turn s) acts legal taken

    past : List Event
    past = before ++ map (event_of me) at.earlier

    still : has_turn (state_after past) n (selector s) ≡ true
    still = only_itself_gives_back l n before (map (event_of me) at.earlier) at.legal (the_turn (selector s))
        (ap (has (gives_back (the_turn (selector s)))) (mine-of_other n me other at.earlier)) turn

    by_act : (act : Act) → takes_turn s act ≡ true → IsStep l past (event_of me act) → ⊥
    by_act (TakeTurn s' None) is step =
        let free : None ≡ (state_after past).turn s'.0 = cc (step.answers) in
        not_free n ((state_after past).turn s) still
        (subst (λ (k : ℕ). None ≡ (state_after past).turn k) (eqb-true s'.0 s is) free)
    by_act (TakeTurn s' (Some m)) is step = absurd (cc is)
    by_act _ is step = absurd (cc is)

-- while another caller closes a selector, nobody shuts it
pub closing_not_shut : (l : Limits) (me n : CallerNo) (before : List Event) (acts : List Act) (s : ℕ)
    → IsLegal l (before ++ map (event_of me) acts)
    → is_closer (state_after before) n (selector s) ≡ true → has (shuts s) acts ≡ true → ⊥
closing_not_shut l me n before acts s legal closes shut_so = by_act at.act at.is at.step
  where
    at : OneOf l me before (shuts s) acts
    at = one_of l me before (shuts s) acts legal shut_so

    past : List Event
    past = before ++ map (event_of me) at.earlier

    was : ((state_after before).gate s).shut ≡ true
    was = (legal-sound l before (legal_beginning l before (map (event_of me) at.earlier) at.legal)).closer_shut s
        (held_some n ((state_after before).closer s) closes)

    still : ((state_after past).gate s).shut ≡ true
    still = facts_are_permanent l before past (map (event_of me) at.earlier, refl) at.legal (selector_shut s) was

    by_act : (act : Act) → shuts s act ≡ true → IsStep l past (event_of me act) → ⊥
    by_act (ShutBit s' false) is step =
        let open_there : false ≡ ((state_after past).gate s'.0).shut = cc (step.answers) in
        both_ways ((state_after past).gate s).shut still
        (sym (subst (λ (k : ℕ). false ≡ ((state_after past).gate k).shut) (eqb-true s'.0 s is) open_there))
    by_act (ShutBit s' true) is step = absurd (cc is)
    by_act _ is step = absurd (cc is)

-- ---- what others have in progress

-- what the caller has in progress between two calls stands in the state
turn_of : (l : Limits) (st : State) (now : Progress) (n : CallerNo) (s : ℕ) (x : Selection) → IsBetween l st now
    → own_selection now n (selector s) ≡ Some x → has_turn st n (selector s) ≡ true
turn_of l st now n s x between own =
    let its = own-is n (now.selection s) x own in
    ap (is_held_by n) ((between.shown s).turn ∙ ap (option_map (λ y. y.caller)) its.is) ∙ its.by

closer_of : (l : Limits) (st : State) (now : Progress) (n : CallerNo) (s : ℕ) → IsBetween l st now
    → is_caller n (now.closing s) ≡ true → is_closer st n (selector s) ≡ true
closer_of l st now n s between own = by_test (st.entered s) (sym (ap (is_caller n) (between.shown s).closing) ∙ own)
  where
    by_option : (o : Option CallerNo) → is_caller n o ≡ true → is_held_by n o ≡ true
    by_option None is = absurd (cc is)
    by_option (Some m) is = is

    by_test : (b : Bool) → is_caller n (if b then None else st.closer s) ≡ true → is_held_by n (st.closer s) ≡ true
    by_test true is = absurd (cc is)
    by_test false is = by_option (st.closer s) is

others_go_on : (l : Limits) (me n : CallerNo) (now left : Progress) (own acts : List Act) (before : List Event) → n ≢ me
    → IsLegal l (before ++ map (event_of me) acts) → IsBetween l (state_after before) now
    → LeavesTo n now acts left → HasMade l own n now → HasMade l own n left
others_go_on l me n now left own acts before other legal between leaves made = record {
  calls = made.calls;
  are = made.are;
  ongoing = record {
    selection = λ s. made.ongoing.selection s ∙ selects s (leaves.selection s) (own_selection now n (selector s)) refl;
    closes = λ s. made.ongoing.closes s ∙ closings s (leaves.closes s) (is_caller n (now.closing s)) refl;
  };
}
  where
    selects : (s : ℕ) → (own_selection left n (selector s) ≡ own_selection now n (selector s))
        ⊎ IsTakenFrom n s acts left → (o : Option Selection) → own_selection now n (selector s) ≡ o
        → own_selection now n (selector s) ≡ own_selection left n (selector s)
    selects s (inl same) o is = sym same
    selects s (inr from) None is = is ∙ sym from.none
    selects s (inr from) (Some x) is =
        absurd (turn_not_taken l me n before acts s other legal (turn_of l (state_after before) now n s x between is)
        from.taken)

    closings : (s : ℕ) → (is_caller n (left.closing s) ≡ is_caller n (now.closing s)) ⊎ IsShutFrom n s acts left
        → (b : Bool) → is_caller n (now.closing s) ≡ b
        → is_caller n (now.closing s) ≡ is_caller n (left.closing s)
    closings s (inl same) b is = sym same
    closings s (inr from) false is = is ∙ sym from.none
    closings s (inr from) true is =
        absurd (closing_not_shut l me n before acts s legal (closer_of l (state_after before) now n s between is)
        from.shut_so)

-- ---- a call with the only pass

-- after a run along a plan that leads to calls, each caller has made whole calls
pub call_made : (me : CallerNo) (now : Progress) (plan : Plan Said) (old new : PassView) (said : Said)
    → Leads old.limits me now plan → old.only ≡ true → IsBetween old.limits (known old) now
    → CallClause me (Completes plan) old new said → ((n : CallerNo) → HasMade old.limits (mine n old.seen) n now)
    → (n : CallerNo) → HasMade old.limits (mine n new.seen) n said.left
call_made me now plan old new said leads only between call made n = by_caller (me.0 == n.0) refl
  where
    acts : List Act
    acts = done_between me old new

    grown : new.seen ≡ old.seen ++ map (event_of me) acts
    grown = (call.acts.only only).1

    legal : IsLegal old.limits (old.seen ++ map (event_of me) acts)
    legal = subst (IsLegal old.limits) grown call.acts.history.legal

    mine_new : mine n new.seen ≡ mine n old.seen ++ mine n (map (event_of me) acts)
    mine_new = ap (mine n) grown ∙ mine-append n old.seen (map (event_of me) acts)

    by_caller : (b : Bool) → (me.0 == n.0) ≡ b → HasMade old.limits (mine n new.seen) n said.left
    by_caller true by =
        let same : me ≡ n = ap (λ (k : ℕ). record { 0 = k }) (eqb-true me.0 n.0 by) in
        subst (λ xs. HasMade old.limits xs n said.left)
        (sym (mine_new ∙ ap (λ xs. mine n old.seen ++ xs) (mine-by n me acts true by)))
        (subst (λ m. HasMade old.limits (mine m old.seen ++ acts) m said.left) same
        (made_along old.limits me now plan (mine me old.seen) acts said leads (made me) call.shape))
    by_caller false by =
        let other : n ≢ me = λ same. both_ways (me.0 == n.0) (eq-eqb me.0 n.0 (ap (λ (m : CallerNo). m.0) (sym same)))
        by in
        subst (λ xs. HasMade old.limits xs n said.left)
        (sym (mine_new
        ∙ (ap (λ xs. mine n old.seen ++ xs) (mine-by n me acts false by) ∙ append-nil (mine n old.seen))))
        (others_go_on old.limits me n now said.left (mine n old.seen) acts old.seen other legal between
        (leaves_along old.limits me n now plan (mine me old.seen) acts said leads (made me) call.shape other)
        (made n))

-- so after a line
pub line_made : (me : CallerNo) (now : Progress) (word : Call) (old new : PassView) (said : Said) → old.only ≡ true
    → IsBetween old.limits (known old) now
    → CallClause me (Completes (line_plan old.limits now me word)) old new said
    → ((n : CallerNo) → HasMade old.limits (mine n old.seen) n now) → (n : CallerNo)
    → HasMade old.limits (mine n new.seen) n said.left
line_made me now word old new said only between call made n =
    call_made me now (line_plan old.limits now me word) old new said
    (leads_line old.limits me now word (between_on old.limits (known old) now between)) only between call made n
