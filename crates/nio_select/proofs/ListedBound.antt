-- The bound on the steps of a selection that goes by the selector's list, over the calls on a pass.
use Rattle.std.proofs.Common.{◌≡◌, ℕ, ◌+◌, ◌*◌, ◌≤◌, Bool, Ok, Some, List, [], ◌∷◌, ◌++◌, map, length, refl, ap, sym}
use Rattle.std.proofs.Common.{◌∙◌, subst, arith, append_assoc}
use Rattle.std.proofs.lemmas.Bool.{or_right}
use Rattle.std.proofs.lemmas.List.{append_cancel_left}
use Rattle.std.proofs.lemmas.List.Folds.{list_any-append}
use Rattle.nio_base.specs.declared.numbers.SelNo.{SelNo}
use Rattle.nio_history.specs.Answers.{count_below}
use Rattle.nio_history.specs.Histories.{mine, event_of, IsLegal}
use Rattle.nio_history.specs.Lists.{takes_bit}
use Rattle.nio_history.specs.OwnEvents.{has, count, gives_turn}
use Rattle.nio_history.specs.PassViews.{done_between}
use Rattle.nio_history.specs.Turns.{removes_on}
use Rattle.nio_history.specs.declared.act.Act.{Act}
use Rattle.nio_history.specs.declared.act.Act.TheVariants.{BeginLook, LookKeys}
use Rattle.nio_history.specs.declared.event.Event.{Event}
use Rattle.nio_history.proofs.OneMore.{mine-append}
use Rattle.nio_steps.specs.Bound.{unselects}
use Rattle.nio_steps.specs.ChannelCalls.{words_below}
use Rattle.nio_steps.specs.ListLaws.{IsWholeListed, ListedSelectionIsBounded, finds_touched, count_taken, count_touched, count_told}
use Rattle.nio_steps.specs.Lists.{KnowsList}
use Rattle.nio_steps.specs.SelectCalls.{Begins, Tells, done}
use Rattle.nio_select.proofs.GoneOn.{done_in, mine-around}
use Rattle.nio_select.proofs.Steps.{count_below-le}
use Rattle.nio_select.specs.Laws.{ListedCallsAreBounded}

-- some of these acts found no more indexes so than all of them
fewer_found : (n : ℕ) (p : ℕ → Act → Bool) (before : List Act) (act : Act) (later all : List Act)
    → all ≡ before ++ act ∷ later → count_below n (λ k. has (p k) later) ≤ count_below n (λ k. has (p k) all)
fewer_found n p before act later all parts =
    count_below-le n (λ k. has (p k) later) (λ k. has (p k) all)
    (λ k there. ap (has (p k)) parts
    ∙ (list_any-append (p k) before (act ∷ later)
    ∙ or_right (has (p k) before) (has (p k) (act ∷ later)) (or_right (p k act) (has (p k) later) there)))

pub listed_calls_are_bounded : ListedSelectionIsBounded → ListedCallsAreBounded
listed_calls_are_bounded law me before_begin after_begin before_told after_told list selection poll answer mark window
    knows is its =
    bounded
  where
    s : SelNo
    s = selection.selector

    look : Act
    look = BeginLook s its.found

    ends : Act
    ends = LookKeys s mark

    e : Event
    e = event_of me look

    e' : Event
    e' = event_of me ends

    a : List Event
    a = its.begins_after.0

    b : List Event
    b = its.begins_before.0

    m : List Event
    m = is.goes_on.0

    d : List Event
    d = its.ends_after.0

    first : List Act
    first = mine me a

    second : List Act
    second = mine me b

    between : List Act
    between = mine me m

    third : List Act
    third = mine me d

    fourth : List Act
    fourth = mine me its.rest

    begin_parts : before_begin.seen ++ (a ++ e ∷ b) ≡ after_begin.seen
    begin_parts =
        sym (append_assoc before_begin.seen a (e ∷ b))
        ∙ (ap (λ events. events ++ e ∷ b) its.begins_after.1
        ∙ (sym (append_assoc its.past (e ∷ []) b) ∙ its.begins_before.1))

    told_parts : before_told.seen ++ (d ++ e' ∷ its.rest) ≡ after_told.seen
    told_parts =
        sym (append_assoc before_told.seen d (e' ∷ its.rest))
        ∙ (ap (λ events. events ++ e' ∷ its.rest) its.ends_after.1
        ∙ (append_assoc its.past (e ∷ window) (e' ∷ its.rest) ∙ sym its.parts))

    begin_is : done_between me before_begin after_begin ≡ first ++ look ∷ second
    begin_is = done_in me before_begin after_begin (a ++ e ∷ b) begin_parts ∙ mine-around me a look b

    between_is : done_between me after_begin before_told ≡ between
    between_is = done_in me after_begin before_told m is.goes_on.1

    told_is : done_between me before_told after_told ≡ third ++ ends ∷ fourth
    told_is = done_in me before_told after_told (d ++ e' ∷ its.rest) told_parts ∙ mine-around me d ends its.rest

    joined : its.past ++ e ∷ window ≡ its.past ++ e ∷ (b ++ (m ++ d))
    joined =
        sym its.ends_after.1
        ∙ (ap (λ events. events ++ d) (sym is.goes_on.1)
        ∙ (append_assoc after_begin.seen m d
        ∙ (ap (λ events. events ++ (m ++ d)) (sym its.begins_before.1)
        ∙ (append_assoc (its.past ++ e ∷ []) b (m ++ d) ∙ append_assoc its.past (e ∷ []) (b ++ (m ++ d))))))

    window_is : window ≡ b ++ (m ++ d)
    window_is = let same = append_cancel_left its.past (e ∷ window) (e ∷ (b ++ (m ++ d))) joined in cc

    window_acts : mine me window ≡ second ++ (between ++ third)
    window_acts =
        ap (mine me) window_is ∙ (mine-append me b (m ++ d) ∙ ap (λ acts. second ++ acts) (mine-append me m d))

    whole : IsWholeListed list selection poll answer its.found mark first second between third fourth
    whole = record {
      begins = subst (λ acts. Begins s selection.mode (Some list) acts (Ok selection)) begin_is is.begins.shape;
      tells = subst (λ acts. Tells selection poll acts (done answer)) told_is is.tells.shape;
      kept = sym (ap (has (gives_turn s.0)) between_is) ∙ is.keeps_turn;
      unremoved = sym (ap (has (removes_on s.0)) between_is) ∙ is.keeps_keys;
    }

    at_most : length (first ++ look ∷ second) + length (third ++ ends ∷ fourth)
        ≤ 9 + 2 * words_below selection.bound + words_below mark + 4 * count_taken s (words_below selection.bound) second
        + 3 * count_touched s (words_below mark) fourth + 2 * count_told selection poll
        + count (unselects s.0 before_told.limits.keys) (map (λ x. x.act) window)
    at_most =
        law before_told.limits me before_begin.seen a window its.rest list selection poll answer its.found mark first
        second between third fourth
        (subst (λ events. IsLegal before_told.limits (events ++ e ∷ (window ++ e' ∷ its.rest))) (sym its.begins_after.1)
        (subst (IsLegal before_told.limits) its.parts is.tells.acts.history.legal))
        (subst (λ l. KnowsList l me before_begin.seen s list) is.tells.acts.limits knows) refl window_acts whole

    taken_fewer : count_taken s (words_below selection.bound) second
        ≤ count_taken s (words_below selection.bound) (done_between me before_begin after_begin)
    taken_fewer =
        fewer_found (64 * words_below selection.bound) (λ k. takes_bit s.0 k) first look second
        (done_between me before_begin after_begin) begin_is

    touched_fewer : count_touched s (words_below mark) fourth
        ≤ count_touched s (words_below mark) (done_between me before_told after_told)
    touched_fewer =
        fewer_found (64 * words_below mark) (λ k. finds_touched s.0 k) third ends fourth
        (done_between me before_told after_told) told_is

    at_limits : count (unselects s.0 before_told.limits.keys) (map (λ x. x.act) window)
        ≡ count (unselects s.0 after_told.limits.keys) (map (λ x. x.act) window)
    at_limits = ap (λ l. count (unselects s.0 l.keys) (map (λ x. x.act) window)) (sym is.tells.acts.limits)

    bounded : length (done_between me before_begin after_begin) + length (done_between me before_told after_told)
        ≤ 9 + 2 * words_below selection.bound + words_below mark
        + 4 * count_taken s (words_below selection.bound) (done_between me before_begin after_begin)
        + 3 * count_touched s (words_below mark) (done_between me before_told after_told)
        + 2 * count_told selection poll
        + count (unselects s.0 after_told.limits.keys) (map (λ x. x.act) window)
    bounded = omega (arith, ap length begin_is, ap length told_is, at_most, taken_fewer, touched_fewer, at_limits)
