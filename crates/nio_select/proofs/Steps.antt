-- The laws of plans about selections, over the calls on a pass.
use Rattle.std.proofs.Common.{◌≡◌, ℕ, zero, suc, ◌+◌, ◌*◌, ◌≤◌, Bool, true, false, if◌then◌else◌, Ok, List, [], ◌∷◌}
use Rattle.std.proofs.Common.{None}
use Rattle.std.proofs.Common.{◌++◌, IsTrue, map, length, refl, ap, sym, ◌∙◌, subst, arith, append_assoc}
use Rattle.std.specs.List.{All}
use Rattle.std.proofs.lemmas.Bool.{or_right}
use Rattle.std.proofs.lemmas.List.{append_cancel_left}
use Rattle.std.proofs.lemmas.List.Folds.{list_any-append}
use Rattle.nio_base.specs.Limits.{IsFit}
use Rattle.nio_base.specs.declared.numbers.SelNo.{SelNo}
use Rattle.nio_history.specs.Answers.{count_below}
use Rattle.nio_history.specs.Histories.{state_after, mine, event_of, IsLegal}
use Rattle.nio_history.specs.OwnEvents.{has, count, gives_turn}
use Rattle.nio_history.specs.PassViews.{done_between}
use Rattle.nio_history.specs.Sets.{was_published, was_cancelled, was_removed}
use Rattle.nio_history.specs.Turns.{removes_on}
use Rattle.nio_history.specs.declared.act.Act.{Act}
use Rattle.nio_history.specs.declared.act.Act.TheVariants.{BeginLook, LookKeys}
use Rattle.nio_history.specs.declared.event.Event.{Event}
use Rattle.nio_history.proofs.OneMore.{mine-append}
use Rattle.nio_steps.proofs.OwnActs.{cut_at}
use Rattle.nio_steps.specs.Bound.{unselects, finds_not_free, count_not_free, IsWholeSelection, SelectionIsBounded}
use Rattle.nio_steps.specs.ChannelCalls.{words_below}
use Rattle.nio_steps.specs.Laws.{CancelledKeysGo, CancelledKeysGoAtEnd}
use Rattle.nio_steps.specs.SelectCalls.{Begins, Tells, done}
use Rattle.nio_select.proofs.GoneOn.{done_in, mine-around}
use Rattle.nio_select.proofs.Windows.{told-mark}
use Rattle.nio_select.specs.Laws.{CancelledKeysAreGone, CancelledKeysAreGoneAtEnd, EndsFindHigh, CallsAreBounded}
use Rattle.nio_select.specs.Laws.{ValidKeysAreAsked}
use Rattle.nio_steps.specs.Laws.{ValidKeysAreLookedAt}
use Rattle.nio_history.specs.Sets.{is_valid_key}

-- ---- cancelled keys

pub keys_are_gone : CancelledKeysGo → CancelledKeysAreGone
keys_are_gone law old new me s mode selection i serial call published cancelled below =
    let clause = call.acts.history in
    let later : List Event = clause.goes_on.0 in
    let parts : old.seen ++ later ≡ new.seen = clause.goes_on.1 in
    let begins : Begins s mode None (mine me later) (Ok selection) = subst (λ acts. Begins s mode None acts (Ok selection))
    (done_in me old new later parts) call.shape in
    subst (λ events. IsTrue (was_removed ((state_after events).key s.0 i) serial)
    × All (λ entry. ¬ ((entry.index ≡ i) × (entry.serial ≡ serial))) selection.looked) parts
    (law old.limits me old.seen later s mode selection i serial (subst (IsLegal old.limits) (sym parts) clause.legal)
    begins published cancelled below)

pub keys_are_asked : ValidKeysAreLookedAt → ValidKeysAreAsked
keys_are_asked law old new me s mode selection i serial call published valid below =
    let clause = call.acts.history in
    let later : List Event = clause.goes_on.0 in
    let parts : old.seen ++ later ≡ new.seen = clause.goes_on.1 in
    law old.limits me old.seen later s mode selection i serial
    (subst (IsLegal old.limits) (sym parts) clause.legal)
    (subst (λ acts. Begins s mode None acts (Ok selection)) (done_in me old new later parts) call.shape) published
    (subst (λ events. IsTrue (is_valid_key ((state_after events).key s.0 i) serial)) (sym parts) valid) below

pub keys_are_gone_at_end : CancelledKeysGoAtEnd → CancelledKeysAreGoneAtEnd
keys_are_gone_at_end law old new me selection poll answer mark i serial past unlisted call finds published cancelled
    below =
    let s = selection.selector in
    let looked = finds.after.0 in
    let e = event_of me (LookKeys s mark) in
    let in_call = looked ++ e ∷ finds.later in
    let whole : old.seen ++ in_call ≡ new.seen
    = sym (append_assoc old.seen looked (e ∷ finds.later))
    ∙ (ap (λ events. events ++ e ∷ finds.later) finds.after.1 ∙ sym finds.parts) in
    let legal : IsLegal old.limits (old.seen ++ in_call) = subst (IsLegal old.limits)
    (sym whole) call.acts.history.legal in
    let run = subst (λ acts. Tells selection poll acts (done answer)) (done_in me old new in_call whole) call.shape in
    subst (λ events. IsTrue (was_removed ((state_after events).key s.0 i) serial)) whole
    (law old.limits me old.seen looked finds.later selection poll answer mark i serial legal unlisted run
    (subst (λ events. IsTrue (was_published ((state_after events).key s.0 i) serial)) (sym finds.after.1) published)
    (subst (λ events. IsTrue (was_cancelled ((state_after events).key s.0 i) serial)) (sym finds.after.1) cancelled)
    below)

pub ends_find_high : EndsFindHigh
ends_find_high old new me selection poll answer call =
    let s = selection.selector in
    let more = call.acts.history.goes_on in
    let look = told-mark selection poll (done_between me old new) answer call.shape in
    let cut = cut_at me more.0 look.before (LookKeys s look.mark) look.later
    (sym (done_in me old new more.0 more.1) ∙ look.parts) in
    let e = event_of me (LookKeys s look.mark) in (
      look.mark,
      old.seen ++ cut.past,
      record {
        later = cut.later;
        parts = sym more.1
            ∙ (ap (λ events. old.seen ++ events) cut.parts ∙ sym (append_assoc old.seen cut.past (e ∷ cut.later)));
        after = (cut.past, refl);
      },
    )

-- ---- a bound on the steps

-- fewer numbers pass a test that another test allows
pub count_below-le : (n : ℕ) (p q : ℕ → Bool) → ((k : ℕ) → p k ≡ true → q k ≡ true) → count_below n p ≤ count_below n q
unfolding count_below
count_below-le zero p q allows = omega arith
count_below-le (suc n) p q allows = by_test (p n) refl (count_below-le n p q allows)
  where
    one : Bool → ℕ
    one b = if b then 1 else 0

    by_test : (b : Bool) → p n ≡ b → count_below n p ≤ count_below n q
        → count_below n p + one (p n) ≤ count_below n q + one (q n)
    by_test true is rest =
        let here : one (p n) ≡ one true = ap one is in
        let there : one (q n) ≡ one true = ap one (allows n is) in
        omega (arith, here, there, rest)
    by_test false is rest =
        let here : one (p n) ≡ one false = ap one is in
        omega (arith, here, rest)

-- some of these acts found no more indexes not free than all of them
fewer_listed : (s : SelNo) (mark : ℕ) (before : List Act) (act : Act) (later all : List Act)
    → all ≡ before ++ act ∷ later → count_not_free s mark later ≤ count_not_free s mark all
fewer_listed s mark before act later all parts =
    count_below-le mark (λ k. has (finds_not_free s.0 k) later) (λ k. has (finds_not_free s.0 k) all)
    (λ k there. ap (has (finds_not_free s.0 k)) parts
    ∙ (list_any-append (finds_not_free s.0 k) before (act ∷ later)
    ∙ or_right (has (finds_not_free s.0 k) before) (has (finds_not_free s.0 k) (act ∷ later))
    (or_right (finds_not_free s.0 k act) (has (finds_not_free s.0 k) later) there)))

pub calls_are_bounded : SelectionIsBounded → CallsAreBounded
calls_are_bounded law me before_begin after_begin before_told after_told selection poll answer mark window fit is its =
    bounded
  where
    s : SelNo
    s = selection.selector

    look : Act
    look = BeginLook s its.found

    ends : Act
    ends = LookKeys s mark

    e : Event
    e = event_of me look

    e' : Event
    e' = event_of me ends

    a : List Event
    a = its.begins_after.0

    b : List Event
    b = its.begins_before.0

    m : List Event
    m = is.goes_on.0

    d : List Event
    d = its.ends_after.0

    first : List Act
    first = mine me a

    second : List Act
    second = mine me b

    between : List Act
    between = mine me m

    third : List Act
    third = mine me d

    fourth : List Act
    fourth = mine me its.rest

    begin_parts : before_begin.seen ++ (a ++ e ∷ b) ≡ after_begin.seen
    begin_parts =
        sym (append_assoc before_begin.seen a (e ∷ b))
        ∙ (ap (λ events. events ++ e ∷ b) its.begins_after.1
        ∙ (sym (append_assoc its.past (e ∷ []) b) ∙ its.begins_before.1))

    told_parts : before_told.seen ++ (d ++ e' ∷ its.rest) ≡ after_told.seen
    told_parts =
        sym (append_assoc before_told.seen d (e' ∷ its.rest))
        ∙ (ap (λ events. events ++ e' ∷ its.rest) its.ends_after.1
        ∙ (append_assoc its.past (e ∷ window) (e' ∷ its.rest) ∙ sym its.parts))

    begin_is : done_between me before_begin after_begin ≡ first ++ look ∷ second
    begin_is = done_in me before_begin after_begin (a ++ e ∷ b) begin_parts ∙ mine-around me a look b

    between_is : done_between me after_begin before_told ≡ between
    between_is = done_in me after_begin before_told m is.goes_on.1

    told_is : done_between me before_told after_told ≡ third ++ ends ∷ fourth
    told_is = done_in me before_told after_told (d ++ e' ∷ its.rest) told_parts ∙ mine-around me d ends its.rest

    joined : its.past ++ e ∷ window ≡ its.past ++ e ∷ (b ++ (m ++ d))
    joined =
        sym its.ends_after.1
        ∙ (ap (λ events. events ++ d) (sym is.goes_on.1)
        ∙ (append_assoc after_begin.seen m d
        ∙ (ap (λ events. events ++ (m ++ d)) (sym its.begins_before.1)
        ∙ (append_assoc (its.past ++ e ∷ []) b (m ++ d) ∙ append_assoc its.past (e ∷ []) (b ++ (m ++ d))))))

    window_is : window ≡ b ++ (m ++ d)
    window_is = let same = append_cancel_left its.past (e ∷ window) (e ∷ (b ++ (m ++ d))) joined in cc

    window_acts : mine me window ≡ second ++ (between ++ third)
    window_acts =
        ap (mine me) window_is ∙ (mine-append me b (m ++ d) ∙ ap (λ acts. second ++ acts) (mine-append me m d))

    whole : IsWholeSelection selection poll answer its.found mark first second between third fourth
    whole = record {
      begins = subst (λ acts. Begins s selection.mode None acts (Ok selection)) begin_is is.begins.shape;
      tells = subst (λ acts. Tells selection poll acts (done answer)) told_is is.tells.shape;
      kept = sym (ap (has (gives_turn s.0)) between_is) ∙ is.keeps_turn;
      unremoved = sym (ap (has (removes_on s.0)) between_is) ∙ is.keeps_keys;
    }

    at_most : length (first ++ look ∷ second) + length (third ++ ends ∷ fourth)
        ≤ 9 + words_below selection.bound + words_below mark + 4 * count_not_free s selection.bound second
        + 3 * count_not_free s mark fourth + count (unselects s.0 selection.bound) (map (λ x. x.act) window)
    at_most =
        law before_told.limits me its.past window its.rest selection poll answer its.found mark first second between
        third fourth
        (subst IsFit is.tells.acts.limits fit)
        (subst (IsLegal before_told.limits) its.parts is.tells.acts.history.legal) window_acts whole

    found_fewer : count_not_free s selection.bound second
        ≤ count_not_free s selection.bound (done_between me before_begin after_begin)
    found_fewer = fewer_listed s selection.bound first look second (done_between me before_begin after_begin) begin_is

    found_fewer_at_end : count_not_free s mark fourth ≤ count_not_free s mark (done_between me before_told after_told)
    found_fewer_at_end = fewer_listed s mark third ends fourth (done_between me before_told after_told) told_is

    bounded : length (done_between me before_begin after_begin) + length (done_between me before_told after_told)
        ≤ 9 + words_below selection.bound + words_below mark
        + 4 * count_not_free s selection.bound (done_between me before_begin after_begin)
        + 3 * count_not_free s mark (done_between me before_told after_told)
        + count (unselects s.0 selection.bound) (map (λ x. x.act) window)
    bounded = omega (arith, ap length begin_is, ap length told_is, at_most, found_fewer, found_fewer_at_end)
