-- What stands within the finishing of a closing after one step more.
use Rattle.std.proofs.Common.{◌≡◌, ℕ, ◌<◌, ◌≤◌, ◌==◌, true, false, ◌&&◌, ◌||◌, Option, Some, None, [], ◌∷◌, ◌++◌, refl}
use Rattle.std.proofs.Common.{ap, ◌∙◌, eq-eqb}
use Rattle.std.specs.Prelude.{nat_lt, is_some, IsTrue}
use Rattle.std.proofs.lemmas.Bool.{and_parts, and_from, or_left, or_right, lt-ltb}
use Rattle.nio_base.specs.declared.numbers.CallerNo.{CallerNo}
use Rattle.nio_base.specs.declared.numbers.SelNo.{SelNo}
use Rattle.nio_channel.proofs.Claimed.{mark_inside}
use Rattle.nio_history.proofs.Finds.{step_leaves}
use Rattle.nio_history.proofs.OneMore.{has-more, since_first-append}
use Rattle.nio_history.proofs.Put.{put-same}
use Rattle.nio_history.specs.Conditions.{IsSelector, is_closer, has_entered, may_remove_cancelled, may_clear_out}
use Rattle.nio_history.specs.Histories.{state_after}
use Rattle.nio_history.specs.OwnEvents.{has, enters, since_entered, finds_below}
use Rattle.nio_history.specs.PassViews.{Holds, ActsClause}
use Rattle.nio_history.specs.Permanent.{selector_closed_by, selector_entered}
use Rattle.nio_history.specs.State.{State}
use Rattle.nio_history.specs.declared.act.Act.{Act}
use Rattle.nio_history.specs.declared.act.Act.TheVariants.{LookKeys, Enter}
use Rattle.nio_history.proofs.PassViews.{lasts_over}
use Rattle.nio_words.proofs.Stepping.{still_ready}
use Rattle.nio_words.proofs.Views.{finds_drawn, step_acts}
use Rattle.nio_words.specs.Passes.{IsReady, acts_seen, limits_of, seen, state_seen}
use Rattle.nio_words.specs.Steps.{Steps}
use Rattle.nio_words.specs.Views.{view}
use Rattle.nio_words.specs.declared.words.Pass.{Pass}
use Rattle.nio_words.specs.declared.words.Words.{Words}
use Rattle.nio_select.specs.Entered.{HasEntered}

-- ---- the finishing caller

-- it just found the turn free
enters_free : {w : Words} {p q : Pass} {me : CallerNo} {s : SelNo} → Steps w p q me (Enter s None) → IsReady w p me
    → IsSelector (limits_of w) s
    → is_closer (state_seen p) me s ≡ true → HasEntered w q me s
enters_free {w = w} {p = p} {q = q} {me = me} {s = s} steps ready inside closer = record {
  ready = still_ready w p q me me _ steps ready;
  inside = inside;
  entered = and_from (is_closer (state_seen q) me s) ((state_seen q).entered s.0)
      (lasts_over (selector_closed_by s me) clause closer) entered;
  found_free =
      ap (has (enters s.0)) clause.history.own
      ∙ (has-more (enters s.0) (acts_seen p me) (Enter s None)
      ∙ or_right (has (enters s.0) (acts_seen p me)) (s.0 == s.0) (eq-eqb s.0 s.0 refl));
}
  where
    clause : ActsClause me (Enter s None ∷ []) (view w p) (view w q)
    clause = step_acts steps refl

    entered : (state_seen q).entered s.0 ≡ true
    entered =
        let leaves = step_leaves (limits_of w) (Holds (view w p)) me (Enter s None) (seen p) (seen q) clause.history in
        let before : State = state_after (seen p ++ leaves.between) in
        ap (λ st. st.entered s.0) leaves.state
        ∙ (put-same before.entered s.0 (before.entered s.0 || true) ∙ or_right (before.entered s.0) true refl)

pub entered_now : {w : Words} {p q : Pass} {me : CallerNo} {s : SelNo} (found : Option CallerNo)
    → Steps w p q me (Enter s found) → is_some found ≡ false → IsReady w p me
    → IsSelector (limits_of w) s → is_closer (state_seen p) me s ≡ true → HasEntered w q me s
entered_now None steps free ready inside closer = enters_free steps ready inside closer
entered_now (Some n) steps free ready inside closer = absurd cc

pub entered_stays : {w : Words} {p q : Pass} {me : CallerNo} {act : Act} {s : SelNo} → Steps w p q me act
    → finds_drawn act ≡ false → HasEntered w p me s → HasEntered w q me s
entered_stays {w = w} {p = p} {q = q} {me = me} {act = act} {s = s} steps new here =
    let clause = step_acts steps new in
    let both = and_parts (is_closer (state_seen p) me s) ((state_seen p).entered s.0) here.entered in
    record {
      ready = still_ready w p q me me act steps here.ready;
      inside = here.inside;
      entered = and_from (is_closer (state_seen q) me s) ((state_seen q).entered s.0)
          (lasts_over (selector_closed_by s me) clause both.0) (lasts_over (selector_entered s.0) clause both.1);
      found_free =
          ap (has (enters s.0)) clause.history.own
          ∙ (has-more (enters s.0) (acts_seen p me) act
          ∙ or_left (has (enters s.0) (acts_seen p me)) (enters s.0 act) here.found_free);
    }

-- ---- which indexes it may remove

-- it has entered, and since then found the keys' high-water mark at this number or above it
pub record MayClear (w : Words) (p : Pass) (me : CallerNo) (s : SelNo) (mark : ℕ) : Type 0 where
  pub entered : HasEntered w p me s
  pub inside : mark ≤ (limits_of w).keys
  pub below : (i : ℕ) → i < mark → IsTrue (has (finds_below s.0 i) (since_entered s.0 (acts_seen p me)))

own_since : {w : Words} {p q : Pass} {me : CallerNo} {act : Act} {s : SelNo} → Steps w p q me act
    → finds_drawn act ≡ false → HasEntered w p me s
    → since_entered s.0 (acts_seen q me) ≡ since_entered s.0 (acts_seen p me) ++ act ∷ []
own_since {p = p} {me = me} {act = act} {s = s} steps new here =
    ap (since_entered s.0) (step_acts steps new).history.own
    ∙ since_first-append (enters s.0) (acts_seen p me) (act ∷ []) here.found_free

-- it just found the keys' high-water mark
pub may_clear_now : {w : Words} {p q : Pass} {me : CallerNo} {s : SelNo} {mark : ℕ} → Steps w p q me (LookKeys s mark)
    → HasEntered w p me s → MayClear w q me s mark
may_clear_now {w = w} {p = p} {q = q} {me = me} {s = s} {mark = mark} steps here = record {
  entered = entered_stays steps refl here;
  inside = mark_inside (step_acts steps refl);
  below = λ i less.
      ap (has (finds_below s.0 i)) (own_since steps refl here)
      ∙ (has-more (finds_below s.0 i) (since_entered s.0 (acts_seen p me)) (LookKeys s mark)
      ∙ or_right (has (finds_below s.0 i) (since_entered s.0 (acts_seen p me))) ((s.0 == s.0) && nat_lt i mark)
      (and_from (s.0 == s.0) (nat_lt i mark) (eq-eqb s.0 s.0 refl) (lt-ltb i mark less)));
}

pub may_clear_stays : {w : Words} {p q : Pass} {me : CallerNo} {act : Act} {s : SelNo} {mark : ℕ} → Steps w p q me act
    → finds_drawn act ≡ false
    → MayClear w p me s mark → MayClear w q me s mark
may_clear_stays {w = w} {p = p} {q = q} {me = me} {act = act} {s = s} {mark = mark} steps new here = record {
  entered = entered_stays steps new here.entered;
  inside = here.inside;
  below = λ i less.
      ap (has (finds_below s.0 i)) (own_since steps new here.entered)
      ∙ (has-more (finds_below s.0 i) (since_entered s.0 (acts_seen p me)) act
      ∙ or_left (has (finds_below s.0 i) (since_entered s.0 (acts_seen p me))) (finds_below s.0 i act)
      (here.below i less));
}

-- so it may remove each index below the high-water mark
pub may_remove_below : {w : Words} {p : Pass} {me : CallerNo} {s : SelNo} {mark : ℕ} → MayClear w p me s mark → (i : ℕ)
    → i < mark
    → (may_remove_cancelled (state_seen p) me s i || may_clear_out (state_seen p) (acts_seen p me) me s i) ≡ true
may_remove_below {p = p} {me = me} {s = s} here i less =
    or_right (may_remove_cancelled (state_seen p) me s i) (may_clear_out (state_seen p) (acts_seen p me) me s i)
    (and_from (has_entered (state_seen p) me s) (has (finds_below s.0 i) (since_entered s.0 (acts_seen p me)))
    here.entered.entered (here.below i less))
