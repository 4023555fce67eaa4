-- The selectors that a caller's pass has after a call.
use Rattle.std.proofs.Common.{◌≡◌, ℕ, ℤ, Option, None, Result, Ok, Err, List, ap, sym, ◌∙◌, subst}
use Rattle.nio_base.specs.declared.numbers.CallerNo.{CallerNo}
use Rattle.nio_base.specs.declared.numbers.ChanNo.{ChanNo}
use Rattle.nio_base.specs.declared.numbers.SelNo.{SelNo}
use Rattle.nio_history.proofs.PassViews.{selector_after}
use Rattle.nio_history.specs.Histories.{state_after}
use Rattle.nio_history.specs.PassViews.{PassView, HasSelector}
use Rattle.nio_history.specs.Timeout.{mode_for}
use Rattle.nio_history.specs.declared.found.Mode.{Mode}
use Rattle.nio_history.specs.declared.timeout.NegativeTimeout.{NegativeTimeout}
use Rattle.nio_select.specs.InHand.{HeldList, HeldSelector, InHand, TakesOnList, list_after, list_of, selection_of}
use Rattle.nio_steps.specs.declared.selected.Selected.{Selected}
use Rattle.nio_words.specs.Passes.{seen}
use Rattle.nio_words.specs.Views.{view}
use Rattle.nio_words.specs.declared.words.Pass.{Pass}
use Rattle.nio_words.specs.declared.words.Words.{Words}
use Rattle.nio_poller.specs.Polled.{Polled}
use Rattle.nio_poller.specs.Selecting.{TimedClause, TimedToldClause, TimedUntil}
use Rattle.nio_poller.specs.declared.selecting.SelectError.{SelectError}
use Rattle.nio_poller.specs.declared.until.Until.{Until}
use Rattle.nio_poller.specs.declared.until.Until.TheVariants as until

-- a pass that has seen the same has the same selectors
pub selector_same : (w : Words) (p q : Pass) (s : SelNo) → seen q ≡ seen p → HasSelector (view w p) s
    → HasSelector (view w q) s
selector_same w p q s same has =
    record { inside = has.inside; made = ap (λ events. (state_after events).selector s.0) same ∙ has.made }

module _ (me : CallerNo) (s0 s1 : HeldSelector) (old new : PassView) (p0 p1 : Option (List Polled)) (ready : ChanNo → ℕ)
    (result : Result Selected SelectError) (sel : SelNo) where
  timed_by : (ends : Until) (r : Result Mode NegativeTimeout) → TimedUntil ends r me s0 s1 old new p0 p1 ready result
      → HasSelector old sel → HasSelector new sel
  timed_by ends (Ok mode) clause has = selector_after clause.call.acts has
  timed_by ends (Err too_low) clause has = subst (λ (v : PassView). HasSelector v sel) (sym clause.same) has

  -- the selectors stay made in a selection for a time
  pub selector_timed : (ms : ℤ) → TimedClause me ms s0 s1 old new p0 p1 ready result → HasSelector old sel
      → HasSelector new sel
  selector_timed ms clause has = timed_by until.Updated (mode_for ms) clause has

  pub selector_told_timed : (ms : ℤ) → TimedToldClause me ms s0 s1 old new p0 p1 ready result → HasSelector old sel
      → HasSelector new sel
  selector_told_timed ms clause has = timed_by until.Told (mode_for ms) clause has

-- what was taken from a selector and given back is what the beginning made of it
pub given_back : (selector lent : HeldSelector) (s : InHand) (list : Option HeldList)
    → lent ≡ record selector { list = None } → TakesOnList selector s → list ≡ list_of s
    → record lent { list = list } ≡ record selector { list = list_after selector.list (Ok (selection_of s)) }
given_back selector lent s list is takes back =
    ap (λ (x : HeldSelector). record x { list = list }) is
    ∙ ap (λ (l : Option HeldList). record selector { list = l }) (back ∙ takes.back)
