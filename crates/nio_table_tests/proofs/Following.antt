-- Each step of the worked history takes a pass that follows it one event further.
use Rattle.std.proofs.Common.{◌≡◌, ℕ, zero, suc, ◌+◌, ◌<◌, List, [], ◌∷◌, ◌++◌, take, drop, length, get_or}
use Rattle.std.proofs.Common.{ap, sym, ◌∙◌, subst, arith}
use Rattle.std.proofs.Math.ListN.{get_or-map}
use Rattle.std.proofs.Math.Seq.{take-suc, drop-cons}
use Rattle.std.proofs.lemmas.List.{length-map, get_or-take, get_or-drop, length-take, length-drop, take-append-drop}
use Rattle.nio_base.specs.declared.numbers.CallerNo.{CallerNo}
use Rattle.nio_history.proofs.WorkedSteps.{worked_history_is_legal}
use Rattle.nio_history.specs.Conditions.{Condition}
use Rattle.nio_history.specs.Histories.{state_after, mine, event_of, IsStep}
use Rattle.nio_history.specs.Worked.{small_limits, worked_history}
use Rattle.nio_history.specs.declared.act.Act.{Act}
use Rattle.nio_history.specs.declared.event.Event.{Event}
use Rattle.nio_table_tests.specs.Following.{Follows, step_of, worked_steps, IsPart}
use Rattle.nio_table_tests.specs.Callers.{AreDrawn}
use Rattle.nio_words.specs.Passes.{numbers_of, IsReady, limits_of, acts_seen, state_seen}
use Rattle.nio_words.specs.Rule.{HasBit}
use Rattle.nio_words.specs.Steps.{Steps}
use Rattle.nio_words.specs.declared.words.Pass.{Pass}
use Rattle.nio_words.specs.declared.words.Words.{Words}

-- the worked history has this event after so many others
pub record IsAt (count : ℕ) (e : Event) : Type 0 where
  pub below : count < length worked_history
  pub is : get_or worked_history count e ≡ e

at : (from i : ℕ) (steps : List (CallerNo × Act)) (x : CallerNo × Act) → IsPart from steps → i < length steps
    → get_or steps i x ≡ x → IsAt (from + i) (event_of x.0 x.1)
at from i steps x part below is =
    let few = ap length part ∙ length-take (length steps) (drop from worked_steps) in
    let left = length-drop from worked_steps in
    let whole = length-map worked_history step_of in
    let step : get_or worked_steps (from + i) x ≡ x =
    sym (get_or-drop from worked_steps i x)
    ∙ (sym (get_or-take (length steps) (drop from worked_steps) i x below)
    ∙ (ap (λ xs. get_or xs i x) (sym part) ∙ is)) in
    let pair : step_of (get_or worked_history (from + i) (event_of x.0 x.1)) ≡ x =
    sym (get_or-map step_of worked_history (from + i) (event_of x.0 x.1)) ∙ step in
    record {
      below = omega (arith, few, left, whole);
      is = ap (λ y. event_of y.0 y.1) pair;
    }

-- its event is a step
worked_step : (count : ℕ) (e : Event) → IsAt count e → IsStep small_limits (take count worked_history) e
worked_step count e here =
    worked_history_is_legal.steps (take count worked_history) e (drop (suc count) worked_history)
    (sym (take-append-drop count worked_history)
    ∙ ap (λ es. take count worked_history ++ es)
    (drop-cons worked_history count e here.below ∙ ap (λ x. x ∷ drop (suc count) worked_history) here.is))

same_count : (n : ℕ) → suc n ≡ n + 1
same_count n = omega arith

module _ (w : Words) (p : Pass) (from i : ℕ) (steps : List (CallerNo × Act)) (x : CallerNo × Act)
    (follows : Follows w (from + i) p) (part : IsPart from steps) (below : i < length steps)
    (is : get_or steps i x ≡ x) where
  here : IsAt (from + i) (event_of x.0 x.1)
  here = at from i steps x part below is

  step : IsStep small_limits (take (from + i) worked_history) (event_of x.0 x.1)
  step = worked_step (from + i) (event_of x.0 x.1) here

  pub ready : IsReady w p x.0
  ready = record { pass = follows.pass; number = by_number x.0.0 step.by_caller }
    where
      by_number : (n : ℕ) → n < 2 → HasBit (numbers_of p) n
      by_number zero few = follows.first
      by_number (suc zero) few = follows.second
      by_number (suc (suc n)) few = absurd (omega arith)

  pub may : Condition (limits_of w) (acts_seen p x.0) (state_seen p) x.0 x.1
  may =
      subst (λ l. Condition l (acts_seen p x.0) (state_seen p) x.0 x.1) (sym follows.limits)
      (subst (λ es. Condition small_limits (mine x.0 es) (state_after es) x.0 x.1) (sym follows.seen) step.condition)

  pub follows_on : (q : Pass) → Steps w p q x.0 x.1 → Follows w (from + i + 1) q
  follows_on q steps' =
      let grown = steps'.only follows.only in
      let one_more : take (suc (from + i)) worked_history ≡ take (from + i) worked_history ++ event_of x.0 x.1 ∷ [] =
      take-suc worked_history (from + i) (event_of x.0 x.1) here.below
      ∙ ap (λ e. take (from + i) worked_history ++ e ∷ []) here.is in
      record {
        pass = steps'.pass;
        limits = follows.limits;
        first = subst (λ (k : ℕ). HasBit k 0) (sym steps'.numbers) follows.first;
        second = subst (λ (k : ℕ). HasBit k 1) (sym steps'.numbers) follows.second;
        only = grown.0;
        seen = grown.1
            ∙ (ap (λ es. es ++ event_of x.0 x.1 ∷ []) follows.seen
            ∙ (sym one_more ∙ ap (λ (n : ℕ). take n worked_history) (same_count (from + i))));
      }

-- once both callers are drawn, the table's pass follows the worked history
pub drawn_follows : {w : Words} {p : Pass} → limits_of w ≡ small_limits → AreDrawn w p → Follows w 2 p
drawn_follows limits drawn = record {
  pass = drawn.zero_ready.pass;
  limits = limits;
  first = drawn.zero_ready.number;
  second = drawn.one_ready.number;
  only = drawn.only;
  seen = drawn.seen;
}
