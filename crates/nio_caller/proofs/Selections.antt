-- Selections of a caller: they give their pins back, and leave it its lists.
use Rattle.std.proofs.Common.{◌≡◌, ◌≢◌, ℕ, ◌<◌, ◌≤◌, ◌==◌, Bool, true, false, Option, Some, None, Result, Ok, Err, List}
use Rattle.std.proofs.Common.{refl, ap, sym, ◌∙◌, subst, eqb-true, eq-eqb, arith}
use Rattle.std.specs.Prelude.{IfErr, IfOk, IfSome, option_map}
use Rattle.nio_base.specs.declared.numbers.CallerNo.{CallerNo}
use Rattle.nio_base.specs.declared.numbers.ChanNo.{ChanNo}
use Rattle.nio_base.specs.declared.numbers.SelNo.{SelNo}
use Rattle.nio_history.specs.Conditions.{IsSelector}
use Rattle.nio_history.specs.PassViews.{PassView, HasSelector}
use Rattle.nio_history.specs.declared.found.Mode.{Mode}
use Rattle.nio_history.specs.declared.timeout.NegativeTimeout.{NegativeTimeout}
use Rattle.nio_poller.specs.Polled.{Polled}
use Rattle.nio_poller.specs.Selecting.{TimedUntil}
use Rattle.nio_poller.specs.declared.selecting.SelectError.{SelectError}
use Rattle.nio_select.specs.InHand.{HeldList, HeldSelector, InHand, TakesOnList, known_by, list_of}
use Rattle.nio_select.specs.declared.stamp.Stamp.{Stamp}
use Rattle.nio_select.specs.InProgress.{HasList, MaySelect}
use Rattle.nio_steps.specs.Calls.{CallClause}
use Rattle.nio_steps.specs.SelectCalls.{Begins, Selection}
use Rattle.nio_steps.specs.declared.refusal.BeginError.{BeginError}
use Rattle.nio_steps.specs.declared.selected.Selected.{Selected}
use Rattle.nio_words.specs.Passes.{IsReady}
use Rattle.nio_words.specs.Views.{view}
use Rattle.nio_words.specs.declared.words.Pass.{Pass}
use Rattle.nio_words.specs.declared.words.Words.{Words}
use Rattle.nio_caller.specs.Callers.{Acting, HasNoPins, IsActing, KeepsLists, KeepsProgress, MayCall, Progress, closing_in}
use Rattle.nio_caller.specs.Callers.{held, held_in, sees, selection_in}
use Rattle.nio_caller.specs.NamedCalls.{Calls, FindsSelector, IsCalled, as_called}
use Rattle.nio_caller.specs.Selections.{HasBack, SelectsOn}
use Rattle.nio_caller.specs.declared.refusal.CallError.TheVariants.{NoSuchSelector}
use Rattle.nio_caller.proofs.Calls.{keeps_lists, may_call_after}
use Rattle.nio_caller.proofs.GoingOn.{selects_by}
use Rattle.nio_caller.proofs.NamedCalls.{acting, has_same}
use Rattle.nio_caller.proofs.KeptProgress.{keeps_progress}

-- ---- the caller's lists

fit_place : (w : Words) (p : Pass) (s : SelNo) → HasSelector (view w p) s → s.0 < 16
fit_place w p s has =
    let inside : s.0 < w.limits.selectors = has.inside in
    let few : w.limits.selectors ≤ 16 = w.fit.few_selectors in
    omega (arith, inside, few)

-- the place of a selector that was made
pub has_place : (c : Acting) (s : SelNo) → HasSelector (sees c) s → s.0 < 16
has_place c s has = fit_place c.table c.pass s has

-- who has these lists may select by them
pub may_select_held : {pass : PassView} {me : CallerNo} {selectors : List (Option HeldSelector)} (s : SelNo)
    → HasSelector pass s → KeepsLists pass me selectors → MaySelect pass me (held_in selectors s)
may_select_held {pass = pass} s has keeps = record {
  made = subst (λ (n : SelNo). HasSelector pass n) (sym (keeps.numbers s)) has;
  had = keeps.had s;
}

module _ (before taken after : List (Option HeldSelector)) (s : SelNo) (selector : HeldSelector)
    (number : selector.number ≡ s)
    (takes : (t : SelNo) → t ≢ s → held_in taken t ≡ held_in before t)
    (put : held_in after selector.number ≡ selector)
    (puts : (t : SelNo) → t ≢ selector.number → held_in after t ≡ held_in taken t) where
  pub here : held_in after s ≡ selector
  here = ap (held_in after) (sym number) ∙ put

  pub elsewhere : (t : SelNo) → t ≢ s → held_in after t ≡ held_in before t
  elsewhere t other = puts t (λ same. other (same ∙ number)) ∙ takes t other

  -- a selector that was taken out for a call is put back
  pub put_back : (new : PassView) (me : CallerNo) → KeepsLists new me before → MaySelect new me selector → KeepsLists new me after
  put_back new me its may = record {
    numbers = λ t. number_of t (t.0 == s.0) refl;
    had = λ t. list_of_place t (t.0 == s.0) refl;
  }
    where
      is_here : (t : SelNo) → (t.0 == s.0) ≡ true → t ≡ s
      is_here t is = ap (λ (k : ℕ). record { 0 = k }) (eqb-true t.0 s.0 is)

      is_other : (t : SelNo) → (t.0 == s.0) ≡ false → t ≢ s
      is_other t is = λ same. let clash : false ≡ true = sym is ∙ eq-eqb t.0 s.0 (ap (λ (x : SelNo). x.0) same) in
          absurd cc

      number_of : (t : SelNo) (b : Bool) → (t.0 == s.0) ≡ b → (held_in after t).number ≡ t
      number_of t true is =
          let same = is_here t is in
          ap (λ (x : SelNo). (held_in after x).number) same
          ∙ (ap (λ (x : HeldSelector). x.number) here ∙ (number ∙ sym same))
      number_of t false is =
          ap (λ (x : HeldSelector). x.number) (elsewhere t (is_other t is)) ∙ its.numbers t

      list_of_place : (t : SelNo) (b : Bool) → (t.0 == s.0) ≡ b → IfSome (held_in after t).list (HasList new me)
      list_of_place t true is =
          subst (λ (x : HeldSelector). IfSome x.list (HasList new me))
          (sym (ap (held_in after) (is_here t is) ∙ here)) may.had
      list_of_place t false is =
          subst (λ (x : HeldSelector). IfSome x.list (HasList new me)) (sym (elsewhere t (is_other t is))) (its.had t)

-- a list that comes back is had
pub keeps_back : (before after : List (Option HeldSelector)) (pass : PassView) (me : CallerNo) (list : Option HeldList)
    → HasBack list before after → IfSome list (HasList pass me) → KeepsLists pass me before → KeepsLists pass me after
keeps_back before after pass me None back had keeps =
    subst (λ (xs : List (Option HeldSelector)). KeepsLists pass me xs) (sym back) keeps
keeps_back before after pass me (Some list) back had keeps =
    put_back before before after list.selector (record { number = list.selector; list = Some list }) refl
    (λ t other. refl) back.0 back.1 pass me keeps (record { made = had.lister.selector; had = had })

-- the place of the selector of a selection in progress
pub back_place : (w : Words) (p : Pass) (t s : SelNo) → t ≡ s → IsSelector (view w p).limits t → s.0 < 16
back_place w p t s same inside =
    let below : t.0 < w.limits.selectors = inside in
    let few : w.limits.selectors ≤ 16 = w.fit.few_selectors in
    let at : s.0 ≡ t.0 = ap (λ (x : SelNo). x.0) (sym same) in
    omega (arith, below, few, at)

-- the list that a selection on this selector gives back is the selector's
pub back_its : (x : InHand) (list : Option HeldList) (sel : SelNo) → list ≡ list_of x → x.selector ≡ sel
    → IfSome list (λ (back : HeldList). back.selector ≡ sel)
back_its x list sel back on = subst (λ (o : Option HeldList). IfSome o (λ (b : HeldList). b.selector ≡ sel)) (sym back)
    (by_stamp x.asked.stamp)
  where
    by_stamp : (o : Option Stamp)
        → IfSome (option_map (λ (stamp : Stamp). record { selector = x.selector; number = stamp.number; keys = x.asked.keys }) o)
        (λ (b : HeldList). b.selector ≡ sel)
    by_stamp None = tt
    by_stamp (Some stamp) = on

-- ---- beginning

-- a selection that begins is on the selector
pub begun_on : (old new : HeldSelector) (sel : SelNo) → old.number ≡ sel → (r : Result InHand BeginError)
    → IfOk r (λ s. (new ≡ record old { list = None }) × TakesOnList old s) → IfOk r (λ (s : InHand). s.selector ≡ sel)
begun_on old new sel same (Ok begun) lent = lent.1.on ∙ same
begun_on old new sel same (Err error) lent = tt

module _ (pass : PassView) (me : CallerNo) (old new : HeldSelector) where
  pub begun_may : (r : Result InHand BeginError)
      → IfOk r (λ s. (new ≡ record old { list = None }) × TakesOnList old s)
      → IfErr r (λ _. (new ≡ old) × MaySelect pass me new) → HasSelector pass old.number → MaySelect pass me new
  begun_may (Ok begun) lent refused has =
      subst (λ (x : HeldSelector). MaySelect pass me x) (sym lent.0) (record { made = has; had = tt })
  begun_may (Err error) lent refused has = refused.1

  pub begun_number : (r : Result InHand BeginError)
      → IfOk r (λ s. (new ≡ record old { list = None }) × TakesOnList old s)
      → IfErr r (λ _. (new ≡ old) × MaySelect pass me new) → new.number ≡ old.number
  begun_number (Ok begun) lent refused = ap (λ (x : HeldSelector). x.number) lent.0
  begun_number (Err error) lent refused = ap (λ (x : HeldSelector). x.number) refused.0

pub lent_so : (old new : HeldSelector) (r : Result InHand BeginError) (now before : HeldSelector) (s : SelNo)
    → IfOk r (λ x. (new ≡ record old { list = None }) × TakesOnList old x) → now ≡ new → old ≡ before → old.number ≡ s
    → IfOk r (λ x. (now ≡ record { number = s; list = None }) × TakesOnList before x)
lent_so old new (Ok begun) now before s lent is same number = (
  is ∙ (lent.0 ∙ ap (λ (n : SelNo). record { number = n; list = None }) number),
  subst (λ (x : HeldSelector). TakesOnList x begun) same lent.1,
)
lent_so old new (Err error) now before s lent is same number = tt

-- what the caller had of the selector before it looked
pub had_before : {w : Words} {p : Pass} {me : CallerNo} {before : List (Option HeldSelector)} {progress : Progress}
    {c0 c1 : Acting} (s : SelNo)
    → Calls (λ l. FindsSelector l s) c0 c1 (Some s) → acting w p me before progress ≡ c1
    → held_in before s ≡ held c0 s
had_before {w = w} {p = p} {me = me} {before = before} s look is =
    ap (λ (x : Acting). held x s) is ∙ ap (λ (xs : List (Option HeldSelector)). held_in xs s) look.lists

pub begins_so : {me : CallerNo} {v0 v1 : PassView} (mode : Mode) (answer : Result Selection BeginError)
    (selector before : HeldSelector) (s : SelNo) → selector ≡ before → before.number ≡ s
    → CallClause me (Begins selector.number mode (known_by selector)) v0 v1 answer
    → CallClause me (Begins s mode (known_by before)) v0 v1 answer
begins_so {me = me} {v0 = v0} {v1 = v1} mode answer selector before s same number call =
    subst (λ (n : SelNo). CallClause me (Begins n mode (known_by before)) v0 v1 answer) number
    (subst (λ (x : HeldSelector). CallClause me (Begins x.number mode (known_by x)) v0 v1 answer) same call)

-- ---- whole selections

-- a selection on the table `w`, which is the caller's `v`
pub timed_at : {w v : Words} → w ≡ v → (p q : Pass) (ends : _) (r : Result Mode NegativeTimeout) (me : CallerNo)
    (s s' : HeldSelector) (p0 p1 : Option (List Polled)) (are_ready : ChanNo → ℕ) (result : Result Selected SelectError)
    → TimedUntil ends r me s s' (view w p) (view w q) p0 p1 are_ready result
    → TimedUntil ends r me s s' (view v p) (view v q) p0 p1 are_ready result
timed_at at p q ends r me s s' p0 p1 are_ready result clause =
    subst (λ (x : Words). TimedUntil ends r me s s' (view x p) (view x q) p0 p1 are_ready result) at clause

pub may_at : {w v : Words} {me : CallerNo} {s : HeldSelector} → w ≡ v → (p : Pass) → MaySelect (view w p) me s
    → MaySelect (view v p) me s
may_at {me = me} {s = s} at p may = subst (λ (x : Words). MaySelect (view x p) me s) at may

module _ (w : Words) (p q : Pass) (ends : _) (me : CallerNo) (s s' : HeldSelector) (p0 p1 : Option (List Polled))
    (are_ready : ChanNo → ℕ) (result : Result Selected SelectError) where
  pub may_call_timed : (r : Result Mode NegativeTimeout)
      → TimedUntil ends r me s s' (view w p) (view w q) p0 p1 are_ready result → IsReady w q me → MayCall w p me → MayCall w q me
  may_call_timed (Ok mode) clause ready may =
      may_call_after (selects_by ends s.number mode (known_by s) clause.polls).pins clause.call ready may
  may_call_timed (Err too_low) clause ready may =
      record { ready = ready; unpinned = subst HasNoPins (sym clause.same) may.unpinned }

  -- it selects on the same selector
  pub same_number : (r : Result Mode NegativeTimeout)
      → TimedUntil ends r me s s' (view w p) (view w q) p0 p1 are_ready result → s'.number ≡ s.number
  same_number (Ok mode) clause = ap (λ (x : HeldSelector). x.number) clause.list
  same_number (Err too_low) clause = ap (λ (x : HeldSelector). x.number) clause.same_list

called_so : (P : Result Selected SelectError → Type 0) (x : Result Selected SelectError) → P x → IsCalled (as_called x) P
called_so P (Ok value) holds = holds
called_so P (Err error) holds = holds

-- the caller that selected goes on, once what it had of the selector is put back
module _ (w : Words) (p q : Pass) (me : CallerNo) (before taken after : List (Option HeldSelector)) (progress : Progress)
    (ends : _) (r : Result Mode NegativeTimeout) (s : SelNo) (selector selector' : HeldSelector) (p0 p1 : Option (List Polled))
    (are_ready : ChanNo → ℕ) (answer : Result Selected SelectError)
    (clause : TimedUntil ends r me selector selector' (view w p) (view w q) p0 p1 are_ready answer)
    (is_taken : selector ≡ held_in before s)
    (takes : (t : SelNo) → t ≢ s → held_in taken t ≡ held_in before t)
    (put : held_in after selector'.number ≡ selector')
    (puts : (t : SelNo) → t ≢ selector'.number → held_in after t ≡ held_in taken t) where
  its_number : (keeps : KeepsLists (view w p) me before) → selector'.number ≡ s
  its_number keeps =
      same_number w p q ends me selector selector' p0 p1 are_ready answer r clause
      ∙ (ap (λ (x : HeldSelector). x.number) is_taken ∙ keeps.numbers s)

  kept_before : (x : Result Mode NegativeTimeout)
      → TimedUntil ends x me selector selector' (view w p) (view w q) p0 p1 are_ready answer
      → KeepsLists (view w p) me before → KeepsLists (view w q) me before
  kept_before (Ok mode) selects keeps = keeps_lists selects.call.acts me before keeps
  kept_before (Err too_low) refused keeps = subst (λ (v : PassView). KeepsLists v me before) (sym refused.same) keeps

  goes_on_selected : (x : Result Mode NegativeTimeout)
      → TimedUntil ends x me selector selector' (view w p) (view w q) p0 p1 are_ready answer
      → KeepsProgress (view w p) me progress → KeepsProgress (view w q) me progress
  goes_on_selected (Ok mode) selects keeps =
      keeps_progress selects.call.acts progress
      (λ t. (selects_by ends selector.number mode (known_by selector) selects.polls).spares t _ selects.reply
      selects.call.shape) keeps
  goes_on_selected (Err too_low) refused keeps =
      subst (λ (v : PassView). KeepsProgress v me progress) (sym refused.same) keeps

  pub acting_selected : IsReady w q me → MaySelect (view w q) me selector' → IsActing w p me before progress
      → IsActing w q me after progress
  acting_selected ready may acting = record {
    goes_on = goes_on_selected r clause acting.goes_on;
    may = may_call_timed w p q ends me selector selector' p0 p1 are_ready answer r clause ready acting.may;
    lists = put_back before taken after s selector' (its_number acting.lists) takes put puts (view w q) me
        (kept_before r clause acting.lists) may;
  }

  pub selects_on : {c0 c1 : Acting} → Calls (λ l. FindsSelector l s) c0 c1 (Some s) → acting w p me before progress ≡ c1
      → KeepsLists (view w p) me before
      → SelectsOn s (λ old new seen. TimedUntil ends r c0.number old new seen (view w q) p0 p1 are_ready) c0
      (acting w q me after progress) (as_called answer)
  selects_on {c0 = c0} look is keeps = by_look (subst (λ (x : Acting). Calls (λ l. FindsSelector l s) c0 x (Some s)) (sym is) look)
    where
      Its : CallerNo → HeldSelector → HeldSelector → Type 0
      Its n old new = TimedUntil ends r n old new (view w p) (view w q) p0 p1 are_ready answer

      by_look : Calls (λ l. FindsSelector l s) c0 (acting w p me before progress) (Some s)
          → SelectsOn s (λ old new seen. TimedUntil ends r c0.number old new seen (view w q) p0 p1 are_ready) c0
          (acting w q me after progress) (as_called answer)
      by_look looked = record {
        same = record { table = looked.same.table; number = looked.same.number };
        others = record {
          lists = λ t other. elsewhere before taken after s selector' (its_number keeps) takes put puts t other
              ∙ ap (λ (xs : List (Option HeldSelector)). held_in xs t) looked.lists;
          selections = λ t other. ap (λ (x : Progress). selection_in x t) looked.progress;
          closings = λ t other. ap (λ (x : Progress). closing_in x t) looked.progress;
        };
        progress = looked.progress;
        found = Some s;
        seen = view w p;
        looks = looked.call;
        selects = called_so
            (λ x. TimedUntil ends r c0.number (held_in c0.selectors s) (held_in after s) (view w p) (view w q) p0 p1 are_ready x)
            answer
            (subst (λ (n : CallerNo). Its n (held_in c0.selectors s) (held_in after s)) looked.same.number
            (subst (λ (x : HeldSelector). Its me x (held_in after s))
            (is_taken ∙ ap (λ (xs : List (Option HeldSelector)). held_in xs s) looked.lists)
            (subst (λ (x : HeldSelector). Its me selector x) (sym (here before taken after s selector' (its_number keeps) takes put puts))
            clause)));
      }

pub selects_nowhere : {c0 c1 : Acting} (s : SelNo)
    (Selects : HeldSelector → HeldSelector → PassView → Result Selected SelectError → Type 0)
    → Calls (λ l. FindsSelector l s) c0 c1 None → SelectsOn s Selects c0 c1 (Err NoSuchSelector)
selects_nowhere {c1 = c1} s Selects look =
    let same_lists = ap (λ (xs : List (Option HeldSelector)). held_in xs s) look.lists in
    record {
      same = look.same;
      others = has_same s look.lists look.progress;
      progress = look.progress;
      found = None;
      seen = sees c1;
      looks = look.call;
      selects = record { nothing = refl; list = same_lists; answer = refl };
    }
