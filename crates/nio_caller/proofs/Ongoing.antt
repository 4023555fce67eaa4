-- The calls that begin, tell and leave a selection, and those that close a selector: what the caller has after them.
use Rattle.std.proofs.Common.{◌≡◌, ◌≢◌, ℕ, ◌<◌, ◌==◌, Bool, false, if◌then◌else◌, Option, Some, None, Result, Ok, Err}
use Rattle.std.proofs.Common.{List}
use Rattle.std.proofs.Common.{refl, ap, sym, ◌∙◌, subst, inl}
use Rattle.std.specs.Prelude.{◌↔◌, IfErr, IfOk, IfSome}
use Rattle.nio_base.specs.declared.limits.Limits.{Limits}
use Rattle.nio_base.specs.declared.numbers.CallerNo.{CallerNo}
use Rattle.nio_base.specs.declared.numbers.SelNo.{SelNo}
use Rattle.nio_history.specs.PassViews.{PassView, HasSelector}
use Rattle.nio_history.specs.declared.act.Act.{Act}
use Rattle.nio_history.specs.declared.found.Mode.{Mode}
use Rattle.nio_select.specs.InHand.{HeldList, HeldSelector, InHand, TakesOnList, known_by, list_of, selection_of}
use Rattle.nio_select.specs.InProgress.{HasList, MaySelect, Selects}
use Rattle.nio_select.specs.Listed.{ok_seen}
use Rattle.nio_steps.proofs.CallLaws.{call_as}
use Rattle.nio_steps.specs.Calls.{CallClause}
use Rattle.nio_steps.specs.Runs.{Completes}
use Rattle.nio_steps.specs.SelectCalls.{Begins, Poll, Tells, ToldReply, again, busy, closed, done}
use Rattle.nio_steps.specs.SelectCalls.{leave_plan, try_finish_plan}
use Rattle.nio_steps.specs.declared.refusal.BeginError.{BeginError}
use Rattle.nio_steps.specs.declared.selected.Selected.{Selected}
use Rattle.nio_words.specs.Passes.{IsReady}
use Rattle.nio_words.specs.Views.{view}
use Rattle.nio_words.specs.declared.words.Pass.{Pass}
use Rattle.nio_words.specs.declared.words.Words.{Words}
use Rattle.nio_caller.specs.Callers.{Acting, IsActing, KeepsLists, Progress, closing, closing_in, held_in, selection, selection_in}
use Rattle.nio_caller.specs.NamedCalls.{Calls, MayRefuse}
use Rattle.nio_caller.specs.Selections.{Finishes, HasBack, KeepsOthers, Starts, TellsKept}
use Rattle.nio_caller.specs.declared.refusal.CallError.TheVariants.{Refused}
use Rattle.nio_caller.proofs.Calls.{call_at, keeps_lists, may_call_after, ready_of, still_has}
use Rattle.nio_caller.proofs.GoingOn.{begin, left_elsewhere, told_elsewhere, try_finish}
use Rattle.nio_caller.proofs.GoingOn as goes_on
use Rattle.nio_caller.proofs.KeptProgress.{HasOn, Shut, keeps_at, keeps_closing, keeps_progress}
use Rattle.nio_caller.proofs.NamedCalls.{acting}
use Rattle.nio_caller.proofs.Selections.{back_its, back_place, begins_so, begun_may, begun_number, elsewhere, here}
use Rattle.nio_caller.proofs.Selections.{keeps_back, may_at, put_back}
use Rattle.nio_steps.proofs.PinLaws.{pins_are_given_back}

-- ---- what is there

pub if_is : {A : Type 0} (P : A → Type 0) (o : Option A) (x : A) → o ≡ Some x → P x → IfSome o P
if_is P o x is holds = subst (λ o'. IfSome o' P) (sym is) holds

pub none_is : {A : Type 0} (P : A → Type 0) (o : Option A) → o ≡ None → IfSome o P
none_is P o is = subst (λ o'. IfSome o' P) (sym is) tt

pub is_there : {A : Type 0} (P : A → Type 0) (o : Option A) (x : A) → o ≡ Some x → IfSome o P → P x
is_there P o x is holds = subst (λ o'. IfSome o' P) is holds

-- a call is refused for want of it exactly where there is none
pub not_none : {A T E : Type 0} (value : T) (error : E) (o : Option A) (x : A) → o ≡ Some x
    → (Ok value ≡ Err error) ↔ (o ≡ None)
not_none value error o x is =
    (λ same. absurd (cc same), λ none. let clash : Some x ≡ None = sym is ∙ none in absurd (cc clash))

-- it has the closings that it had
pub same_closings : (old new : Progress) → new.closings ≡ old.closings → (t : SelNo) → closing_in new t ≡ closing_in old t
same_closings old new same t = ap (λ (xs : List (Option SelNo)). closing_in (record new { closings = xs }) t) same

-- what the caller had in progress before it looked
pub had_progress : {R : Type 0} {Finds : Limits → List Act → R → Type 0} {w : Words} {p : Pass} {me : CallerNo}
    {selectors : List (Option HeldSelector)} {progress : Progress} {c0 c1 : Acting} {found : R}
    → Calls Finds c0 c1 found → acting w p me selectors progress ≡ c1 → progress ≡ c0.progress
had_progress look is = ap (λ (x : Acting). x.progress) is ∙ look.progress

-- ---- beginning

module _ {w v : Words} (at : w ≡ v) (p q : Pass) (me : CallerNo) (before taken after : List (Option HeldSelector))
    (progress : Progress) (s : SelNo) (selector selector' : HeldSelector) (mode : Mode) (begun : Result InHand BeginError)
    (is_taken : selector ≡ held_in before s)
    (takes : (t : SelNo) → t ≢ s → held_in taken t ≡ held_in before t)
    (put : held_in after selector'.number ≡ selector')
    (puts : (t : SelNo) → t ≢ selector'.number → held_in after t ≡ held_in taken t)
    (call : CallClause me (Begins selector.number mode (known_by selector)) (view w p) (view w q)
    (ok_seen selection_of begun))
    (lent : IfOk begun (λ x. (selector' ≡ record selector { list = None }) × TakesOnList selector x))
    (refused : IfErr begun (λ _. (selector' ≡ selector) × MaySelect (view w q) me selector')) where
  module _ (keeps : KeepsLists (view v p) me before) where
    number : selector.number ≡ s
    number = ap (λ (x : HeldSelector). x.number) is_taken ∙ keeps.numbers s

    number' : selector'.number ≡ s
    number' = begun_number (view w q) me selector selector' begun lent refused ∙ number

    pub begun_others : (t : SelNo) → t ≢ s → held_in after t ≡ held_in before t
    begun_others = elsewhere before taken after s selector' number' takes put puts

    pub begun_here : held_in after s ≡ selector'
    begun_here = here before taken after s selector' number' takes put puts

  module _ (ready : IsReady w q me) (its : IsActing v p me before progress) (has : HasSelector (view v p) s) where
    made : CallClause me (Begins selector.number mode (known_by selector)) (view v p) (view v q)
        (ok_seen selection_of begun)
    made = call_at at p q call

    lists_kept : KeepsLists (view v q) me after
    lists_kept =
        put_back before taken after s selector' (number' its.lists) takes put puts (view v q) me
        (keeps_lists made.acts me before its.lists)
        (may_at at q
        (begun_may (view w q) me selector selector' begun lent refused
        (subst (λ (x : Words). HasSelector (view x q) selector.number) (sym at)
        ((still_has made.acts).selectors selector.number
        (subst (λ (t : SelNo). HasSelector (view v p) t) (sym (number its.lists)) has)))))

    pub acting_unbegun : IsActing v q me after progress
    acting_unbegun = record {
      may = may_call_after (begin selector.number mode (known_by selector)).pins made (ready_of at ready) its.may;
      lists = lists_kept;
      goes_on = keeps_progress made.acts progress
          (λ t. (begin selector.number mode (known_by selector)).spares t _ (ok_seen selection_of begun) made.shape)
          its.goes_on;
    }

    pub acting_begun : (later : Progress) (x : InHand) → x.selector ≡ s → Selects (view w q) me (selection_of x)
        → selection_in later s ≡ Some x
        → ((t : SelNo) → t ≢ s → selection_in later t ≡ selection_in progress t) → later.closings ≡ progress.closings
        → IsActing v q me after later
    acting_begun later x on selects started others closings = record {
      may = may_call_after (begin selector.number mode (known_by selector)).pins made (ready_of at ready) its.may;
      lists = lists_kept;
      goes_on = keeps_at made.acts s progress later
          (λ t _. (begin selector.number mode (known_by selector)).spares t _ (ok_seen selection_of begun) made.shape)
          its.goes_on
          (if_is (HasOn (view v q) me s) (selection_in later s) x started
          (on, subst (λ (y : Words). Selects (view y q) me (selection_of x)) at selects)) others closings;
    }

-- the call that began the selection, with what the caller has then
pub starts : {me : CallerNo} {v0 v1 : PassView} (s : SelNo) (mode : Mode) (selector before : HeldSelector)
    (now : Option InHand) (x : InHand) → selector ≡ before → before.number ≡ s → now ≡ Some x
    → CallClause me (Begins selector.number mode (known_by selector)) v0 v1 (Ok (selection_of x))
    → CallClause me (MayRefuse (Starts now (Begins s mode (known_by before)))) v0 v1 (Ok tt)
starts {me = me} {v0 = v0} {v1 = v1} s mode selector before now x same number is call =
    subst (λ o. CallClause me (MayRefuse (Starts o (Begins s mode (known_by before)))) v0 v1 (Ok tt)) (sym is)
    (call_as (MayRefuse (Starts (Some x) (Begins s mode (known_by before)))) (Ok tt) (λ xs run. run)
    (begins_so mode (Ok (selection_of x)) selector before s same number call))

pub unstarted : {me : CallerNo} {v0 v1 : PassView} (s : SelNo) (mode : Mode) (selector before : HeldSelector)
    (now : Option InHand) (error : BeginError) → selector ≡ before → before.number ≡ s
    → CallClause me (Begins selector.number mode (known_by selector)) v0 v1 (Err error)
    → CallClause me (MayRefuse (Starts now (Begins s mode (known_by before)))) v0 v1 (Err (Refused error))
unstarted s mode selector before now error same number call =
    call_as (MayRefuse (Starts now (Begins s mode (known_by before)))) (Err (Refused error)) (λ xs run. run)
    (begins_so mode (Err error) selector before s same number call)

-- ---- telling and leaving

-- what the caller has in progress it had before the call
pub was_there : {w : Words} {p : Pass} {me : CallerNo} {selectors : List (Option HeldSelector)} {progress : Progress}
    {c : Acting} {x : InHand} (s : SelNo) → acting w p me selectors progress ≡ c → Some x ≡ selection_in progress s
    → selection c s ≡ Some x
was_there s is was = ap (λ (y : Acting). selection y s) (sym is) ∙ sym was

pub tells_done : {me : CallerNo} {v0 v1 : PassView} (x : InHand) (poll : Poll) (answer : Selected)
    → CallClause me (Tells (selection_of x) poll) v0 v1 (done answer)
    → CallClause me (TellsKept x poll) v0 v1 (Ok (Some answer))
tells_done x poll answer call = call_as (TellsKept x poll) (Ok (Some answer)) (λ xs run. run) call

pub tells_again : {me : CallerNo} {v0 v1 : PassView} (x : InHand) (poll : Poll) (next : InHand) → next ≡ x
    → CallClause me (Tells (selection_of x) poll) v0 v1 (again (selection_of next))
    → CallClause me (TellsKept x poll) v0 v1 (Ok None)
tells_again {me = me} {v0 = v0} {v1 = v1} x poll next same call =
    call_as (TellsKept x poll) (Ok None) (λ xs run. run)
    (subst (λ (y : InHand). CallClause me (Tells (selection_of x) poll) v0 v1 (again (selection_of y))) same call)

module _ {w v : Words} (at : w ≡ v) (p q : Pass) (me : CallerNo) (before : List (Option HeldSelector))
    (progress taken : Progress) (s : SelNo) (x : InHand) (was : Some x ≡ selection_in progress s)
    (took : selection_in taken s ≡ None)
    (others : (t : SelNo) → t ≢ s → selection_in taken t ≡ selection_in progress t)
    (closings : taken.closings ≡ progress.closings) where
  pub has_on : IsActing v p me before progress → HasOn (view v p) me s x
  has_on its = is_there (HasOn (view v p) me s) (selection_in progress s) x (sym was) (its.goes_on.selects s)

  pub selects_at : IsActing v p me before progress → Selects (view w p) me (selection_of x)
  selects_at its = subst (λ (y : Words). Selects (view y p) me (selection_of x)) (sym at) (has_on its).1

  pub place_of : IsActing v p me before progress → s.0 < 16
  place_of its = back_place v p x.selector s (has_on its).0 (has_on its).1.inside

  pub its_list : (list : Option HeldList) → list ≡ list_of x → IsActing v p me before progress
      → IfSome list (λ (back : HeldList). back.selector ≡ s)
  its_list list back its = back_its x list s back (has_on its).0

  elsewhere_than : IsActing v p me before progress → (t : ℕ) → (s.0 == t) ≡ false → (x.selector.0 == t) ≡ false
  elsewhere_than its t off = ap (λ (u : SelNo). u.0 == t) (has_on its).0 ∙ off

  -- it is over: the list comes back
  module _ (after : List (Option HeldSelector)) (list : Option HeldList) (back : HasBack list before after)
      (had : IfSome list (HasList (view w q) me)) (ready : IsReady w q me) (its : IsActing v p me before progress) where
    had_at : IfSome list (HasList (view v q) me)
    had_at = subst (λ (y : Words). IfSome list (HasList (view y q) me)) at had

    pub acting_told : (poll : Poll) (answer : ToldReply)
        → CallClause me (Tells (selection_of x) poll) (view w p) (view w q) answer → IsActing v q me after taken
    acting_told poll answer call =
        let made = call_at at p q call in
        record {
          may = may_call_after (pins_are_given_back.told (selection_of x) poll.pairs poll.elapsed) made (ready_of at ready)
              its.may;
          lists = keeps_back before after (view v q) me list back had_at (keeps_lists made.acts me before its.lists);
          goes_on = keeps_at made.acts s progress taken
              (λ t off. inl (told_elsewhere (selection_of x) poll t (elsewhere_than its t off) _ answer made.shape))
              its.goes_on (none_is (HasOn (view v q) me s) (selection_in taken s) took) others closings;
        }

    pub acting_left : CallClause me (Completes (leave_plan (selection_of x))) (view w p) (view w q) tt
        → IsActing v q me after taken
    acting_left call =
        let made = call_at at p q call in
        record {
          may = may_call_after (pins_are_given_back.leave (selection_of x)) made (ready_of at ready) its.may;
          lists = keeps_back before after (view v q) me list back had_at (keeps_lists made.acts me before its.lists);
          goes_on = keeps_at made.acts s progress taken
              (λ t off. inl (left_elsewhere (selection_of x) t (elsewhere_than its t off) _ tt made.shape))
              its.goes_on (none_is (HasOn (view v q) me s) (selection_in taken s) took) others closings;
        }

    -- what the caller has of other selectors
    lists_elsewhere : (o : Option HeldList) → HasBack o before after → IfSome o (λ (l : HeldList). l.selector ≡ s)
        → (t : SelNo) → t ≢ s → held_in after t ≡ held_in before t
    lists_elsewhere None same on t other = ap (λ (xs : List (Option HeldSelector)). held_in xs t) same
    lists_elsewhere (Some l) same on t other = same.1 t (λ is. other (is ∙ on))

    pub others_back : list ≡ list_of x → KeepsOthers s (acting v p me before progress) (acting v q me after taken)
    others_back is = record {
      lists = lists_elsewhere list back (its_list list is its);
      selections = others;
      closings = λ t other. same_closings progress taken closings t;
    }

  -- it goes on
  module _ (later : Progress) (next : InHand) (same : next ≡ x) (put : selection_in later s ≡ Some next)
      (puts : (t : SelNo) → t ≢ s → selection_in later t ≡ selection_in taken t)
      (closings' : later.closings ≡ taken.closings) where
    pub others_on : KeepsOthers s (acting v p me before progress) (acting v q me before later)
    others_on = record {
      lists = λ t other. refl;
      selections = λ t other. puts t other ∙ others t other;
      closings = λ t other. same_closings progress later (closings' ∙ closings) t;
    }

    pub acting_on : (poll : Poll) (answer : ToldReply)
        → CallClause me (Tells (selection_of x) poll) (view w p) (view w q) answer
        → Selects (view w q) me (selection_of next) → IsReady w q me → IsActing v p me before progress
        → IsActing v q me before later
    acting_on poll answer call selects ready its =
        let made = call_at at p q call in
        record {
          may = may_call_after (pins_are_given_back.told (selection_of x) poll.pairs poll.elapsed) made (ready_of at ready)
              its.may;
          lists = keeps_lists made.acts me before its.lists;
          goes_on = keeps_at made.acts s progress later
              (λ t off. inl (told_elsewhere (selection_of x) poll t (elsewhere_than its t off) _ answer made.shape))
              its.goes_on
              (if_is (HasOn (view v q) me s) (selection_in later s) next put (
                ap (λ (y : InHand). y.selector) same ∙ (has_on its).0,
                subst (λ (y : Words). Selects (view y q) me (selection_of next)) at selects,
              ))
              (λ t other. puts t other ∙ others t other) (closings' ∙ closings);
        }

-- ---- closings

module _ {w v : Words} (at : w ≡ v) (p q : Pass) (me : CallerNo) (selectors : List (Option HeldSelector))
    (progress later : Progress) (s : SelNo)
    (others : (t : SelNo) → t ≢ s → closing_in later t ≡ closing_in progress t)
    (selections : later.selections ≡ progress.selections) where
  pub others_closing : KeepsOthers s (acting v p me selectors progress) (acting v q me selectors later)
  others_closing = record {
    lists = λ t other. refl;
    selections = λ t other.
        ap (λ (xs : List (Option InHand)). selection_in (record later { selections = xs }) t) selections;
    closings = others;
  }

  pub acting_closing : {R : Type 0} {Shape : List Act → R → Type 0} {answer : R} → goes_on.GoesOn Shape
      → CallClause me Shape (view w p) (view w q) answer → IsReady w q me → IsActing v p me selectors progress
      → IfSome (closing_in later s) (Shut (view w q) me s) → IsActing v q me selectors later
  acting_closing {answer = answer} goes call ready its closes =
      let made = call_at at p q call in
      record {
        may = may_call_after goes.pins made (ready_of at ready) its.may;
        lists = keeps_lists made.acts me selectors its.lists;
        goes_on = keeps_closing made.acts s progress later (λ t. goes.spares t _ answer made.shape) its.goes_on
            (subst (λ (y : Words). IfSome (closing_in later s) (Shut (view y q) me s)) at closes) others selections;
      }

-- the caller's closing of the selector
pub shut_at : {w v : Words} (at : w ≡ v) (p : Pass) (me : CallerNo) (selectors : List (Option HeldSelector))
    (progress : Progress) (s t : SelNo) → Some t ≡ closing_in progress s → IsActing v p me selectors progress
    → Shut (view w p) me s t
shut_at {v = v} at p me selectors progress s t was its =
    subst (λ (y : Words). Shut (view y p) me s t) (sym at)
    (is_there (Shut (view v p) me s) (closing_in progress s) t (sym was) (its.goes_on.closes s))

pub closing_place : {w v : Words} (at : w ≡ v) (p : Pass) (me : CallerNo) (selectors : List (Option HeldSelector))
    (progress : Progress) (s t : SelNo) → Some t ≡ closing_in progress s → IsActing v p me selectors progress
    → s.0 < 16
closing_place {v = v} at p me selectors progress s t was its =
    let shut = is_there (Shut (view v p) me s) (closing_in progress s) t (sym was) (its.goes_on.closes s) in
    back_place v p t s shut.0 shut.1.inside

pub closing_was : {w : Words} {p : Pass} {me : CallerNo} {selectors : List (Option HeldSelector)} {progress : Progress}
    {c : Acting} {t : SelNo} (s : SelNo) → acting w p me selectors progress ≡ c → Some t ≡ closing_in progress s
    → closing c s ≡ Some t
closing_was s is was = ap (λ (y : Acting). closing y s) (sym is) ∙ sym was

pub finishes : {me : CallerNo} {v0 v1 : PassView} (s t : SelNo) (is_closed : Bool) → t ≡ s
    → CallClause me (Completes (try_finish_plan t)) v0 v1 (if is_closed then closed else busy)
    → CallClause me (Finishes s) v0 v1 (Ok is_closed)
finishes {me = me} {v0 = v0} {v1 = v1} s t is_closed same call =
    call_as (Finishes s) (Ok is_closed) (λ xs run. run)
    (subst (λ (x : SelNo). CallClause me (Completes (try_finish_plan x)) v0 v1 (if is_closed then closed else busy)) same
    call)
