-- A caller may make calls after a call, as before it.
use Rattle.std.proofs.Common.{◌≡◌, ◌≢◌, ℕ, ◌==◌, Bool, true, false, Option, Some, None, IsTrue, List}
use Rattle.std.proofs.Common.{ap, sym, ◌∙◌, refl, subst, eqb-true, eq-eqb}
use Rattle.std.specs.Int.{bit_at}
use Rattle.std.specs.Prelude.{IfSome}
use Rattle.nio_base.specs.declared.limits.Limits.{Limits}
use Rattle.nio_base.specs.declared.numbers.CallerNo.{CallerNo}
use Rattle.nio_base.specs.declared.numbers.SelNo.{SelNo}
use Rattle.nio_history.proofs.OwnPins.{pins_are_own}
use Rattle.nio_history.proofs.PassViews.{selector_after, channel_after, key_after}
use Rattle.nio_history.proofs.Stays.{beginnings_are_legal}
use Rattle.nio_history.specs.Histories.{mine, IsLegal}
use Rattle.nio_history.specs.OwnEvents.{keeps_pin}
use Rattle.nio_history.specs.PassViews.{PassView, Holds, HasNoPin, HasSelector, ActsClause}
use Rattle.nio_history.specs.declared.act.Act.{Act}
use Rattle.nio_select.proofs.ListedSteps.{lists_are_kept}
use Rattle.nio_select.specs.InHand.{HeldList, HeldSelector}
use Rattle.nio_select.specs.InProgress.{HasList, MaySelect}
use Rattle.nio_steps.proofs.PinBack.{no_pin_after}
use Rattle.nio_steps.specs.Calls.{CallClause}
use Rattle.nio_steps.specs.PinLaws.{GivesPinsBack}
use Rattle.nio_words.specs.Passes.{IsReady, limits_of, numbers_of}
use Rattle.nio_words.specs.Views.{view}
use Rattle.nio_words.specs.declared.words.Pass.{Pass}
use Rattle.nio_words.specs.declared.words.Words.{Words}
use Rattle.nio_caller.specs.Callers.{HasNoPins, IsActing, KeepsLists, MayCall, Progress, StillHas, held_in}
use Rattle.nio_caller.proofs.GoingOn.{GoesOn, SparesAll}
use Rattle.nio_caller.proofs.KeptProgress.{keeps_progress}

abbrev numbered : ℕ → CallerNo
numbered k = record { 0 = k }

-- who did the same has the same pins
pub same_pins : (l : Limits) (n : CallerNo) (old new : PassView) → IsLegal l old.seen → IsLegal l new.seen
    → mine n new.seen ≡ mine n old.seen → HasNoPin old n → HasNoPin new n
same_pins l n old new legal_old legal_new same none s i =
    pins_are_own l n s i new.seen legal_new
    ∙ (ap (keeps_pin s.0 i) same ∙ (sym (pins_are_own l n s i old.seen legal_old) ∙ none s i))

-- the numbers that didn't call have no pin either
unpinned_after : {me : CallerNo} {acts : List Act} {old new : PassView} → ActsClause me acts old new
    → HasNoPin new me → HasNoPins old → HasNoPins new
unpinned_after {me = me} {acts = acts} {old = old} {new = new} clause own others n held =
    by_test (n.0 == me.0) refl
  where
    held_before : Holds old n
    held_before = subst (λ (h : CallerNo → Bool). IsTrue (h n)) clause.held held

    by_test : (b : Bool) → (n.0 == me.0) ≡ b → HasNoPin new n
    by_test true is =
        let same : me ≡ n = sym (ap numbered (eqb-true n.0 me.0 is)) in
        subst (λ (m : CallerNo). HasNoPin new m) same own
    by_test false is =
        let other : n ≢ me = λ same.
        let clash : false ≡ true = sym is ∙ eq-eqb n.0 me.0 (ap (λ (m : CallerNo). m.0) same) in absurd cc
        in
        same_pins old.limits n old new
        (beginnings_are_legal old.limits old.seen new.seen clause.history.goes_on clause.history.legal)
        clause.history.legal (clause.history.others n held_before other) (others n held_before)

-- after a call that leaves the caller no pin
pub may_call_unpinned : {acts : List Act} {w : Words} {p q : Pass} {me : CallerNo}
    → ActsClause me acts (view w p) (view w q) → HasNoPin (view w q) me → IsReady w q me → MayCall w p me
    → MayCall w q me
may_call_unpinned clause none ready may =
    record { ready = ready; unpinned = unpinned_after clause none may.unpinned }

-- after a call that gives its pins back
pub may_call_after : {R : Type 0} {Shape : List Act → R → Type 0} {answer : R} {w : Words} {p q : Pass} {me : CallerNo}
    → GivesPinsBack Shape → CallClause me Shape (view w p) (view w q) answer → IsReady w q me → MayCall w p me
    → MayCall w q me
may_call_after {answer = answer} {w = w} {p = p} {me = me} gives call ready may = record {
  ready = ready;
  unpinned = unpinned_after call.acts
      (no_pin_after (λ acts shape. gives acts answer shape) call (may.unpinned me own)) may.unpinned;
}
  where
    own : Holds (view w p) me
    own = eq-eqb (bit_at (numbers_of p) me.0) 1 may.ready.number

-- ---- what was made stays made

-- who may select may do so where the selector and its list are had still
pub may_select : (old new : PassView) (n : CallerNo) (s : HeldSelector)
    → (HasSelector old s.number → HasSelector new s.number)
    → ((list : HeldList) → HasList old n list → HasList new n list) → MaySelect old n s → MaySelect new n s
may_select old new n s makes gives may =
    record { made = makes may.made; had = by_list s.list may.had }
  where
    by_list : (o : Option HeldList) → IfSome o (HasList old n) → IfSome o (HasList new n)
    by_list None had = tt
    by_list (Some list) had = gives list had

-- a caller has a list for good
lists_stay : {me : CallerNo} {acts : List Act} {old new : PassView} → ActsClause me acts old new → (n : CallerNo)
    (list : HeldList) → HasList old n list → HasList new n list
lists_stay {old = old} {new = new} clause n list has =
    lists_are_kept old new n list has clause.limits clause.history.goes_on
    (subst (λ (l : Limits). IsLegal l new.seen) (sym clause.limits) clause.history.legal)

pub still_has : {me : CallerNo} {acts : List Act} {old new : PassView} → ActsClause me acts old new → StillHas old new
still_has {old = old} {new = new} clause = record {
  selectors = λ s has. selector_after clause has;
  channels = λ c has. channel_after clause has;
  keys = λ k has. key_after clause has;
  selects = λ n s may. may_select old new n s (λ has. selector_after clause has) (lists_stay clause n) may;
}

pub same_has : {v : PassView} → StillHas v v
same_has =
    record { selectors = λ s has. has; channels = λ c has. has; keys = λ k has. has; selects = λ n s may. may }

-- ---- a caller that has lists goes on

pub still_had : {A : Type 0} {P Q : A → Type 0} (o : Option A) → ((x : A) → P x → Q x) → IfSome o P → IfSome o Q
still_had None gives had = tt
still_had (Some x) gives had = gives x had

pub keeps_lists : {n : CallerNo} {acts : List Act} {old new : PassView} → ActsClause n acts old new → (me : CallerNo)
    (selectors : List (Option HeldSelector)) → KeepsLists old me selectors → KeepsLists new me selectors
keeps_lists clause me selectors keeps = record {
  numbers = keeps.numbers;
  had = λ s. still_had (held_in selectors s).list (lists_stay clause me) (keeps.had s);
}

-- A caller knows its table `v` by an equation, as that of a call on the table `w`: what such a call says holds of the
-- caller's table.
module _ {w v : Words} (at : w ≡ v) where
  pub ready_at : {p : Pass} {me : CallerNo} {selectors : List (Option HeldSelector)} {progress : Progress}
      → IsActing v p me selectors progress → IsReady w p me
  ready_at {p = p} {me = me} acting = subst (λ (x : Words). IsReady x p me) (sym at) acting.may.ready

  pub unpinned_at : {p : Pass} {me : CallerNo} {selectors : List (Option HeldSelector)} {progress : Progress}
      → IsActing v p me selectors progress → HasNoPin (view w p) me
  unpinned_at {p = p} {me = me} acting =
      subst (λ (x : Words). HasNoPin (view x p) me) (sym at)
      (acting.may.unpinned me (eq-eqb (bit_at (numbers_of p) me.0) 1 acting.may.ready.number))

  pub ready_of : {p : Pass} {me : CallerNo} → IsReady w p me → IsReady v p me
  ready_of {p = p} {me = me} ready = subst (λ (x : Words). IsReady x p me) at ready

  module _ (p q : Pass) {me : CallerNo} where
    pub acts_at : {acts : List Act} → ActsClause me acts (view w p) (view w q) → ActsClause me acts (view v p) (view v q)
    acts_at {acts = acts} clause = subst (λ (x : Words). ActsClause me acts (view x p) (view x q)) at clause

    pub call_at : {R : Type 0} {Shape : List Act → R → Type 0} {answer : R}
        → CallClause me Shape (view w p) (view w q) answer → CallClause me Shape (view v p) (view v q) answer
    call_at {Shape = Shape} {answer = answer} call =
        subst (λ (x : Words). CallClause me Shape (view x p) (view x q) answer) at call

    -- the same of a shape that the limits are part of
    pub call_on : {R : Type 0} {answer : R} (Shape : Limits → List Act → R → Type 0)
        → CallClause me (Shape (limits_of w)) (view w p) (view w q) answer
        → CallClause me (Shape (limits_of v)) (view v p) (view v q) answer
    call_on {answer = answer} Shape call =
        subst (λ (x : Words). CallClause me (Shape (limits_of x)) (view x p) (view x q) answer) at call

  module _ {p q : Pass} {me : CallerNo} {R : Type 0} {Shape : List Act → R → Type 0} {answer : R}
      {selectors : List (Option HeldSelector)} {progress : Progress} where
    -- after a call that leaves the caller no pin
    pub acting_unpinned : SparesAll Shape → CallClause me Shape (view w p) (view w q) answer → HasNoPin (view w q) me
        → IsReady w q me → IsActing v p me selectors progress → IsActing v q me selectors progress
    acting_unpinned spares call none ready acting =
        let clause = acts_at p q call.acts in
        record {
          may = may_call_unpinned clause (subst (λ (x : Words). HasNoPin (view x q) me) at none) (ready_of ready)
              acting.may;
          lists = keeps_lists clause me selectors acting.lists;
          goes_on = keeps_progress clause progress (λ t. spares t _ answer call.shape) acting.goes_on;
        }

    -- after a call that gives its pins back
    pub acting_after : GoesOn Shape → CallClause me Shape (view w p) (view w q) answer → IsReady w q me
        → IsActing v p me selectors progress → IsActing v q me selectors progress
    acting_after goes call ready acting = record {
      may = may_call_after goes.pins (call_at p q call) (ready_of ready) acting.may;
      lists = keeps_lists (acts_at p q call.acts) me selectors acting.lists;
      goes_on = keeps_progress (acts_at p q call.acts) progress (λ t. goes.spares t _ answer call.shape) acting.goes_on;
    }

-- a caller that has no list keeps none
pub keeps_none : (pass : PassView) (me : CallerNo) (selectors : List (Option HeldSelector))
    → ((s : SelNo) → held_in selectors s ≡ record { number = s; list = None }) → KeepsLists pass me selectors
keeps_none pass me selectors none = record {
  numbers = λ s. ap (λ (x : HeldSelector). x.number) (none s);
  had = λ s. subst (λ (x : HeldSelector). IfSome x.list (HasList pass me)) (sym (none s)) tt;
}
