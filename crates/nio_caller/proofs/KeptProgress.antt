-- What a caller has in progress it has after a call.
use Rattle.std.proofs.Common.{◌≡◌, ◌≢◌, ℕ, ◌==◌, Bool, true, false, Option, Some, None, List, [], refl, ap, sym, ◌∙◌}
use Rattle.std.proofs.Common.{arith, subst}
use Rattle.std.proofs.Common.{eqb-true, eq-eqb}
use Rattle.std.specs.Prelude.{IfSome}
use Rattle.nio_base.specs.declared.numbers.CallerNo.{CallerNo}
use Rattle.nio_base.specs.declared.numbers.SelNo.{SelNo}
use Rattle.nio_history.specs.PassViews.{PassView, ActsClause}
use Rattle.nio_history.specs.declared.act.Act.{Act}
use Rattle.nio_base.specs.declared.limits.Limits.{Limits}
use Rattle.nio_history.specs.Conditions.{IsSelector}
use Rattle.nio_history.specs.Histories.{mine}
use Rattle.nio_select.specs.Asked.{AreBelow}
use Rattle.nio_select.specs.InHand.{HeldList, InHand, selection_of}
use Rattle.nio_select.specs.InProgress.{HasList, HasShut, IsLister, Selects}
use Rattle.nio_steps.specs.Selections.{IsBegun, IsClosing}
use Rattle.nio_caller.specs.Callers.{IsIdle, KeepsProgress, Progress, closing_in, selection_in}
use Rattle.nio_caller.proofs.Sparing.{Spares, still_selects, still_shut}

-- a selection in progress on selector s, and a closing of it
abbrev pub HasOn : PassView → CallerNo → SelNo → InHand → Type 0
HasOn pass me s x = (x.selector ≡ s) × Selects pass me (selection_of x)

abbrev pub Shut : PassView → CallerNo → SelNo → SelNo → Type 0
Shut pass me s t = (t ≡ s) × HasShut pass me t

if_some : {A : Type 0} (P Q : A → Type 0) (o : Option A) → ((x : A) → P x → Q x) → IfSome o P → IfSome o Q
if_some P Q None gives had = tt
if_some P Q (Some x) gives had = gives x had

if_moved : {A : Type 0} (P : A → Type 0) (o o' : Option A) → o' ≡ o → IfSome o P → IfSome o' P
if_moved {A = A} P o o' same had = subst (λ (x : Option A). IfSome x P) (sym same) had

-- ---- selectors, one and others

is_here : (t s : SelNo) → (t.0 == s.0) ≡ true → t ≡ s
is_here t s is = ap (λ (k : ℕ). record { 0 = k }) (eqb-true t.0 s.0 is)

is_other : (t s : SelNo) → (t.0 == s.0) ≡ false → t ≢ s
is_other t s is = λ same.
    let clash : false ≡ true = sym is ∙ eq-eqb t.0 s.0 (ap (λ (x : SelNo). x.0) same) in absurd cc

other_way : (t s : SelNo) → (t.0 == s.0) ≡ false → (s.0 == t.0) ≡ false
other_way t s is = by_test (s.0 == t.0) refl
  where
    by_test : (b : Bool) → (s.0 == t.0) ≡ b → b ≡ false
    by_test true here =
        let clash : false ≡ true = sym is ∙ eq-eqb t.0 s.0 (sym (eqb-true s.0 t.0 here)) in absurd cc
    by_test false here = refl

-- ---- what is in progress goes on

pub idle_keeps : (pass : PassView) (me : CallerNo) (progress : Progress) → IsIdle progress
    → KeepsProgress pass me progress
idle_keeps pass me progress idle = record {
  selects = λ s. if_moved (HasOn pass me s) None (selection_in progress s) (idle.selections s) tt;
  closes = λ s. if_moved (Shut pass me s) None (closing_in progress s) (idle.closings s) tt;
}

module _ {me : CallerNo} {acts : List Act} {old new : PassView} (clause : ActsClause me acts old new) where
  goes_on_at : (s : SelNo) (x : InHand) → Spares s.0 acts → HasOn old me s x → HasOn new me s x
  goes_on_at s x spares has = (
    has.0,
    still_selects clause (selection_of x)
        (subst (λ (t : SelNo). Spares t.0 acts) (sym has.0) spares) has.1,
  )

  pub keeps_progress : (progress : Progress) → ((t : ℕ) → Spares t acts) → KeepsProgress old me progress
      → KeepsProgress new me progress
  keeps_progress progress spares keeps = record {
    selects = λ s. if_some (HasOn old me s) (HasOn new me s) (selection_in progress s)
        (λ x has. goes_on_at s x (spares s.0) has) (keeps.selects s);
    closes = λ s. if_some (Shut old me s) (Shut new me s) (closing_in progress s)
        (λ t has. (has.0, still_shut clause t has.1)) (keeps.closes s);
  }

  -- a call on selector s, after which this is in progress there
  pub keeps_at : (s : SelNo) (progress after : Progress) → ((t : ℕ) → (s.0 == t) ≡ false → Spares t acts)
      → KeepsProgress old me progress → IfSome (selection_in after s) (HasOn new me s)
      → ((t : SelNo) → t ≢ s → selection_in after t ≡ selection_in progress t) → after.closings ≡ progress.closings
      → KeepsProgress new me after
  keeps_at s progress after spares keeps here others closings = record {
    selects = λ t. by_test t (t.0 == s.0) refl;
    closes = λ t. if_moved (Shut new me t) (closing_in progress t) (closing_in after t)
        (ap (λ (xs : List (Option SelNo)). closing_in (record after { closings = xs }) t) closings)
        (if_some (Shut old me t) (Shut new me t) (closing_in progress t)
        (λ u has. (has.0, still_shut clause u has.1)) (keeps.closes t));
  }
    where
      by_test : (t : SelNo) (b : Bool) → (t.0 == s.0) ≡ b → IfSome (selection_in after t) (HasOn new me t)
      by_test t true is =
          subst (λ (u : SelNo). IfSome (selection_in after u) (HasOn new me u)) (sym (is_here t s is)) here
      by_test t false is =
          if_moved (HasOn new me t) (selection_in progress t) (selection_in after t) (others t (is_other t s is))
          (if_some (HasOn old me t) (HasOn new me t) (selection_in progress t)
          (λ x has. goes_on_at t x (spares t.0 (other_way t s is)) has) (keeps.selects t))

  -- the same of a closing
  pub keeps_closing : (s : SelNo) (progress after : Progress) → ((t : ℕ) → Spares t acts)
      → KeepsProgress old me progress → IfSome (closing_in after s) (Shut new me s)
      → ((t : SelNo) → t ≢ s → closing_in after t ≡ closing_in progress t) → after.selections ≡ progress.selections
      → KeepsProgress new me after
  keeps_closing s progress after spares keeps here others selections = record {
    selects = λ t. if_moved (HasOn new me t) (selection_in progress t) (selection_in after t)
        (ap (λ (xs : List (Option InHand)). selection_in (record after { selections = xs }) t) selections)
        (if_some (HasOn old me t) (HasOn new me t) (selection_in progress t)
        (λ x has. goes_on_at t x (spares t.0) has) (keeps.selects t));
    closes = λ t. by_test t (t.0 == s.0) refl;
  }
    where
      by_test : (t : SelNo) (b : Bool) → (t.0 == s.0) ≡ b → IfSome (closing_in after t) (Shut new me t)
      by_test t true is =
          subst (λ (u : SelNo). IfSome (closing_in after u) (Shut new me u)) (sym (is_here t s is)) here
      by_test t false is =
          if_moved (Shut new me t) (closing_in progress t) (closing_in after t) (others t (is_other t s is))
          (if_some (Shut old me t) (Shut new me t) (closing_in progress t)
          (λ u has. (has.0, still_shut clause u has.1)) (keeps.closes t))

-- what is in progress goes on where the caller did nothing, and has its lists
pub same_keeps : (old new : PassView) (me : CallerNo) (progress : Progress) → new.limits ≡ old.limits
    → mine me new.seen ≡ mine me old.seen → ((list : HeldList) → HasList old me list → HasList new me list)
    → KeepsProgress old me progress → KeepsProgress new me progress
same_keeps old new me progress limits own kept keeps = record {
  selects = λ s. if_some (HasOn old me s) (HasOn new me s) (selection_in progress s) (λ x has. (has.0, selects x has.1))
      (keeps.selects s);
  closes = λ s. if_some (Shut old me s) (Shut new me s) (closing_in progress s) (λ t has. (has.0, shut t has.1))
      (keeps.closes s);
}
  where
    its_list : (s : SelNo) → IsLister old me s → IsLister new me s
    its_list s lister =
        (kept (record { selector = s; number = 0; keys = [] })
        (record { lister = lister; below = λ k d inside. absurd (omega (arith, inside)) })).lister

    selects : (x : InHand) → Selects old me (selection_of x) → Selects new me (selection_of x)
    selects x its = record {
      inside = subst (λ (l : Limits). IsSelector l x.selector) (sym limits) its.inside;
      begun = subst (λ acts. IsBegun acts (selection_of x)) (sym own) its.begun;
      below = subst (λ (l : Limits). AreBelow l.keys x.asked.keys) (sym limits) its.below;
      lister = λ listed. its_list x.selector (its.lister listed);
    }

    shut : (s : SelNo) → HasShut old me s → HasShut new me s
    shut s its = record {
      inside = subst (λ (l : Limits). IsSelector l s) (sym limits) its.inside;
      closing = subst (λ acts. IsClosing acts s) (sym own) its.closing;
    }
