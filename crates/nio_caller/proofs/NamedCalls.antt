-- A look and then a call are one call on the name.
use Rattle.std.proofs.Common.{◌≡◌, true, Option, Some, None, Result, Ok, Err, List, refl, ap, sym, ◌∙◌, subst}
use Rattle.std.specs.Prelude.{IfOk, OnErr}
use Rattle.nio_base.specs.declared.limits.Limits.{Limits}
use Rattle.nio_base.specs.declared.numbers.CallerNo.{CallerNo}
use Rattle.nio_base.specs.declared.numbers.SelNo.{SelNo}
use Rattle.nio_history.specs.PassViews.{PassView}
use Rattle.nio_history.specs.declared.act.Act.{Act}
use Rattle.nio_poller.proofs.Trying.{then_nothing}
use Rattle.nio_select.specs.InHand.{HeldSelector}
use Rattle.nio_select.specs.KeyChanges.{TakesNote}
use Rattle.nio_select.specs.Listed.{ok_seen}
use Rattle.nio_select.specs.declared.changes.KeyChange.{KeyChange}
use Rattle.nio_steps.specs.declared.looked.LookedKey.{LookedKey}
use Rattle.nio_steps.proofs.CallLaws.{call_as}
use Rattle.nio_steps.proofs.WaitingLaws.{then_call}
use Rattle.nio_steps.specs.Calls.{CallClause}
use Rattle.nio_steps.specs.Waiting.{Then}
use Rattle.nio_words.specs.Passes.{limits_of}
use Rattle.nio_words.specs.Views.{view}
use Rattle.nio_words.specs.declared.words.Pass.{Pass}
use Rattle.nio_words.specs.declared.words.Words.{Words}
use Rattle.nio_caller.proofs.Calls.{call_at, still_has}
use Rattle.nio_caller.proofs.Several.{call_moved, same_then}
use Rattle.nio_caller.specs.Callers.{Acting, Progress, StillHas, closing_in, held_in, sees, selection_in}
use Rattle.nio_caller.specs.Selections.{CallsOn, KeepsOthers}
use Rattle.nio_caller.specs.NamedCalls.{Calls, Does, Gives, IfCalled, IfFound, IfUncalled, MayRefuse, as_called}
use Rattle.nio_caller.specs.declared.refusal.CallError.TheVariants.{Refused}

abbrev pub acting : Words → Pass → CallerNo → List (Option HeldSelector) → Progress → Acting
acting w p me selectors progress =
    record { table = w; pass = p; number = me; selectors = selectors; progress = progress }

pub still_of : {R : Type 0} {Shape : Limits → List Act → R → Type 0} {c0 c1 : Acting} {answer : R}
    → Calls Shape c0 c1 answer → StillHas (sees c0) (sees c1)
still_of calls = still_has calls.call.acts

-- a call below, on the caller's table, with the fields of the caller
pub calls_by : {R : Type 0} {w v : Words} {p q : Pass} {me : CallerNo} {selectors : List (Option HeldSelector)} {progress : Progress}
    → w ≡ v → (Shape : Limits → List Act → R → Type 0) (answer : R)
    → CallClause me (Shape (limits_of w)) (view w p) (view w q) answer
    → Calls Shape (acting v p me selectors progress) (acting v q me selectors progress) answer
calls_by {p = p} {q = q} {me = me} at Shape answer call = record {
  same = record { table = refl; number = refl };
  lists = refl;
  progress = refl;
  call = subst (λ (x : Words). CallClause me (Shape (limits_of x)) (view x p) (view x q) answer) at call;
}

-- ---- a look, and what comes of it

module _ {A R : Type 0} {Finds : Limits → List Act → Option A → Type 0} {c0 c1 : Acting} where
  -- the name wasn't found
  pub missed : (Shape : Limits → List Act → R → Type 0) (refusal : R) → Calls Finds c0 c1 None
      → Calls (λ l. Then (Finds l) (IfFound refusal (Shape l))) c0 c1 refusal
  missed Shape refusal look = record {
    same = look.same;
    lists = look.lists;
    progress = look.progress;
    call = then_nothing (IfFound refusal (Shape (limits_of c0.table))) refusal look.call (refl, refl);
  }

  -- it was found, and the call is made
  pub met : {c2 : Acting} {name : A} (Shape : Limits → List Act → R → Type 0) (refusal answer : R)
      → Calls Finds c0 c1 (Some name) → Calls Shape c1 c2 answer
      → Calls (λ l. Then (Finds l) (IfFound refusal (Shape l))) c0 c2 answer
  met Shape refusal answer look made = record {
    same = same_then look.same made.same;
    lists = made.lists ∙ look.lists;
    progress = made.progress ∙ look.progress;
    call = then_call {Second = IfFound refusal (Shape (limits_of c0.table))} {answer = answer} look.call
        (call_moved Shape answer look.same made.call);
  }

  -- the same, with a call below
  pub met_by : {w v : Words} {p q : Pass} {me : CallerNo} {selectors : List (Option HeldSelector)} {progress : Progress} {name : A}
      → w ≡ v → (Shape : Limits → List Act → R → Type 0) (refusal answer : R) → Calls Finds c0 c1 (Some name)
      → acting v p me selectors progress ≡ c1 → CallClause me (Shape (limits_of w)) (view w p) (view w q) answer
      → Calls (λ l. Then (Finds l) (IfFound refusal (Shape l))) c0 (acting v q me selectors progress) answer
  met_by {v = v} {q = q} {me = me} {selectors = selectors} {progress = progress} at Shape refusal answer look is call =
      met Shape refusal answer look
      (subst (λ (x : Acting). Calls Shape x (acting v q me selectors progress) answer) is (calls_by at Shape answer call))

-- ---- what is answered

pub does_call : {me : CallerNo} {v0 v1 : PassView} (Shape : List Act → Unit {0} → Type 0) → CallClause me Shape v0 v1 tt
    → CallClause me (Does Shape) v0 v1 true
does_call Shape call = call_as (Does Shape) true (λ xs run. (refl, run)) call

pub gives_call : {R : Type 0} {me : CallerNo} {v0 v1 : PassView} (Shape : List Act → R → Type 0) (answer : R)
    → CallClause me Shape v0 v1 answer → CallClause me (Gives Shape) v0 v1 (Some answer)
gives_call Shape answer call = call_as (Gives Shape) (Some answer) (λ xs run. run) call

module _ {T E : Type 0} where
  refuses : (Shape : List Act → Result T E → Type 0) (answer : Result T E) (acts : List Act) → Shape acts answer
      → MayRefuse Shape acts (as_called answer)
  refuses Shape (Ok value) acts run = run
  refuses Shape (Err error) acts run = run

  pub refuses_call : {me : CallerNo} {v0 v1 : PassView} (Shape : List Act → Result T E → Type 0) (answer : Result T E)
      → CallClause me Shape v0 v1 answer → CallClause me (MayRefuse Shape) v0 v1 (as_called answer)
  refuses_call Shape answer call = call_as (MayRefuse Shape) (as_called answer) (refuses Shape answer) call

  pub if_called : (P : Result T E → Type 0) (answer : Result T E) → P answer → IfCalled (as_called answer) P
  if_called P (Ok value) p = p
  if_called P (Err error) p = p

  -- a call that was made isn't refused for a name
  pub was_called : (P : Type 0) (answer : Result T E) → IfUncalled (as_called answer) P
  was_called P (Ok value) = tt
  was_called P (Err error) = tt

  pub err_called : (P : Type 0) (answer : Result T E) → OnErr answer P → OnErr (as_called answer) P
  err_called P (Ok value) p = tt
  err_called P (Err error) p = p

  pub ok_called : (P : T → Type 0) (answer : Result T E) → IfOk answer P → IfOk (as_called answer) P
  ok_called P (Ok value) p = p
  ok_called P (Err error) p = tt

  pub refused_is : (answer : Result T E) (error : E) → as_called answer ≡ Err (Refused error) → answer ≡ Err error
  refused_is (Ok value) error same = absurd (cc same)
  refused_is (Err e) error same = cc same

-- the same, with a view of the value
pub seen_refusal : {A B E : Type 0} {me : CallerNo} {v0 v1 : PassView} (Shape : List Act → Result B E → Type 0)
    (see : A → B) (answer : Result A E) → CallClause me Shape v0 v1 (ok_seen see answer)
    → CallClause me (MayRefuse Shape) v0 v1 (ok_seen see (as_called answer))
seen_refusal Shape see (Ok value) call = refuses_call Shape (Ok (see value)) call
seen_refusal Shape see (Err error) call = refuses_call Shape (Err error) call

-- a call of the caller's own whose refusal is passed on
pub calls_refused : {T E : Type 0} {c0 c1 : Acting} (Shape : Limits → List Act → Result T E → Type 0) (answer : Result T E)
    → Calls Shape c0 c1 answer → Calls (λ l. MayRefuse (Shape l)) c0 c1 (as_called answer)
calls_refused {c0 = c0} Shape answer call = record {
  same = call.same;
  lists = call.lists;
  progress = call.progress;
  call = refuses_call (Shape (limits_of c0.table)) answer call.call;
}

-- ---- with the fields of a caller

-- what a caller has seen, its pass has at the table of a call
pub seen_at : {w v : Words} {p : Pass} {me : CallerNo} {selectors : List (Option HeldSelector)} {progress : Progress} {c : Acting} → w ≡ v
    → (Has : PassView → Type 0) → acting v p me selectors progress ≡ c → Has (sees c) → Has (view w p)
seen_at {p = p} at Has is has =
    subst (λ (x : Words). Has (view x p)) (sym at) (subst (λ (x : Acting). Has (sees x)) (sym is) has)

pub calls_from : {R : Type 0} {w v : Words} {p q : Pass} {me : CallerNo} {selectors : List (Option HeldSelector)} {progress : Progress}
    {c : Acting} → w ≡ v → (Shape : Limits → List Act → R → Type 0) (answer : R) → acting v p me selectors progress ≡ c
    → CallClause me (Shape (limits_of w)) (view w p) (view w q) answer
    → Calls Shape c (acting v q me selectors progress) answer
calls_from {v = v} {q = q} {me = me} {selectors = selectors} {progress = progress} at Shape answer is call =
    subst (λ (x : Acting). Calls Shape x (acting v q me selectors progress) answer) is (calls_by at Shape answer call)

-- ---- calls that change what the caller has of a selector

-- who has the lists that it had, and in progress what it had, has of each selector what it had
pub has_same : {c0 c1 : Acting} (s : SelNo) → c1.selectors ≡ c0.selectors → c1.progress ≡ c0.progress
    → KeepsOthers s c0 c1
has_same s lists progress = record {
  lists = λ t other. ap (λ (xs : List (Option HeldSelector)). held_in xs t) lists;
  selections = λ t other. ap (λ (x : Progress). selection_in x t) progress;
  closings = λ t other. ap (λ (x : Progress). closing_in x t) progress;
}

pub others_then : {c0 c1 c2 : Acting} (s : SelNo) → KeepsOthers s c0 c1 → KeepsOthers s c1 c2 → KeepsOthers s c0 c2
others_then s first second = record {
  lists = λ t other. second.lists t other ∙ first.lists t other;
  selections = λ t other. second.selections t other ∙ first.selections t other;
  closings = λ t other. second.closings t other ∙ first.closings t other;
}

pub on_calls : {R : Type 0} {Shape : Limits → List Act → R → Type 0} {c0 c1 : Acting} {answer : R} (s : SelNo)
    → Calls Shape c0 c1 answer → CallsOn s Shape c0 c1 answer
on_calls s calls =
    record { same = calls.same; others = has_same s calls.lists calls.progress; call = calls.call }

pub met_on : {A R : Type 0} {Finds : Limits → List Act → Option A → Type 0} {c0 c1 : Acting} {w v : Words} {p q : Pass}
    {me : CallerNo} {before : List (Option HeldSelector)} {progress : Progress} {name : A} → w ≡ v
    → (after : List (Option HeldSelector)) (later : Progress) (s : SelNo) (Shape : Limits → List Act → R → Type 0)
    (refusal answer : R) → Calls Finds c0 c1 (Some name) → acting v p me before progress ≡ c1
    → CallClause me (Shape (limits_of w)) (view w p) (view w q) answer
    → KeepsOthers s (acting v p me before progress) (acting v q me after later)
    → CallsOn s (λ l. Then (Finds l) (IfFound refusal (Shape l))) c0 (acting v q me after later) answer
met_on {w = w} {v = v} {p = p} {q = q} {me = me} {before = before} {progress = progress} at after later s Shape refusal
    answer look is call others =
    let made = met_by {w = w} {v = v} {p = p} {q = q} {me = me} {selectors = before} {progress = progress} at Shape refusal
    answer look is call in
    record {
      same = record { table = made.same.table; number = made.same.number };
      others = others_then {c1 = acting v q me before progress} s
          (has_same {c1 = acting v q me before progress} s made.lists made.progress)
          (record { lists = others.lists; selections = others.selections; closings = others.closings });
      call = made.call;
    }

-- a call on what is in progress, which looks nothing up
pub made_on : {R : Type 0} {w v : Words} {p q : Pass} {me : CallerNo} {before after : List (Option HeldSelector)}
    {progress later : Progress} {c0 : Acting} → w ≡ v → (s : SelNo) (Shape : List Act → R → Type 0) (answer : R)
    → acting v p me before progress ≡ c0 → CallClause me Shape (view w p) (view w q) answer
    → KeepsOthers s (acting v p me before progress) (acting v q me after later)
    → CallsOn s (λ _. Shape) c0 (acting v q me after later) answer
made_on {v = v} {p = p} {q = q} {me = me} {after = after} {later = later} at s Shape answer is call others =
    subst (λ (x : Acting). CallsOn s (λ _. Shape) x (acting v q me after later) answer) is
    (record { same = record { table = refl; number = refl }; others = others; call = call_at at p q call })

-- a lister took note of what such a call did
pub noted_at : {L : Type 0} {noted : L → KeyChange → L} {asked : List LookedKey} {w v : Words} {p : Pass} {me : CallerNo}
    {before : List (Option HeldSelector)} {progress : Progress} {c0 : Acting} {x y : L} → w ≡ v → (q : Pass)
    (after : List (Option HeldSelector)) (later : Progress) → acting v p me before progress ≡ c0
    → TakesNote noted asked me (view w p) (view w q) x y
    → TakesNote noted asked c0.number (sees c0) (sees (acting v q me after later)) x y
noted_at {noted = noted} {asked = asked} {v = v} {p = p} {me = me} {x = x} {y = y} at q after later is here =
    subst (λ (c : Acting). TakesNote noted asked c.number (sees c) (sees (acting v q me after later)) x y) is
    (subst (λ (u : Words). TakesNote noted asked me (view u p) (view u q) x y) at here)
