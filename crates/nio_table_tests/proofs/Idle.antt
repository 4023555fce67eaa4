-- For the tests: what two callers have between their calls stays, and so does what one has in progress beside calls of
-- the other.
use Rattle.std.proofs.Common.{◌≡◌, sym, ap, ◌∙◌, subst, eq-eqb, Bool, List, ◌++◌, Option, Some, None}
use Rattle.std.proofs.lemmas.List.{append_assoc}
use Rattle.std.specs.Prelude.{IfSome}
use Rattle.std.specs.Int.{bit_at}
use Rattle.nio_base.specs.declared.limits.Limits.{Limits}
use Rattle.nio_base.specs.declared.numbers.SelNo.{SelNo}
use Rattle.nio_channel.proofs.Idle.{idle_after, idle_after_other, zero_other}
use Rattle.nio_channel.specs.Idle.{AreIdle, zero, one}
use Rattle.nio_history.proofs.PassViews.{lasts_over, selector_after}
use Rattle.nio_history.specs.Conditions.{IsSelector}
use Rattle.nio_history.specs.Histories.{mine}
use Rattle.nio_history.specs.OwnEvents.{gives_turn}
use Rattle.nio_history.specs.PassViews.{PassView, Holds as HoldsNumber, ActsClause, done_between}
use Rattle.nio_history.specs.Turns.{removes_on}
use Rattle.nio_history.specs.declared.act.Act.{Act}
use Rattle.nio_history.specs.Permanent.{list_had_by}
use Rattle.nio_select.proofs.Progress.{below_after, lister_after}
use Rattle.nio_select.specs.InProgress.{Selects, HasShut}
use Rattle.nio_steps.proofs.PinBack.{no_pin_after}
use Rattle.nio_steps.proofs.SelectionLaws.{none_of-append}
use Rattle.nio_steps.proofs.WorksLaws.{works_only_there}
use Rattle.nio_steps.specs.Calls.{CallClause}
use Rattle.nio_steps.specs.PinLaws.{GivesPinsBack}
use Rattle.nio_steps.specs.SelectCalls.{Selection}
use Rattle.nio_steps.specs.Laws.{LeavesSelector, is_selector}
use Rattle.nio_steps.specs.Runs.{Completes}
use Rattle.nio_steps.specs.Selections.{marks_on, IsBegun, IsClosing}
use Rattle.nio_steps.specs.TableCalls.{TableCall, row_of}
use Rattle.nio_words.specs.Passes.{IsReady, numbers_of}
use Rattle.nio_words.specs.Views.{view}
use Rattle.nio_words.specs.declared.words.Pass.{Pass}
use Rattle.nio_words.specs.declared.words.Words.{Words}

-- ---- after a call of the first, and of the other

pub idle_call : {R : Type 0} {Shape : List Act → R → Type 0} {answer : R} {w : Words} {p q : Pass} → GivesPinsBack Shape
    → CallClause zero Shape (view w p) (view w q) answer → IsReady w q zero
    → AreIdle w p → AreIdle w q
idle_call {answer = answer} gives call ready idle =
    idle_after call.acts ready.pass (no_pin_after (λ acts shape. gives acts answer shape) call idle.zero_unpinned) idle

pub idle_call_other : {R : Type 0} {Shape : List Act → R → Type 0} {answer : R} {w : Words} {p q : Pass}
    → GivesPinsBack Shape → CallClause one Shape (view w p) (view w q) answer → IsReady w q one
    → AreIdle w p → AreIdle w q
idle_call_other {answer = answer} gives call ready idle =
    idle_after_other call.acts ready.pass (no_pin_after (λ acts shape. gives acts answer shape) call idle.one_unpinned)
    idle

-- ---- what is in progress beside calls of the other caller

pub zero_held : {w : Words} {p : Pass} → AreIdle w p → HoldsNumber (view w p) zero
zero_held {p = p} idle = eq-eqb (bit_at (numbers_of p) 0) 1 idle.zero_ready.number

pub one_held : {w : Words} {p : Pass} → AreIdle w p → HoldsNumber (view w p) one
one_held {p = p} idle = eq-eqb (bit_at (numbers_of p) 1) 1 idle.one_ready.number

pub selects_beside : {acts : List Act} {v0 v1 : PassView} {selection : Selection} → ActsClause one acts v0 v1
    → HoldsNumber v0 zero → Selects v0 zero selection → Selects v1 zero selection
selects_beside {selection = selection} clause held has = record {
  inside = subst (λ (l : Limits). IsSelector l selection.selector) (sym clause.limits) has.inside;
  begun = subst (λ own. IsBegun own selection) (sym (clause.history.others zero held zero_other)) has.begun;
  below = below_after selection.looked clause has.below;
  lister = λ listed. record {
    selector = selector_after clause (has.lister listed).selector;
    had = lasts_over (list_had_by selection.selector zero) clause (has.lister listed).had;
  };
}

pub closes_beside : {acts : List Act} {v0 v1 : PassView} {s : SelNo} → ActsClause zero acts v0 v1 → HoldsNumber v0 one
    → HasShut v0 one s → HasShut v1 one s
closes_beside {s = s} clause held has = record {
  inside = subst (λ (l : Limits). IsSelector l s) (sym clause.limits) has.inside;
  closing = subst (λ own. IsClosing own s) (sym (clause.history.others one held (λ same. zero_other (sym same))))
      has.closing;
}

-- what is in progress, if anything, still is
pub some_still : {A : Type 0} {P Q : A → Type 0} (o : Option A) → IfSome o P → ((x : A) → P x → Q x) → IfSome o Q
some_still (Some x) here still = still x here
some_still None here still = here

-- ---- a selection in progress after another call of the same caller

-- the selection goes on over acts that neither give the turn back nor mark or remove a key there
longer : (own : List Act) (x : Selection) (acts : List Act) → IsBegun own x → LeavesSelector x.selector.0 acts
    → IsBegun (own ++ acts) x
longer own x acts begun leaves = record {
  earlier = begun.earlier;
  beginning = begun.beginning;
  since = begun.since ++ acts;
  parts = ap (λ xs. xs ++ acts) begun.parts
      ∙ (append_assoc begun.earlier (begun.beginning ++ begun.since) acts
      ∙ ap (λ xs. begun.earlier ++ xs) (append_assoc begun.beginning begun.since acts));
  known = begun.known;
  begins = begun.begins;
  goes_on = none_of-append (gives_turn x.selector.0) begun.since acts begun.goes_on leaves.gives;
  unmarked = none_of-append (marks_on x.selector.0) begun.since acts begun.unmarked leaves.marks;
  unremoved = none_of-append (removes_on x.selector.0) begun.since acts begun.unremoved leaves.removes;
}

pub selects_after : (call : TableCall) (l : Limits) (lacks : Bool) {answer : (row_of call).Reply} {v0 v1 : PassView}
    → (row_of call).works_on ≡ None → CallClause zero (Completes ((row_of call).plan l lacks)) v0 v1 answer
    → (selection : Selection) → Selects v0 zero selection → Selects v1 zero selection
selects_after call l lacks {answer = answer} {v0 = v0} {v1 = v1} nowhere clause selection has = record {
  inside = subst (λ (k : Limits). IsSelector k selection.selector) (sym clause.acts.limits) has.inside;
  begun = subst (λ own. IsBegun own selection) (sym clause.acts.history.own)
      (longer (mine zero v0.seen) selection (done_between zero v0 v1) has.begun
      (works_only_there l lacks call (done_between zero v0 v1) answer selection.selector.0 clause.shape
      (ap (is_selector selection.selector.0) nowhere)));
  below = below_after selection.looked clause.acts has.below;
  lister = λ listed. lister_after clause.acts (has.lister listed);
}
