-- A selection that is told, and goes on.
use Rattle.std.proofs.Common.{◌≡◌, ℕ, Option, List, ap, sym, ◌∙◌, subst}
use Rattle.nio_base.specs.declared.numbers.CallerNo.{CallerNo}
use Rattle.nio_base.specs.declared.numbers.SelNo.{SelNo}
use Rattle.nio_history.specs.Conditions.{IsSelector}
use Rattle.nio_history.specs.PassViews.{PassView, ActsClause, done_between}
use Rattle.nio_history.specs.Histories.{mine}
use Rattle.nio_history.specs.declared.act.Act.{Act}
use Rattle.nio_steps.proofs.CallLaws.{call_as, returned, ran_then, left_of_call}
use Rattle.nio_steps.proofs.SelectionLaws.{again_goes_on}
use Rattle.nio_steps.specs.Calls.{CallClause}
use Rattle.nio_steps.specs.Runs.{Completes}
use Rattle.nio_steps.specs.SelectCalls.{Selection, Poll, Tells, ToldReply, mark_entry, after_marks, told_plan}
use Rattle.nio_steps.specs.Selections.{IsBegun}
use Rattle.nio_steps.specs.Sweeps.{sweep_over}
use Rattle.nio_steps.specs.declared.looked.LookedKey.{LookedKey}
use Rattle.std.specs.Prelude.{IsTrue, IfSome, is_some}
use Rattle.nio_select.proofs.Progress.{below_after, lister_after, list_back}
use Rattle.nio_select.specs.Asked.{AreBelow}
use Rattle.nio_select.specs.InHand.{InHand, HeldList, list_of, selection_of}
use Rattle.nio_select.specs.InProgress.{Selects, GivesBack, IsLister, HasList, told_reply, IfAgain, IfDone}
use Rattle.nio_select.specs.declared.selecting.After.{After}
use Rattle.nio_select.specs.declared.selecting.After.TheVariants as after

-- the marks, and what follows them
pub tells : {me : CallerNo} {s : SelNo} {asked : List LookedKey} {pairs : List (ℕ × ℕ)} {next : Selection} {count : ℕ}
    {answer : ToldReply} {v0 v1 v2 : PassView}
    (selection : Selection) (poll : Poll) → s ≡ selection.selector → asked ≡ selection.looked → pairs ≡ poll.pairs
    → next ≡ selection
    → CallClause me (Completes (sweep_over asked (mark_entry s pairs) 0)) v0 v1 count
    → CallClause me (Completes (after_marks next poll.elapsed count)) v1 v2 answer
    → CallClause me (Tells selection poll) v0 v2 answer
unfolding told_plan
tells {me = me} {s = s} {asked = asked} {pairs = pairs} {count = count} {answer = answer} {v0 = v0} {v1 = v1} {v2 = v2}
    selection poll on looked told same marks after =
    call_as (Tells selection poll) answer (λ acts here. here)
    (returned {plan = told_plan selection poll.pairs poll.elapsed}
    (ran_then (after_marks selection poll.elapsed) marks' (left_of_call after')))
  where
    marks' : CallClause me (Completes (sweep_over selection.looked (mark_entry selection.selector poll.pairs) 0)) v0 v1
        count
    marks' =
        subst (λ (s' : SelNo). CallClause me (Completes (sweep_over selection.looked (mark_entry s' poll.pairs) 0)) v0
        v1 count) on
        (subst (λ (xs : List LookedKey). CallClause me (Completes (sweep_over xs (mark_entry s poll.pairs) 0)) v0 v1
        count) looked
        (subst (λ (ps : List (ℕ × ℕ)). CallClause me (Completes (sweep_over asked (mark_entry s ps) 0)) v0 v1 count)
        told marks))

    after' : CallClause me (Completes (after_marks selection poll.elapsed count)) v1 v2 answer
    after' = subst (λ (x : Selection). CallClause me (Completes (after_marks x poll.elapsed count)) v1 v2 answer) same
        after

pub goes_on : {me : CallerNo} {v0 v1 : PassView} (selecting : InHand) (poll : Poll) (result : After)
    → Selects v0 me (selection_of selecting) → IfAgain result (λ s. s ≡ selecting)
    → CallClause me (Tells (selection_of selecting) poll) v0 v1 (told_reply result)
    → IfAgain result (λ s. (s ≡ selecting) × Selects v1 me (selection_of s))
goes_on selecting poll (after.Done answer list) selects same call = tt
goes_on {me = me} {v0 = v0} {v1 = v1} selecting poll (after.Again next) selects same call = (
  same,
  record {
    inside = subst (λ l. IsSelector l next.selector) (sym call.acts.limits)
        (subst (λ (s : SelNo). IsSelector v0.limits s) (ap (λ x. x.selector) (sym same)) selects.inside);
    begun = subst (λ own. IsBegun own (selection_of next)) (sym call.acts.history.own)
        (again_goes_on (mine me v0.seen) (selection_of selecting) (selection_of next) poll (done_between me v0 v1)
        selects.begun call.shape);
    below = below_after next.asked.keys call.acts
        (subst (λ (s : InHand). AreBelow v0.limits.keys s.asked.keys) (sym same) selects.below);
    lister = λ listed. lister_after call.acts
        (subst (λ (s : InHand). IsTrue (is_some s.asked.stamp) → IsLister v0 me s.selector) (sym same) selects.lister listed);
  },
)

pub again_as : (result : After) (s next : InHand) → next ≡ s → IfAgain result (λ x. x ≡ next) → IfAgain result (λ x. x ≡ s)
again_as (after.Done answer list) s next same is = tt
again_as (after.Again x) s next same is = is ∙ same

pub never_again : (P : InHand → Type 0) (result : After) → IfAgain result (λ _. ⊥) → IfAgain result P
never_again P (after.Done answer list) none = tt
never_again P (after.Again s) none = absurd none

-- what took note of no mark, as there was none, and then of nothing
pub again_lists : {L : Type 0} (count : ℕ) (result : After) (before marked now : L)
    → IfAgain result (λ _. (count ≡ 0) × (now ≡ marked)) → (count ≡ 0 → marked ≡ before)
    → IfAgain result (λ _. now ≡ before)
again_lists count (after.Done answer list) before marked now none marks = tt
again_lists count (after.Again x) before marked now none marks = none.1 ∙ marks none.0

-- the list that comes back is that of the selection
pub list_given : {me : CallerNo} {acts : List Act} {v0 v1 : PassView} (s next : InHand) (result : After) → next ≡ s
    → Selects v0 me (selection_of s) → ActsClause me acts v0 v1 → IfDone result (λ list. list ≡ list_of next)
    → IfDone result (GivesBack v1 me s)
list_given {me = me} {v1 = v1} s next (after.Done answer list) same selects clause is =
    let its : list ≡ list_of s = is ∙ ap list_of same in
    record {
      back = its;
      had = subst (λ (o : Option HeldList). IfSome o (HasList v1 me)) (sym its) (list_back s clause selects);
    }
list_given s next (after.Again x) same selects clause is = tt
