-- What a caller has in progress after a call.
use Rattle.std.proofs.Common.{Ok, List, Option, Some, None, sym, subst}
use Rattle.std.proofs.Common.{refl, Result, Err}
use Rattle.std.specs.Prelude.{IsTrue, IfSome, IfErr, is_some, option_map}
use Rattle.nio_base.specs.declared.numbers.CallerNo.{CallerNo}
use Rattle.nio_base.specs.declared.numbers.SelNo.{SelNo}
use Rattle.nio_base.specs.declared.limits.Limits.{Limits}
use Rattle.nio_history.proofs.PassViews.{lasts_over, selector_after}
use Rattle.nio_history.specs.Conditions.{IsSelector}
use Rattle.nio_history.specs.Histories.{mine}
use Rattle.nio_history.specs.PassViews.{PassView, ActsClause, done_between}
use Rattle.nio_history.specs.Permanent.{list_had_by}
use Rattle.nio_history.specs.declared.act.Act.{Act}
use Rattle.nio_history.specs.declared.found.Mode.{Mode}
use Rattle.nio_steps.proofs.BeginLaws.{begin-parts}
use Rattle.nio_steps.proofs.SelectionLaws.{begins_selection}
use Rattle.nio_steps.specs.Calls.{CallClause}
use Rattle.nio_steps.specs.SelectCalls.{Selection, Begins}
use Rattle.nio_steps.specs.Selections.{IsBegun}
use Rattle.nio_steps.specs.declared.looked.LookedKey.{LookedKey}
use Rattle.nio_select.specs.Asked.{AreBelow}
use Rattle.nio_select.specs.InHand.{InHand, HeldList, list_of, selection_of}
use Rattle.nio_select.specs.declared.stamp.Stamp.{Stamp}
use Rattle.nio_select.specs.InProgress.{Selects, IsLister, HasList}

-- who has a list has it after a call
pub lister_after : {me : CallerNo} {acts : List Act} {v0 v1 : PassView} {s : SelNo} → ActsClause me acts v0 v1
    → IsLister v0 me s → IsLister v1 me s
lister_after {me = me} {s = s} clause lister = record {
  selector = selector_after clause lister.selector;
  had = lasts_over (list_had_by s me) clause lister.had;
}

pub below_after : {me : CallerNo} {acts : List Act} {v0 v1 : PassView} (keys : List LookedKey) → ActsClause me acts v0 v1
    → AreBelow v0.limits.keys keys → AreBelow v1.limits.keys keys
below_after keys clause below = subst (λ (l : Limits). AreBelow l.keys keys) (sym clause.limits) below

pub list_after : {me : CallerNo} {acts : List Act} {v0 v1 : PassView} (list : HeldList) → ActsClause me acts v0 v1
    → HasList v0 me list → HasList v1 me list
list_after list clause has = record {
  lister = lister_after clause has.lister;
  below = below_after list.keys clause has.below;
}

-- a call that begins a selection leaves it in progress
pub selects : (s : SelNo) (mode : Mode) (known : Option (List LookedKey)) {me : CallerNo} {v0 v1 : PassView}
    (selection : Selection) → IsSelector v0.limits s → AreBelow v0.limits.keys selection.looked
    → (IsTrue selection.listed → IsLister v0 me selection.selector)
    → CallClause me (Begins s mode known) v0 v1 (Ok selection) → Selects v1 me selection
selects s mode known {me = me} {v0 = v0} {v1 = v1} selection inside below lister call = record {
  inside = subst (λ (l : Limits). IsSelector l selection.selector) (sym call.acts.limits)
      (subst (IsSelector v0.limits) (sym (begin-parts s mode known (done_between me v0 v1) selection call.shape).selector)
      inside);
  begun = subst (λ own. IsBegun own selection) (sym call.acts.history.own)
      (begins_selection s mode known (mine me v0.seen) (done_between me v0 v1) selection call.shape);
  below = below_after selection.looked call.acts below;
  lister = λ listed. lister_after call.acts (lister listed);
}

-- the list of a selection comes back
pub list_back : {me : CallerNo} {acts : List Act} {v0 v1 : PassView} (s : InHand) → ActsClause me acts v0 v1
    → Selects v0 me (selection_of s) → IfSome (list_of s) (HasList v1 me)
list_back {me = me} {v0 = v0} {v1 = v1} s clause selects = by_stamp s.asked.stamp selects.lister
  where
    by_stamp : (o : Option Stamp) → (IsTrue (is_some o) → IsLister v0 me s.selector)
        → IfSome (option_map (λ (stamp : Stamp). record { selector = s.selector; number = stamp.number; keys = s.asked.keys }) o)
        (HasList v1 me)
    by_stamp None lister = tt
    by_stamp (Some stamp) lister = record {
      lister = lister_after clause (lister refl);
      below = below_after s.asked.keys clause selects.below;
    }

-- who took the list has it
pub taken_list : (pass : PassView) (me : CallerNo) (is : HeldList → Type 0) (o : Option HeldList)
    → IfSome o (λ list. is list × HasList pass me list) → IfSome o (HasList pass me)
taken_list pass me is None given = tt
taken_list pass me is (Some list) given = given.1

-- what holds however a call ended, and whatever is given
pub if_err : {A E : Type 0} (P : Type 0) (result : Result A E) → P → IfErr result (λ _. P)
if_err P (Ok value) here = tt
if_err P (Err error) here = here

pub if_some : {A : Type 0} (P : Type 0) (o : Option A) → P → IfSome o (λ _. P)
if_some P None here = tt
if_some P (Some value) here = here
